use Rattle.std.proofs.Common.{◌≡◌, ◌≤◌, ◌<◌, ℕ, drop}
use Rattle.vt_verify.specs.Triggers.{macros_at}
use Rattle.vt_verify.proofs.listing.next_entry.Given as goal

abbrev pub invariant-loop-entry : goal.invariant-loop-entry
invariant-loop-entry l =
    (l.from ≤ l.next) × (l.next ≤ 27)
    × ((event : ℕ) → l.from ≤ event → event < l.next → macros_at event l.entries ≡ macros_at event (drop l.entry-index l.entries))
