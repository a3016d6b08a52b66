use Rattle.std.proofs.Common.{◌≡◌, ◌++◌, drop}
use Rattle.vt_verify.specs.Triggers.{macros_at}
use Rattle.vt_verify.proofs.listing.macros_at.Given as goal

abbrev pub invariant-loop-entry : goal.invariant-loop-entry
invariant-loop-entry l = l.macros.items ++ macros_at l.event (drop l.entry-index l.entries) ≡ macros_at l.event l.entries
