use Rattle.std.proofs.Common.{◌≡◌, drop, map}
use Rattle.vt_stores.specs.Stores.{seen_entry}
use Rattle.vt_machine.specs.Replacements.{AreReplacements}
use Rattle.vt_machine.proofs.replacement.all_replace.Given as goal

abbrev pub invariant-loop-id : goal.invariant-loop-id
invariant-loop-id g l =
    (map seen_entry l.id-items ≡ l.update)
    × (AreReplacements (g.S.Store.contents l.store) (map seen_entry (drop l.id-index l.id-items)) → AreReplacements (g.S.Store.contents l.store) l.update)
