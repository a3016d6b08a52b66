use Rattle.std.proofs.Common.{map}
use Rattle.vt_stores.specs.Stores.{seen_entry}
use Rattle.vt_verify.proofs.lemmas.stores.UpdatedStore.{IsUpdating}
use Rattle.vt_verify.proofs.objects.updated.Given as goal

abbrev pub invariant-loop-place : goal.invariant-loop-place
invariant-loop-place g l = IsUpdating (g.S.Store.contents l.store) l.update (map seen_entry l.entries.items) l.place
