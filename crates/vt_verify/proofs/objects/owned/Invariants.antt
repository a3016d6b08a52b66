use Rattle.std.proofs.Common.{◌≡◌, map}
use Rattle.vt_stores.specs.Stores.{seen_entry}
use Rattle.vt_verify.proofs.objects.owned.Given as goal

abbrev pub invariant-loop-id : goal.invariant-loop-id
invariant-loop-id l = map seen_entry l.entries.items ≡ map seen_entry l.yielded
