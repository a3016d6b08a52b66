use Rattle.std.proofs.Common.{◌≡◌, take, map}
use Rattle.vt_stores.specs.Stores.{seen_entry}
use Rattle.check_inspect.proofs.inclusions.copies.Given as goal

abbrev pub invariant-loop-id : goal.invariant-loop-id
invariant-loop-id l = (map seen_entry l.objects ≡ l.fn.objects) × (map seen_entry l.entries.items ≡ map seen_entry (take l.id-index l.objects))
