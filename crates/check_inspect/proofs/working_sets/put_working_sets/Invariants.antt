use Rattle.std.proofs.Common.{◌≡◌, ◌++◌, drop, map}
use Rattle.vt_stores.specs.Stores.{seen_entry}
use Rattle.vt_stores.specs.Shapes.{shape_of}
use Rattle.check_inspect.specs.Findings.{working_set_ids, set_findings}
use Rattle.check_inspect.proofs.lemmas.WorkingSets.{sets_left}
use Rattle.check_inspect.proofs.working_sets.put_working_sets.Given as goal

abbrev pub invariant-loop-id : goal.invariant-loop-id
invariant-loop-id l =
    (map seen_entry l.id-items ≡ l.objects)
    × (l.findings.items ++ sets_left l.is_first l.are_all (working_set_ids (shape_of (map seen_entry (drop l.id-index l.id-items))))
    ≡ l.fn.findings.items ++ set_findings l.are_all (working_set_ids (shape_of l.objects)))
