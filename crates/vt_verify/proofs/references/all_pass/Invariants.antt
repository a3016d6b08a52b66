use Rattle.std.proofs.Common.{◌≡◌, drop, map}
use Rattle.std.specs.List.{flat_map}
use Rattle.vt_stores.specs.Stores.{seen_entry}
use Rattle.vt_verify.specs.Lists.{first_failing}
use Rattle.vt_stores.specs.Shapes.{shape_of}
use Rattle.vt_verify.specs.References.{is_there, fits, slot_references, slot_values}
use Rattle.vt_verify.specs.Rules as rules
use Rattle.vt_verify.proofs.references.all_pass.Given as goal

abbrev pub invariant-loop-id : goal.invariant-loop-id
invariant-loop-id l =
    (map seen_entry l.id-items ≡ l.objects)
    × (rules.missing l.objects ≡ first_failing (is_there (shape_of l.objects)) (flat_map slot_references (map seen_entry (drop l.id-index l.id-items))))
    × (rules.wrong_kind l.objects ≡ first_failing (fits (shape_of l.objects)) (flat_map (slot_values l.objects) (map seen_entry (drop l.id-index l.id-items))))
