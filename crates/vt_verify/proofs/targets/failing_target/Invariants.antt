use Rattle.std.proofs.Common.{◌≡◌, drop, map, None}
use Rattle.std.specs.List.{flat_map}
use Rattle.vt_stores.specs.Stores.{seen_entry}
use Rattle.vt_verify.specs.Lists.{first_failing}
use Rattle.vt_stores.specs.Shapes.{fixed, shape_of}
use Rattle.vt_verify.specs.References.{passes}
use Rattle.vt_verify.specs.Macros.{named_macro, is_whole}
use Rattle.vt_verify.specs.Targets.{own_references, macro_references}
use Rattle.vt_verify.proofs.targets.failing_target.Given as goal

abbrev pub invariant-loop-id : goal.invariant-loop-id
invariant-loop-id l =
    (map seen_entry l.id-items ≡ l.objects)
    × (first_failing is_whole (flat_map (λ e. named_macro (e.0, fixed e.1)) (map seen_entry (drop l.id-index l.id-items))) ≡ None)
    × (first_failing (passes l.test (shape_of l.objects)) (macro_references (shape_of l.objects))
    ≡ first_failing (passes l.test (shape_of l.objects)) (flat_map (λ e. own_references (shape_of l.objects) (e.0, fixed e.1)) (map seen_entry (drop l.id-index l.id-items))))
