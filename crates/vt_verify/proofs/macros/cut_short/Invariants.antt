use Rattle.std.proofs.Common.{◌≡◌, drop, map}
use Rattle.std.specs.List.{flat_map}
use Rattle.std.specs.Option.{option_map}
use Rattle.vt_stores.specs.Stores.{seen_entry}
use Rattle.vt_verify.specs.Lists.{first_failing}
use Rattle.vt_stores.specs.Shapes.{fixed, shape_of}
use Rattle.vt_verify.specs.Macros.{named_macro, is_whole}
use Rattle.vt_verify.specs.Rules as rules
use Rattle.vt_verify.proofs.macros.cut_short.Given as goal

abbrev pub invariant-loop-id : goal.invariant-loop-id
invariant-loop-id l =
    (map seen_entry l.id-items ≡ l.objects)
    × (option_map (λ m. m.0) (rules.cut_short (shape_of l.objects))
    ≡ option_map (λ m. m.0) (first_failing is_whole (flat_map (λ e. named_macro (e.0, fixed e.1)) (map seen_entry (drop l.id-index l.id-items)))))
