use Rattle.std.proofs.Common.{ℕ, List, sym, ap, ◌∙◌}
use Rattle.std.specs.List.{flat_map}
use Rattle.std.specs.Option.{option_map}
use Rattle.vt_verify.specs.Lists.{first_failing}
use Rattle.vt_stores.specs.Shapes.{fixed}
use Rattle.vt_stores.specs.Stores.{Objects}
use Rattle.vt_verify.specs.Macros.{named_macro, is_whole}
use Rattle.vt_verify.proofs.lemmas.rules.FirstFailure.{over_objects}
use Rattle.vt_verify.proofs.macros.cut_short.Goals as goal

pub loop-id-init : goal.loop-id-init
loop-id-init c = (
  c.entries-id-items.ensures.all,
  ap (λ (ms : List (ℕ × List ℕ)). option_map (λ m. m.0) (first_failing is_whole ms))
      (over_objects named_macro c.args.objects.now
      ∙ ap (λ (objects : Objects). flat_map (λ e. named_macro (e.0, fixed e.1)) objects) (sym c.entries-id-items.ensures.all)),
)
