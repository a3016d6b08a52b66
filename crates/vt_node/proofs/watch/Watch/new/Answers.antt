use Rattle.std.proofs.Common.{ℕ, Bool, false, cond, Option, Some, None, get_or, ap, ◌∙◌}
use Rattle.vt_node.proofs.ByAddress.{all-default}
use Rattle.vt_node.proofs.watch.Watch.new.Goals as goal

pub invariant_of-result : goal.invariant_of-result
invariant_of-result c = (
  c.default.ensures.long,
  c.default-2.ensures.long,
  λ _. all-default c.default-2.result false c.default-2.ensures.long (λ q h. c.default-2.ensures.at q false h),
)

pub returns : goal.returns
returns c address =
    ap (λ (b : Bool). cond {A = Option ℕ} b None (Some (get_or c.default.result address 0)))
    (all-default c.default-2.result false c.default-2.ensures.long (λ q h. c.default-2.ensures.at q false h) address)
    ∙ ap (λ (n : ℕ). Some n) (all-default c.default.result 0 c.default.ensures.long (λ q h. c.default.ensures.at q 0 h) address)
