use Rattle.std.proofs.Common.{ℕ, List, get_or, ap, ap₂, ◌∙◌}
use Rattle.vt_stores.specs.Shapes.{shape_of}
use Rattle.check_costs.specs.declared.share.Share.{Share}
use Rattle.check_costs.specs.Shares.{MacroRow, macro_shares}
use Rattle.check_costs.proofs.macro_costs.macro_cost.Goals as goal

pub returns : goal.returns
returns c =
    let pool = c.args.pool.now in
    let row : ℕ → List Share → MacroRow = λ steps shares. record { id = c.args.id; steps = steps; shares = shares } in
    ap₂ row (ap (λ (i : ℕ). get_or pool.steps i 0) c.from.ensures ∙ c.requires.pool.steps c.args.id)
    (c.in_ok-shares_of.ensures ∙ ap (macro_shares (shape_of pool.objects.now) c.args.hide.now) (c.from_raw.ensures ∙ c.from-2.ensures))
