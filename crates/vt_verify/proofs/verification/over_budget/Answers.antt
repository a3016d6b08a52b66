use Rattle.std.proofs.Common.{◌≡◌, ◌<◌, ◌∙◌, length, sym, subst, rules}
use Rattle.vt_rank.specs.Costs.{IsFirstOverCap}
use Rattle.vt_stores.specs.Shapes.{shape_of}
use Rattle.vt_verify.specs.Rules as pools
use Rattle.vt_verify.proofs.lemmas.budgets.FirstOverBudget.{over_is_inside, first_macro, first_over}
use Rattle.vt_verify.proofs.verification.over_budget.Goals as goal

pub index-requires : goal.index-requires
index-requires c =
    let first = subst (IsFirstOverCap c.args.triggers.now.graph c.args.limits.steps) c.in-Group.is c.requires.over in
    let inside : c.in-Group.group < length c.args.triggers.now.events.keys =
    over_is_inside (shape_of c.args.objects.now) c.args.triggers.now.events.keys c.args.triggers.now.graph c.requires.triggers c.args.limits.steps c.in-Group.group first.1 in
    search rules

pub returns-in-Node-clause-refused : goal.returns-in-Node-clause-refused
returns-in-Node-clause-refused c =
    let first = subst (IsFirstOverCap c.args.triggers.now.graph c.args.limits.steps) c.in-Node.is c.requires.over in
    let id : c.from_raw.result ≡ c.in-Node.id = c.from_raw.ensures ∙ c.from.ensures in (
      c.requires.before,
      subst (pools.IsFirstOver c.args.limits.steps (shape_of c.args.objects.now)) (sym id)
          (first_macro (shape_of c.args.objects.now) c.args.triggers.now.events.keys c.args.triggers.now.graph c.requires.triggers c.args.limits.steps c.in-Node.id first),
    )

pub returns-in-Group-clause-refused : goal.returns-in-Group-clause-refused
returns-in-Group-clause-refused c =
    let first = subst (IsFirstOverCap c.args.triggers.now.graph c.args.limits.steps) c.in-Group.is c.requires.over in (
      c.requires.before,
      first_over c.args.objects.now c.args.triggers.now.events.keys c.args.triggers.now.graph c.requires.stored.rising c.requires.triggers c.args.limits.steps c.in-Group.group
          c.index.result.now c.index.ensures first,
    )
