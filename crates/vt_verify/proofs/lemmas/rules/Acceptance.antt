-- The last rules of a pool follow from the rules before them and from the tests.
use Rattle.std.proofs.Common.{◌≡◌, None, arith}
use Rattle.vt_rank.specs.Paths.{HasNoCircle}
use Rattle.vt_chains.specs.declared.limits.Limits.{Limits}
use Rattle.vt_stores.specs.Shapes.{shape_of}
use Rattle.vt_stores.specs.Stores.{Objects}
use Rattle.vt_verify.specs.Triggers.{triggered}
use Rattle.vt_verify.specs.Rules.{macro_missing, macro_wrong_kind, GreaterLimitsAccept, IsAcceptable, IsWithinBudget, HoldBefore, TargetsAreThere, AttributesAreThere, TriggersAreNoCircle, BudgetsAreWithin}

pub before_attributes : (limits : Limits) (objects : Objects) → HoldBefore limits objects TargetsAreThere → macro_missing (shape_of objects) ≡ None → macro_wrong_kind (shape_of objects) ≡ None
    → HoldBefore limits objects AttributesAreThere
before_attributes limits objects b there fit = (b.0, (b.1.0, (b.1.1.0, (b.1.1.1.0, (b.1.1.1.1.0, (b.1.1.1.1.1.0, (b.1.1.1.1.1.1.0, (there, (fit, tt)))))))))

pub before_budgets : (limits : Limits) (objects : Objects) → HoldBefore limits objects TriggersAreNoCircle → HasNoCircle (triggered (shape_of objects)) → HoldBefore limits objects BudgetsAreWithin
before_budgets limits objects b none = (b.0, (b.1.0, (b.1.1.0, (b.1.1.1.0, (b.1.1.1.1.0, (b.1.1.1.1.1.0, (b.1.1.1.1.1.1.0, (b.1.1.1.1.1.1.1.0, (b.1.1.1.1.1.1.1.1.0, (b.1.1.1.1.1.1.1.1.1.0, (none, tt)))))))))))

pub acceptable : (limits : Limits) (objects : Objects) → HoldBefore limits objects BudgetsAreWithin → IsWithinBudget limits.steps (shape_of objects)
    → IsAcceptable limits objects
acceptable limits objects b within = record {
  working_set = b.0;
  one_working_set = b.1.0;
  references_there = b.1.1.0;
  references_fit = b.1.1.1.0;
  chains_short = b.1.1.1.1.0;
  macros_whole = b.1.1.1.1.1.0;
  commands_allowed = b.1.1.1.1.1.1.0;
  targets_there = b.1.1.1.1.1.1.1.0;
  targets_fit = b.1.1.1.1.1.1.1.1.0;
  attributes_there = b.1.1.1.1.1.1.1.1.1.0;
  no_circle = b.1.1.1.1.1.1.1.1.1.1.0;
  within_budget = within;
}

pub greater_accept : GreaterLimitsAccept
greater_accept small great objects inclusions steps is = record {
  working_set = is.working_set;
  one_working_set = is.one_working_set;
  references_there = is.references_there;
  references_fit = is.references_fit;
  chains_short = λ ids chain. let le = is.chains_short ids chain in omega arith;
  macros_whole = is.macros_whole;
  commands_allowed = is.commands_allowed;
  targets_there = is.targets_there;
  targets_fit = is.targets_fit;
  attributes_there = is.attributes_there;
  no_circle = is.no_circle;
  within_budget = record {
    costs = λ id. let le = is.within_budget.costs id in omega arith;
    budgets = λ id event. let le = is.within_budget.budgets id event in omega arith;
  };
}
