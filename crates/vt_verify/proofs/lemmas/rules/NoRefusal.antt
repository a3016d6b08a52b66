-- A pool that meets all rules is refused by none of them.
use Rattle.std.proofs.Common.{◌≡◌, ℕ, Option, Some, None, arith}
use Rattle.vt_verify.specs.declared.refusal.Refusal.TheVariants as refusals
use Rattle.vt_stores.specs.Shapes.{shape_of}
use Rattle.vt_stores.specs.Stores.{Objects}
use Rattle.vt_verify.specs.Rules.{IsFirstOver, Macro, Object, IsWithinBudget, RefusalsAreTrue, FirstRulesFail}

none_some : {A : Type 0} (o : Option A) (x : A) → o ≡ None → o ≡ Some x → ⊥
none_some None x none some = absurd cc
none_some (Some y) x none some = absurd cc

within : (steps : ℕ) (objects : Objects) (id : ℕ) → IsWithinBudget steps (shape_of objects) → IsFirstOver steps (shape_of objects) id → ⊥
within steps objects id all (Macro over least) =
    let le = all.costs id in
    absurd (omega arith)
within steps objects id all (Object costs event over least) =
    let le = all.budgets id event in
    absurd (omega arith)

-- the rule of a refusal fails, and all rules before it hold
pub first_rules_fail : FirstRulesFail
first_rules_fail limits objects refusals.NoWorkingSet is = record { before = tt; fails = λ holds. absurd (omega (arith, holds, is)) }
first_rules_fail limits objects refusals.TwoWorkingSets is = record { before = ((omega (arith, is)), tt); fails = λ holds. absurd (omega (arith, holds, is)) }
first_rules_fail limits objects (refusals.Missing parent id) is = record { before = is.0; fails = λ holds. none_some _ is.1.0 holds is.1.1 }
first_rules_fail limits objects (refusals.WrongKind parent id) is = record { before = is.0; fails = λ holds. none_some _ is.1.0 holds is.1.1 }
first_rules_fail limits objects (refusals.TooDeep chain) is = record {
  before = is.0;
  fails = λ holds.
      let le = holds chain.items is.1.0 in
      let size = is.1.1 in
      absurd (omega (arith, le, size));
}
first_rules_fail limits objects (refusals.MacroBytes id) is = record { before = is.0; fails = λ holds. none_some _ is.1.0 holds is.1.1 }
first_rules_fail limits objects (refusals.MacroCommand id at) is = record { before = is.0; fails = λ holds. none_some _ is.1.0 holds is.1.1 }
first_rules_fail limits objects (refusals.MacroMissing parent id) is = record { before = is.0; fails = λ holds. none_some _ is.1.0 holds is.1.1 }
first_rules_fail limits objects (refusals.MacroKind parent id) is = record { before = is.0; fails = λ holds. none_some _ is.1.0 holds is.1.1 }
first_rules_fail limits objects (refusals.MacroValue id at) is = record { before = is.0; fails = λ holds. none_some _ is.1.0 holds is.1.1 }
first_rules_fail limits objects (refusals.MacroCircle path) is = record { before = is.0; fails = λ holds. holds path.items is.1.circle }
first_rules_fail limits objects (refusals.OverBudget id) is = record { before = is.0; fails = λ holds. within limits.steps objects id holds is.1 }
first_rules_fail limits objects refusals.OutOfMemory is = tt

pub refusals_true : RefusalsAreTrue
refusals_true limits objects refusals.NoWorkingSet all is = absurd ((first_rules_fail limits objects refusals.NoWorkingSet is).fails all.working_set)
refusals_true limits objects refusals.TwoWorkingSets all is = absurd ((first_rules_fail limits objects refusals.TwoWorkingSets is).fails all.one_working_set)
refusals_true limits objects (refusals.Missing parent id) all is = absurd ((first_rules_fail limits objects (refusals.Missing parent id) is).fails all.references_there)
refusals_true limits objects (refusals.WrongKind parent id) all is = absurd ((first_rules_fail limits objects (refusals.WrongKind parent id) is).fails all.references_fit)
refusals_true limits objects (refusals.TooDeep chain) all is = absurd ((first_rules_fail limits objects (refusals.TooDeep chain) is).fails all.chains_short)
refusals_true limits objects (refusals.MacroBytes id) all is = absurd ((first_rules_fail limits objects (refusals.MacroBytes id) is).fails all.macros_whole)
refusals_true limits objects (refusals.MacroCommand id at) all is = absurd ((first_rules_fail limits objects (refusals.MacroCommand id at) is).fails all.commands_allowed)
refusals_true limits objects (refusals.MacroMissing parent id) all is = absurd ((first_rules_fail limits objects (refusals.MacroMissing parent id) is).fails all.targets_there)
refusals_true limits objects (refusals.MacroKind parent id) all is = absurd ((first_rules_fail limits objects (refusals.MacroKind parent id) is).fails all.targets_fit)
refusals_true limits objects (refusals.MacroValue id at) all is = absurd ((first_rules_fail limits objects (refusals.MacroValue id at) is).fails all.attributes_there)
refusals_true limits objects (refusals.MacroCircle path) all is = absurd ((first_rules_fail limits objects (refusals.MacroCircle path) is).fails all.no_circle)
refusals_true limits objects (refusals.OverBudget id) all is = absurd ((first_rules_fail limits objects (refusals.OverBudget id) is).fails all.within_budget)
refusals_true limits objects refusals.OutOfMemory all is = tt
