-- The reports of pools (docs/PROFILE.md, "Reports").
use Rattle.std.specs.Prelude.{ℕ, List, [], ◌∷◌, ◌++◌, length, codes}
use Rattle.std.specs.Fmt.{decimal}
use Rattle.std.specs.List.{flat_map}
use Rattle.vt_verify.specs.declared.listing.Listing.{Listing}
use Rattle.vt_verify.specs.declared.refusal.Refusal.{Refusal}
use Rattle.vt_verify.specs.declared.refusal.Refusal.TheVariants as refusals
use Rattle.vt_stores.specs.Shapes.{Shape, shape_of}
use Rattle.vt_stores.specs.Stores.{Objects}
use Rattle.vt_verify.specs.Budgets.{budget}
use Rattle.vt_verify.specs.TriggerGraphs.{listed_events}

-- ---- the report of an accepted pool

abbrev pub count_line : ℕ → List ℕ
count_line count = codes "accepted " ++ (decimal count ++ codes " objects\n")

abbrev pub budget_line : Listing → ℕ → List ℕ
budget_line raised budget =
    codes "object " ++ (decimal raised.id ++ (codes " event " ++ (decimal raised.event ++ (codes " budget " ++ (decimal budget ++ codes "\n")))))

abbrev pub event_line : Shape → Listing → List ℕ
event_line shape raised = budget_line raised (budget shape raised.id raised.event)

-- the number of objects, and a line for each event at which an object lists a macro
unfoldable pub report_text : Objects → List ℕ
report_text objects = count_line (length objects) ++ flat_map (event_line (shape_of objects)) (listed_events (shape_of objects))

-- ---- the report of a refused pool

-- numbers, each after a space
abbrev pub numbers : List ℕ → List ℕ
numbers ns = flat_map (λ n. codes " " ++ decimal n) ns

-- the line of a refusal, without its newline; OutOfMemory has no line in a report
abbrev pub refusal_text : Refusal → List ℕ
refusal_text refusals.NoWorkingSet = codes "refused 1 NoWorkingSet"
refusal_text refusals.TwoWorkingSets = codes "refused 2 TwoWorkingSets"
refusal_text (refusals.Missing parent id) = codes "refused 3 Missing" ++ numbers (parent ∷ id ∷ [])
refusal_text (refusals.WrongKind parent id) = codes "refused 4 WrongKind" ++ numbers (parent ∷ id ∷ [])
refusal_text (refusals.TooDeep chain) = codes "refused 5 TooDeep" ++ numbers chain.items
refusal_text (refusals.MacroBytes id) = codes "refused 6 MacroBytes" ++ numbers (id ∷ [])
refusal_text (refusals.MacroCommand id at) = codes "refused 7 MacroCommand" ++ numbers (id ∷ at ∷ [])
refusal_text (refusals.MacroMissing parent id) = codes "refused 8 MacroMissing" ++ numbers (parent ∷ id ∷ [])
refusal_text (refusals.MacroKind parent id) = codes "refused 9 MacroKind" ++ numbers (parent ∷ id ∷ [])
refusal_text (refusals.MacroValue id at) = codes "refused 10 MacroValue" ++ numbers (id ∷ at ∷ [])
refusal_text (refusals.MacroCircle path) = codes "refused 11 MacroCircle" ++ numbers path.items
refusal_text (refusals.OverBudget id) = codes "refused 12 OverBudget" ++ numbers (id ∷ [])
refusal_text refusals.OutOfMemory = codes "out of memory"
