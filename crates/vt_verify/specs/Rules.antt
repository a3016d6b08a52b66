-- The rules of a pool, in the order of the tests, and the meaning of a refusal (docs/PROFILE.md, "Verification of a
-- pool").
use Rattle.std.specs.Prelude.{◌≡◌, ◌≤◌, ◌<◌, ℕ, Bool, true, false, List, [], ◌∷◌, filter, length, take, slice_index, Option, Some, None, IfSome}
use Rattle.std.specs.List.{flat_map, AllByRecursion}
use Rattle.vt_kinds.specs.declared.kind.Kind.{Kind}
use Rattle.vt_kinds.specs.declared.kind.Kind.TheVariants as kinds
use Rattle.vt_rank.specs.Paths.{IsCircle, IsDistinct, HasNoCircle, IsLeastOnCircles}
use Rattle.vt_chains.specs.declared.limits.Limits.{Limits}
use Rattle.vt_verify.specs.declared.reference.Reference.{Reference}
use Rattle.vt_verify.specs.declared.refusal.Refusal.{Refusal}
use Rattle.vt_verify.specs.declared.refusal.Refusal.TheVariants as refusals
use Rattle.vt_verify.specs.Lists.{first_failing}
use Rattle.vt_stores.specs.Shapes.{Shape, shape_of}
use Rattle.vt_stores.specs.Stores.{Objects, AreStored}
use Rattle.vt_verify.specs.References.{references, is_there, fits, slot_values}
use Rattle.vt_chains.specs.Limits.{terminal}
use Rattle.vt_chains.specs.Inclusions.{included, IsShallow, IsTooDeep}
use Rattle.vt_verify.specs.Macros.{Piece, macros, is_whole, pieces, is_allowed}
use Rattle.vt_verify.specs.Targets.{macro_references, has_attribute}
use Rattle.vt_verify.specs.Triggers.{triggered}
use Rattle.vt_verify.specs.Budgets.{cost, budget, MacroCostsAreTotals}

-- ---- the first culprit of each rule

abbrev pub is_working_set : Kind → Bool
is_working_set kinds.WorkingSet = true
is_working_set kind = false

-- the number of working sets
abbrev pub working_sets : Shape → ℕ
working_sets shape = length (filter (λ e. is_working_set e.1.kind) shape)

abbrev pub missing : Objects → Option Reference
missing objects = first_failing (is_there (shape_of objects)) (references objects)

abbrev pub wrong_kind : Objects → Option Reference
wrong_kind objects = first_failing (fits (shape_of objects)) (flat_map (slot_values objects) objects)

abbrev pub cut_short : Shape → Option (ℕ × List ℕ)
cut_short shape = first_failing is_whole (macros shape)

abbrev pub other_command : Shape → Option Piece
other_command shape = first_failing is_allowed (pieces shape)

abbrev pub macro_missing : Shape → Option Reference
macro_missing shape = first_failing (is_there shape) (macro_references shape)

abbrev pub macro_wrong_kind : Shape → Option Reference
macro_wrong_kind shape = first_failing (fits shape) (macro_references shape)

abbrev pub other_attribute : Shape → Option Piece
other_attribute shape = first_failing (has_attribute shape) (pieces shape)

-- no macro and no event costs more than `steps`
pub record IsWithinBudget (steps : ℕ) (shape : Shape) : Type 0 where
  pub costs : (id : ℕ) → cost shape id ≤ steps
  pub budgets : (id event : ℕ) → budget shape id event ≤ steps

-- the least macro that costs more, or else the least object with such an event
pub data IsFirstOver (steps : ℕ) (shape : Shape) (id : ℕ) : Type 0 where
  Macro : steps < cost shape id → ((other : ℕ) → other < id → cost shape other ≤ steps) → IsFirstOver steps shape id
  Object : ((other : ℕ) → cost shape other ≤ steps) → (event : ℕ) → steps < budget shape id event
      → ((other of : ℕ) → other < id → budget shape other of ≤ steps) → IsFirstOver steps shape id

-- ---- the rules

pub data Rule : Type 0 where
  HasWorkingSet : Rule
  HasOneWorkingSet : Rule
  ReferencesAreThere : Rule
  ReferencesFit : Rule
  ChainsAreShort : Rule
  MacrosAreWhole : Rule
  CommandsAreAllowed : Rule
  TargetsAreThere : Rule
  TargetsFit : Rule
  AttributesAreThere : Rule
  TriggersAreNoCircle : Rule
  BudgetsAreWithin : Rule

-- all rules, in the order of the tests
abbrev pub rules : List Rule
rules =
    HasWorkingSet ∷ HasOneWorkingSet ∷ ReferencesAreThere ∷ ReferencesFit ∷ ChainsAreShort ∷ MacrosAreWhole
    ∷ CommandsAreAllowed ∷ TargetsAreThere ∷ TargetsFit ∷ AttributesAreThere ∷ TriggersAreNoCircle ∷ BudgetsAreWithin ∷ []

abbrev pub Holds : Limits → Objects → Rule → Type 0
Holds limits objects HasWorkingSet = 1 ≤ working_sets (shape_of objects)
Holds limits objects HasOneWorkingSet = working_sets (shape_of objects) ≤ 1
Holds limits objects ReferencesAreThere = missing objects ≡ None
Holds limits objects ReferencesFit = wrong_kind objects ≡ None
Holds limits objects ChainsAreShort = IsShallow limits.inclusions (included objects)
Holds limits objects MacrosAreWhole = cut_short (shape_of objects) ≡ None
Holds limits objects CommandsAreAllowed = other_command (shape_of objects) ≡ None
Holds limits objects TargetsAreThere = macro_missing (shape_of objects) ≡ None
Holds limits objects TargetsFit = macro_wrong_kind (shape_of objects) ≡ None
Holds limits objects AttributesAreThere = other_attribute (shape_of objects) ≡ None
Holds limits objects TriggersAreNoCircle = HasNoCircle (triggered (shape_of objects))
Holds limits objects BudgetsAreWithin = IsWithinBudget limits.steps (shape_of objects)

-- A pool is acceptable if all rules hold.
pub record IsAcceptable (limits : Limits) (objects : Objects) : Type 0 where
  pub working_set : Holds limits objects HasWorkingSet
  pub one_working_set : Holds limits objects HasOneWorkingSet
  pub references_there : Holds limits objects ReferencesAreThere
  pub references_fit : Holds limits objects ReferencesFit
  pub chains_short : Holds limits objects ChainsAreShort
  pub macros_whole : Holds limits objects MacrosAreWhole
  pub commands_allowed : Holds limits objects CommandsAreAllowed
  pub targets_there : Holds limits objects TargetsAreThere
  pub targets_fit : Holds limits objects TargetsFit
  pub attributes_there : Holds limits objects AttributesAreThere
  pub no_circle : Holds limits objects TriggersAreNoCircle
  pub within_budget : Holds limits objects BudgetsAreWithin

-- The objects of an accepted pool: their IDs rise, no ID is NULL, and they meet all rules of this terminal; and each
-- macro costs the sum of its commands.
pub record IsVerified (objects : Objects) : Type 0 where
  pub stored : AreStored objects
  pub acceptable : IsAcceptable terminal objects
  pub totals : MacroCostsAreTotals (shape_of objects)

-- ---- refusals

-- the parent and the ID of the first reference that fails
abbrev pub Names : Option Reference → ℕ → ℕ → Type 0
Names first parent id = (r : Reference) × (first ≡ Some r) × (r.parent ≡ parent) × (r.id ≡ id)

-- the macro and the offset of the first macro command that fails
abbrev pub IsAt : Option Piece → ℕ → ℕ → Type 0
IsAt first id at = (p : Piece) × (first ≡ Some p) × (p.id ≡ id) × (p.at ≡ at)

-- the IDs are a circle of triggers without repeats, and the first of them is the least on any circle
pub record IsLeastCircle (shape : Shape) (path : List ℕ) : Type 0 where
  pub circle : IsCircle (triggered shape) path
  pub once : IsDistinct path
  pub least : IsLeastOnCircles (triggered shape) (slice_index path 0)

-- the number of rules that are tested before
abbrev pub place : Rule → ℕ
place HasWorkingSet = 0
place HasOneWorkingSet = 1
place ReferencesAreThere = 2
place ReferencesFit = 3
place ChainsAreShort = 4
place MacrosAreWhole = 5
place CommandsAreAllowed = 6
place TargetsAreThere = 7
place TargetsFit = 8
place AttributesAreThere = 9
place TriggersAreNoCircle = 10
place BudgetsAreWithin = 11

-- the rules before this one hold
abbrev pub HoldBefore : Limits → Objects → Rule → Type 0
HoldBefore limits objects rule = AllByRecursion (Holds limits objects) (take (place rule) rules)

-- The meaning of a refusal: the first rule that fails, and its first culprit. Memory may run out at any allocation.
abbrev pub IsRefused : Limits → Objects → Refusal → Type 0
IsRefused limits objects refusals.NoWorkingSet = working_sets (shape_of objects) ≡ 0
IsRefused limits objects refusals.TwoWorkingSets = 1 < working_sets (shape_of objects)
IsRefused limits objects (refusals.Missing parent id) = HoldBefore limits objects ReferencesAreThere × Names (missing objects) parent id
IsRefused limits objects (refusals.WrongKind parent id) = HoldBefore limits objects ReferencesFit × Names (wrong_kind objects) parent id
IsRefused limits objects (refusals.TooDeep chain) = HoldBefore limits objects ChainsAreShort × IsTooDeep limits.inclusions (included objects) chain.items
IsRefused limits objects (refusals.MacroBytes id) =
    HoldBefore limits objects MacrosAreWhole × ((m : ℕ × List ℕ) × (cut_short (shape_of objects) ≡ Some m) × (m.0 ≡ id))
IsRefused limits objects (refusals.MacroCommand id at) = HoldBefore limits objects CommandsAreAllowed × IsAt (other_command (shape_of objects)) id at
IsRefused limits objects (refusals.MacroMissing parent id) = HoldBefore limits objects TargetsAreThere × Names (macro_missing (shape_of objects)) parent id
IsRefused limits objects (refusals.MacroKind parent id) = HoldBefore limits objects TargetsFit × Names (macro_wrong_kind (shape_of objects)) parent id
IsRefused limits objects (refusals.MacroValue id at) = HoldBefore limits objects AttributesAreThere × IsAt (other_attribute (shape_of objects)) id at
IsRefused limits objects (refusals.MacroCircle path) = HoldBefore limits objects TriggersAreNoCircle × IsLeastCircle (shape_of objects) path.items
IsRefused limits objects (refusals.OverBudget id) = HoldBefore limits objects BudgetsAreWithin × IsFirstOver limits.steps (shape_of objects) id
IsRefused limits objects refusals.OutOfMemory = Unit {0}

abbrev pub IsWantOfMemory : Refusal → Type 0
IsWantOfMemory refusals.OutOfMemory = Unit {0}
IsWantOfMemory refusal = ⊥

-- An acceptable pool is refused only for want of memory.
abbrev pub RefusalsAreTrue : Type 0
RefusalsAreTrue = (limits : Limits) (objects : Objects) (refusal : Refusal) → IsAcceptable limits objects → IsRefused limits objects refusal → IsWantOfMemory refusal

-- ---- the rule of a refusal

-- the rule of a refusal; want of memory has none
abbrev pub rule_of : Refusal → Option Rule
rule_of refusals.NoWorkingSet = Some HasWorkingSet
rule_of refusals.TwoWorkingSets = Some HasOneWorkingSet
rule_of (refusals.Missing parent id) = Some ReferencesAreThere
rule_of (refusals.WrongKind parent id) = Some ReferencesFit
rule_of (refusals.TooDeep chain) = Some ChainsAreShort
rule_of (refusals.MacroBytes id) = Some MacrosAreWhole
rule_of (refusals.MacroCommand id at) = Some CommandsAreAllowed
rule_of (refusals.MacroMissing parent id) = Some TargetsAreThere
rule_of (refusals.MacroKind parent id) = Some TargetsFit
rule_of (refusals.MacroValue id at) = Some AttributesAreThere
rule_of (refusals.MacroCircle path) = Some TriggersAreNoCircle
rule_of (refusals.OverBudget id) = Some BudgetsAreWithin
rule_of refusals.OutOfMemory = None

-- The rule of a refusal fails, and all rules before it hold.
pub record IsFirstToFail (limits : Limits) (objects : Objects) (rule : Rule) : Type 0 where
  pub before : HoldBefore limits objects rule
  pub fails : Holds limits objects rule → ⊥

abbrev pub FirstRulesFail : Type 0
FirstRulesFail = (limits : Limits) (objects : Objects) (refusal : Refusal) → IsRefused limits objects refusal → IfSome (rule_of refusal) (IsFirstToFail limits objects)

-- ---- the uniqueness of the refusal

-- Two refusals are the same, except for the choice of a chain that is too long or of a circle with the same first macro.
abbrev pub SaysTheSame : Refusal → Refusal → Type 0
SaysTheSame (refusals.TooDeep chain) (refusals.TooDeep other) = Unit {0}
SaysTheSame (refusals.MacroCircle path) (refusals.MacroCircle other) = slice_index path.items 0 ≡ slice_index other.items 0
SaysTheSame refusal other = refusal ≡ other

-- The refusal of a pool is unique, except for want of memory.
abbrev pub RefusalsAreOne : Type 0
RefusalsAreOne = (limits : Limits) (objects : Objects) (r q : Refusal) → IsRefused limits objects r → IsRefused limits objects q
    → (IsWantOfMemory r → ⊥) → (IsWantOfMemory q → ⊥) → SaysTheSame r q

-- ---- greater limits

-- Acceptable objects stay acceptable under greater limits.
abbrev pub GreaterLimitsAccept : Type 0
GreaterLimitsAccept = (small great : Limits) (objects : Objects) → small.inclusions ≤ great.inclusions → small.steps ≤ great.steps
    → IsAcceptable small objects → IsAcceptable great objects
