-- The refusal of a pool is unique, except for the choice of its chain or circle.
use Rattle.std.proofs.Common.{◌≡◌, ◌<◌, ◌≤◌, ℕ, zero, suc, List, [], ◌∷◌, take, Option, Some, None, refl, sym, ap, ap₂, subst, ◌∙◌, arith, inl, inr}
use Rattle.std.proofs.lemmas.Option.{same_Some}
use Rattle.std.proofs.lemmas.Bool.{cases_lt}
use Rattle.std.specs.Prelude.{IfSome, slice_get, slice_index}
use Rattle.std.specs.List.{AllByRecursion}
use Rattle.vt_rank.specs.Paths.{IsCircle, IsLeastOnCircles}
use Rattle.vt_stores.specs.Stores.{Objects}
use Rattle.vt_chains.specs.declared.limits.Limits.{Limits}
use Rattle.vt_verify.specs.declared.reference.Reference.{Reference}
use Rattle.vt_verify.specs.declared.refusal.Refusal.{Refusal}
use Rattle.vt_verify.specs.declared.refusal.Refusal.TheVariants as refusals
use Rattle.vt_stores.specs.Shapes.{Shape, shape_of}
use Rattle.vt_verify.specs.Macros.{Piece}
use Rattle.vt_verify.specs.Triggers.{triggered}
use Rattle.vt_verify.specs.Rules.{Rule, HasWorkingSet, HasOneWorkingSet, ReferencesAreThere, ReferencesFit, ChainsAreShort, MacrosAreWhole, CommandsAreAllowed, TargetsAreThere, TargetsFit, AttributesAreThere, TriggersAreNoCircle, BudgetsAreWithin, rules, place, Holds, missing, wrong_kind, cut_short, other_command, macro_missing, macro_wrong_kind, other_attribute, Names, IsAt, IsLeastCircle, IsFirstOver, IsFirstToFail, IsRefused, IsWantOfMemory, rule_of, SaysTheSame, RefusalsAreOne}
use Rattle.vt_verify.specs.Rules.IsFirstOver.{Macro, Object}
use Rattle.vt_verify.proofs.lemmas.rules.NoRefusal.{first_rules_fail}

-- ---- the first rule to fail is unique

all_at : {A : Type 0} (P : A → Type 0) (xs : List A) (n i : ℕ) (x : A) → slice_get xs i ≡ Some x → i < n → AllByRecursion P (take n xs) → P x
all_at P [] n i x is lt all = absurd cc
all_at P (y ∷ ys) zero i x is lt all = absurd (omega arith)
all_at P (y ∷ ys) (suc n) zero x is lt all = subst P (same_Some y x is) all.0
all_at P (y ∷ ys) (suc n) (suc i) x is lt all = all_at P ys n i x is (omega arith) all.1

at_place : (rule : Rule) → slice_get rules (place rule) ≡ Some rule
at_place HasWorkingSet = refl
at_place HasOneWorkingSet = refl
at_place ReferencesAreThere = refl
at_place ReferencesFit = refl
at_place ChainsAreShort = refl
at_place MacrosAreWhole = refl
at_place CommandsAreAllowed = refl
at_place TargetsAreThere = refl
at_place TargetsFit = refl
at_place AttributesAreThere = refl
at_place TriggersAreNoCircle = refl
at_place BudgetsAreWithin = refl

same_place : (a b : Rule) → place a ≡ place b → a ≡ b
same_place a b same = same_Some a b (sym (at_place a) ∙ ap (slice_get rules) same ∙ at_place b)

module _ (limits : Limits) (objects : Objects) where
  never_before : (a b : Rule) → IsFirstToFail limits objects a → IsFirstToFail limits objects b → place a < place b → ⊥
  never_before a b first other lt = first.fails (all_at (Holds limits objects) rules (place b) (place a) a (at_place a) lt other.before)

  rule_one : (a b : Rule) → IsFirstToFail limits objects a → IsFirstToFail limits objects b → a ≡ b
  rule_one a b first other =
      elim (cases_lt (place a) (place b)) [
        | inl lt ↦ absurd (never_before a b first other lt)
        | inr ge ↦ elim (cases_lt (place b) (place a)) [
          | inl gt ↦ absurd (never_before b a other first gt)
          | inr le ↦ same_place a b (omega (arith, ge, le))
        ]
      ]

  named_by : (o : Option Rule) (rule : Rule) → IfSome o (IsFirstToFail limits objects) → (o ≡ None → ⊥) → IsFirstToFail limits objects rule → o ≡ Some rule
  named_by None rule first named other = absurd (named refl)
  named_by (Some a) rule first named other = ap (λ (r : Rule). Some r) (rule_one a rule first other)

  nameless : (q : Refusal) → (IsWantOfMemory q → ⊥) → rule_of q ≡ None → ⊥
  nameless refusals.OutOfMemory named none = named tt
  nameless _ named none = absurd cc

  same_rule : (r q : Refusal) (rule : Rule) → rule_of r ≡ Some rule → IsRefused limits objects r → IsRefused limits objects q → (IsWantOfMemory q → ⊥) → rule_of q ≡ Some rule
  same_rule r q rule by is other named =
      named_by (rule_of q) rule (first_rules_fail limits objects q other) (nameless q named)
      (subst (λ (o : Option Rule). IfSome o (IsFirstToFail limits objects)) by (first_rules_fail limits objects r is))

-- ---- the culprit of a rule is unique

names_one : (first : Option Reference) (parent id of other : ℕ) (says : ℕ → ℕ → Refusal) → Names first parent id → Names first of other → says parent id ≡ says of other
names_one first parent id of other says x y =
    let same : x.0 ≡ y.0 = same_Some x.0 y.0 (sym x.1 ∙ y.1) in
    ap₂ says (sym x.2 ∙ ap (λ (r : Reference). r.parent) same ∙ y.2) (sym x.3 ∙ ap (λ (r : Reference). r.id) same ∙ y.3)

at_one : (first : Option Piece) (id at of other : ℕ) (says : ℕ → ℕ → Refusal) → IsAt first id at → IsAt first of other → says id at ≡ says of other
at_one first id at of other says x y =
    let same : x.0 ≡ y.0 = same_Some x.0 y.0 (sym x.1 ∙ y.1) in
    ap₂ says (sym x.2 ∙ ap (λ (p : Piece). p.id) same ∙ y.2) (sym x.3 ∙ ap (λ (p : Piece). p.at) same ∙ y.3)

-- `id` is the first macro whose bytes end inside a command
abbrev IsCutShort : Option (ℕ × List ℕ) → ℕ → Type 0
IsCutShort first id = (m : ℕ × List ℕ) × (first ≡ Some m) × (m.0 ≡ id)

cut_one : (first : Option (ℕ × List ℕ)) (id other : ℕ) → IsCutShort first id → IsCutShort first other → id ≡ other
cut_one first id other x y =
    let same : x.0 ≡ y.0 = same_Some x.0 y.0 (sym x.1 ∙ y.1) in
    sym x.2 ∙ ap (λ (m : ℕ × List ℕ). m.0) same ∙ y.2

-- the first macro of a circle is not below the least on any circle
starts_above : (next : ℕ → List ℕ) (n : ℕ) (path : List ℕ) → IsCircle next path → IsLeastOnCircles next n → n ≤ slice_index path 0
starts_above next n [] circle least = absurd circle
starts_above next n (m ∷ ms) circle least = least (m ∷ ms) circle 0 0 (omega arith)

circle_one : (shape : Shape) (path other : List ℕ) → IsLeastCircle shape path → IsLeastCircle shape other → slice_index path 0 ≡ slice_index other 0
circle_one shape path other x y =
    let low = starts_above (triggered shape) (slice_index path 0) other y.circle x.least in
    let high = starts_above (triggered shape) (slice_index other 0) path x.circle y.least in
    omega (arith, low, high)

first_over : (steps : ℕ) (shape : Shape) (id other : ℕ) → IsFirstOver steps shape id → IsFirstOver steps shape other → id < other → ⊥
first_over steps shape id other (Macro over least) (Macro too low) lt = let le = low id lt in omega arith
first_over steps shape id other (Macro over least) (Object costs event too low) lt = let le = costs id in omega arith
first_over steps shape id other (Object costs event over least) (Macro too low) lt = let le = costs other in omega arith
first_over steps shape id other (Object costs event over least) (Object all happens too low) lt = let le = low id event lt in omega arith

over_one : (steps : ℕ) (shape : Shape) (id other : ℕ) → IsFirstOver steps shape id → IsFirstOver steps shape other → id ≡ other
over_one steps shape id other x y =
    elim (cases_lt id other) [
      | inl lt ↦ absurd (first_over steps shape id other x y lt)
      | inr ge ↦ elim (cases_lt other id) [
        | inl gt ↦ absurd (first_over steps shape other id y x gt)
        | inr le ↦ omega (arith, ge, le)
      ]
    ]

-- ---- each refusal, compared with another of the same rule

module _ (limits : Limits) (objects : Objects) where
  like_none : (q : Refusal) → rule_of q ≡ Some HasWorkingSet → SaysTheSame refusals.NoWorkingSet q
  like_none refusals.NoWorkingSet by = refl
  like_none _ by = absurd cc

  like_two : (q : Refusal) → rule_of q ≡ Some HasOneWorkingSet → SaysTheSame refusals.TwoWorkingSets q
  like_two refusals.TwoWorkingSets by = refl
  like_two _ by = absurd cc

  like_missing : (parent id : ℕ) (q : Refusal) → rule_of q ≡ Some ReferencesAreThere → Names (missing objects) parent id → IsRefused limits objects q
      → SaysTheSame (refusals.Missing parent id) q
  like_missing parent id (refusals.Missing of other) by x y = names_one (missing objects) parent id of other (λ a b. refusals.Missing a b) x y.1
  like_missing parent id _ by x y = absurd cc

  like_wrong : (parent id : ℕ) (q : Refusal) → rule_of q ≡ Some ReferencesFit → Names (wrong_kind objects) parent id → IsRefused limits objects q
      → SaysTheSame (refusals.WrongKind parent id) q
  like_wrong parent id (refusals.WrongKind of other) by x y = names_one (wrong_kind objects) parent id of other (λ a b. refusals.WrongKind a b) x y.1
  like_wrong parent id _ by x y = absurd cc

  like_cut : (id : ℕ) (q : Refusal) → rule_of q ≡ Some MacrosAreWhole → IsCutShort (cut_short (shape_of objects)) id → IsRefused limits objects q
      → SaysTheSame (refusals.MacroBytes id) q
  like_cut id (refusals.MacroBytes other) by x y = ap (λ (n : ℕ). refusals.MacroBytes n) (cut_one (cut_short (shape_of objects)) id other x y.1)
  like_cut id _ by x y = absurd cc

  like_command : (id at : ℕ) (q : Refusal) → rule_of q ≡ Some CommandsAreAllowed → IsAt (other_command (shape_of objects)) id at → IsRefused limits objects q
      → SaysTheSame (refusals.MacroCommand id at) q
  like_command id at (refusals.MacroCommand of other) by x y = at_one (other_command (shape_of objects)) id at of other (λ a b. refusals.MacroCommand a b) x y.1
  like_command id at _ by x y = absurd cc

  like_target : (parent id : ℕ) (q : Refusal) → rule_of q ≡ Some TargetsAreThere → Names (macro_missing (shape_of objects)) parent id → IsRefused limits objects q
      → SaysTheSame (refusals.MacroMissing parent id) q
  like_target parent id (refusals.MacroMissing of other) by x y = names_one (macro_missing (shape_of objects)) parent id of other (λ a b. refusals.MacroMissing a b) x y.1
  like_target parent id _ by x y = absurd cc

  like_kind : (parent id : ℕ) (q : Refusal) → rule_of q ≡ Some TargetsFit → Names (macro_wrong_kind (shape_of objects)) parent id → IsRefused limits objects q
      → SaysTheSame (refusals.MacroKind parent id) q
  like_kind parent id (refusals.MacroKind of other) by x y = names_one (macro_wrong_kind (shape_of objects)) parent id of other (λ a b. refusals.MacroKind a b) x y.1
  like_kind parent id _ by x y = absurd cc

  like_value : (id at : ℕ) (q : Refusal) → rule_of q ≡ Some AttributesAreThere → IsAt (other_attribute (shape_of objects)) id at → IsRefused limits objects q
      → SaysTheSame (refusals.MacroValue id at) q
  like_value id at (refusals.MacroValue of other) by x y = at_one (other_attribute (shape_of objects)) id at of other (λ a b. refusals.MacroValue a b) x y.1
  like_value id at _ by x y = absurd cc

  like_over : (id : ℕ) (q : Refusal) → rule_of q ≡ Some BudgetsAreWithin → IsFirstOver limits.steps (shape_of objects) id → IsRefused limits objects q
      → SaysTheSame (refusals.OverBudget id) q
  like_over id (refusals.OverBudget other) by x y = ap (λ (n : ℕ). refusals.OverBudget n) (over_one limits.steps (shape_of objects) id other x y.1)
  like_over id _ by x y = absurd cc

  like_deep : (r q : Refusal) → rule_of r ≡ Some ChainsAreShort → rule_of q ≡ Some ChainsAreShort → SaysTheSame r q
  like_deep (refusals.TooDeep chain) (refusals.TooDeep other) is by = tt
  like_deep (refusals.TooDeep chain) _ is by = absurd cc
  like_deep _ q is by = absurd cc

  like_circle : (r q : Refusal) → rule_of r ≡ Some TriggersAreNoCircle → rule_of q ≡ Some TriggersAreNoCircle → IsRefused limits objects r → IsRefused limits objects q
      → SaysTheSame r q
  like_circle (refusals.MacroCircle path) (refusals.MacroCircle other) is by x y = circle_one (shape_of objects) path.items other.items x.1 y.1
  like_circle (refusals.MacroCircle path) _ is by x y = absurd cc
  like_circle _ q is by x y = absurd cc

pub refusals_one : RefusalsAreOne
refusals_one limits objects r q is other named too = by_rule r is named
  where
    by_rule : (r : Refusal) → IsRefused limits objects r → (IsWantOfMemory r → ⊥) → SaysTheSame r q
    by_rule refusals.NoWorkingSet is named = like_none limits objects q (same_rule limits objects refusals.NoWorkingSet q HasWorkingSet refl is other too)
    by_rule refusals.TwoWorkingSets is named = like_two limits objects q (same_rule limits objects refusals.TwoWorkingSets q HasOneWorkingSet refl is other too)
    by_rule (refusals.Missing parent id) is named =
        like_missing limits objects parent id q (same_rule limits objects (refusals.Missing parent id) q ReferencesAreThere refl is other too) is.1 other
    by_rule (refusals.WrongKind parent id) is named =
        like_wrong limits objects parent id q (same_rule limits objects (refusals.WrongKind parent id) q ReferencesFit refl is other too) is.1 other
    by_rule (refusals.TooDeep chain) is named =
        like_deep limits objects (refusals.TooDeep chain) q refl (same_rule limits objects (refusals.TooDeep chain) q ChainsAreShort refl is other too)
    by_rule (refusals.MacroBytes id) is named =
        like_cut limits objects id q (same_rule limits objects (refusals.MacroBytes id) q MacrosAreWhole refl is other too) is.1 other
    by_rule (refusals.MacroCommand id at) is named =
        like_command limits objects id at q (same_rule limits objects (refusals.MacroCommand id at) q CommandsAreAllowed refl is other too) is.1 other
    by_rule (refusals.MacroMissing parent id) is named =
        like_target limits objects parent id q (same_rule limits objects (refusals.MacroMissing parent id) q TargetsAreThere refl is other too) is.1 other
    by_rule (refusals.MacroKind parent id) is named =
        like_kind limits objects parent id q (same_rule limits objects (refusals.MacroKind parent id) q TargetsFit refl is other too) is.1 other
    by_rule (refusals.MacroValue id at) is named =
        like_value limits objects id at q (same_rule limits objects (refusals.MacroValue id at) q AttributesAreThere refl is other too) is.1 other
    by_rule (refusals.MacroCircle path) is named =
        like_circle limits objects (refusals.MacroCircle path) q refl (same_rule limits objects (refusals.MacroCircle path) q TriggersAreNoCircle refl is other too) is other
    by_rule (refusals.OverBudget id) is named =
        like_over limits objects id q (same_rule limits objects (refusals.OverBudget id) q BudgetsAreWithin refl is other too) is.1 other
    by_rule refusals.OutOfMemory is named = absurd (named tt)
