-- Macros whose bytes all end with a whole command.
use Rattle.std.proofs.Common.{◌≡◌, ℕ, Bool, true, false, cond, not, List, [], ◌∷◌, map, ◌++◌, Option, Some, None, refl, sym, ap, ap₂, ◌∙◌}
use Rattle.std.proofs.lemmas.List.{map-append}
use Rattle.std.specs.List.{flat_map}
use Rattle.vt_kinds.specs.declared.slot.Slot.{Slot}
use Rattle.vt_kinds.specs.References.{slots_of}
use Rattle.vt_stores.specs.Shapes.{Shape, shape_of}
use Rattle.vt_stores.specs.Stores.{Objects}
use Rattle.vt_verify.specs.Lists.{first_failing}
use Rattle.vt_verify.specs.Macros.{macros, is_whole}
use Rattle.vt_verify.specs.declared.reference.Reference.{Reference}
use Rattle.vt_verify.specs.References.{of_slot, references, is_there}
use Rattle.vt_verify.specs.Rules as rules
use Rattle.check_inspect.specs.declared.finding.Finding.TheVariants as findings
use Rattle.check_inspect.specs.declared.finding.ReferenceAt.{ReferenceAt}
use Rattle.check_inspect.specs.Lists.{all_failing}
use Rattle.check_inspect.specs.References.{slot_at, slots_at, missing_at}
use Rattle.check_inspect.specs.Findings.{cut_findings}

module _ {A B : Type 0} (test : A → Bool) (f : A → B) where
  none_case : (b : Bool) (x : A) (rest : List A) (later : Option A) → (map f rest ≡ [] → later ≡ None) → map f (cond (not b) (x ∷ rest) rest) ≡ []
      → cond b later (Some x) ≡ None
  none_case true x rest later next none = next none
  none_case false x rest later next none = absurd cc

  -- where nothing fails, there is no first failure
  pub none_fails : (xs : List A) → map f (all_failing test xs) ≡ [] → first_failing test xs ≡ None
  none_fails [] none = refl
  none_fails (x ∷ xs) none = none_case (test x) x (all_failing test xs) (first_failing test xs) (none_fails xs) none

pub all_whole : (shape : Shape) → cut_findings shape ≡ [] → rules.cut_short shape ≡ None
all_whole shape none = none_fails is_whole (λ m. findings.MacroBytes m.0) (macros shape) none

-- ---- references

module _ {A B : Type 0} (test : B → Bool) (f : A → B) where
  first_case : (b : Bool) (x : A) (rest : List A) (later : Option B) → (rest ≡ [] → later ≡ None) → cond (not b) (x ∷ rest) rest ≡ [] → cond b later (Some (f x)) ≡ None
  first_case true x rest later next none = next none
  first_case false x rest later next none = absurd cc

  pub none_first : (xs : List A) → all_failing (λ x. test (f x)) xs ≡ [] → first_failing test (map f xs) ≡ None
  none_first [] none = refl
  none_first (x ∷ xs) none = first_case (test (f x)) x (all_failing (λ x. test (f x)) xs) (first_failing test (map f xs)) (none_first xs) none

of_slots : (parent : ℕ) (slots : List Slot) → map (λ (r : ReferenceAt). r.reference) (map (slot_at parent) slots) ≡ map (of_slot parent) slots
of_slots parent [] = refl
of_slots parent (s ∷ slots) = ap (λ l. of_slot parent s ∷ l) (of_slots parent slots)

-- the references with their positions are the verified references
pub references_are : (objects : Objects) → map (λ (r : ReferenceAt). r.reference) (flat_map slots_at objects) ≡ references objects
references_are [] = refl
references_are (e ∷ objects) =
    map-append (λ (r : ReferenceAt). r.reference) (slots_at e) (flat_map slots_at objects)
    ∙ ap₂ (λ (a b : List Reference). a ++ b) (of_slots e.0 (slots_of e.1)) (references_are objects)

pub none_missing : (objects : Objects) → missing_at objects ≡ [] → rules.missing objects ≡ None
none_missing objects none =
    ap (first_failing (is_there (shape_of objects))) (sym (references_are objects))
    ∙ none_first (is_there (shape_of objects)) (λ (r : ReferenceAt). r.reference) (flat_map slots_at objects) none
