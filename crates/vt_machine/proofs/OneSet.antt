-- In a store with one working set, all IDs of working sets are equal.
use Rattle.std.proofs.Common.{◌≡◌, ℕ, suc, Bool, true, false, cond, [], ◌∷◌, filter, length, slice_get, Some, refl, sym, ap, subst, ◌∙◌, arith}
use Rattle.std.proofs.lemmas.Bool.{eqb-true}
use Rattle.std.specs.Cmp.{unsigned_tied}
use Rattle.std.specs.Option.{option_map}
use Rattle.std.specs.Ordering.{nat_cmp, eq_by_cmp}
use Rattle.std.specs.FinMap as finite
use Rattle.vt_kinds.specs.declared.kind.Kind.{Kind}
use Rattle.vt_kinds.specs.declared.kind.Kind.TheVariants as kinds
use Rattle.vt_kinds.specs.Records.{Seen, kind_of}
use Rattle.vt_stores.specs.Stores.{ObjectMap, Objects, object_at}
use Rattle.vt_stores.specs.Shapes.{fixed, shape_of}
use Rattle.vt_verify.specs.Rules.{is_working_set, working_sets}
use Rattle.vt_chains.proofs.IdIndices.{get_placed}
use Rattle.vt_effects.specs.Effects.{kind_in}
use Rattle.vt_machine.specs.SetStates.{ActiveMasksAreOne, IsActive, first_set, working_set_in, active_in}
use Rattle.vt_macros.specs.Machines.{mask_of}
use Rattle.vt_effects.specs.Soundness.{shape_in}

abbrev IsSet : Objects → ℕ → Type 0
IsSet es q = option_map kind_of (object_at es q) ≡ Some kinds.WorkingSet

count_more : (e : ℕ × Seen) (es : Objects) → working_sets (shape_of (e ∷ es)) ≡ cond (is_working_set (kind_of e.1)) (suc (working_sets (shape_of es))) (working_sets (shape_of es))
count_more e es = by (is_working_set (kind_of e.1))
  where
    by : (b : Bool) → length (cond b ((e.0, fixed e.1) ∷ filter (λ f. is_working_set f.1.kind) (shape_of es)) (filter (λ f. is_working_set f.1.kind) (shape_of es)))
        ≡ cond b (suc (working_sets (shape_of es))) (working_sets (shape_of es))
    by true = omega arith
    by false = refl

-- the object of an ID is the first entry or a later one
entry_case : (P : Type 0) (e : ℕ × Seen) (es : Objects) (q : ℕ) (b : Bool) → eq_by_cmp nat_cmp q e.0 ≡ b → IsSet (e ∷ es) q
    → (q ≡ e.0 → is_working_set (kind_of e.1) ≡ true → P) → (IsSet es q → P) → P
entry_case P e es q true same is here later =
    here (eqb-true q e.0 (sym (unsigned_tied q e.0) ∙ same))
    (set_kind (kind_of e.1) (subst (λ (c : Bool). option_map kind_of (cond c (Some e.1) (object_at es q)) ≡ Some kinds.WorkingSet) same is))
  where
    set_kind : (k : Kind) → Some k ≡ Some kinds.WorkingSet → is_working_set k ≡ true
    set_kind kinds.WorkingSet one = refl
    set_kind _ one = absurd cc
entry_case P e es q false other is here later =
    later (subst (λ (c : Bool). option_map kind_of (cond c (Some e.1) (object_at es q)) ≡ Some kinds.WorkingSet) other is)

none_left : (es : Objects) (q : ℕ) → working_sets (shape_of es) ≡ 0 → IsSet es q → ⊥
none_left [] q none is = absurd cc
none_left (e ∷ es) q none is =
    entry_case ⊥ e es q (eq_by_cmp nat_cmp q e.0) refl is
    (λ same set. let more = count_more e es ∙ ap (λ (b : Bool). cond b (suc (working_sets (shape_of es))) (working_sets (shape_of es))) set in omega (arith, more, none))
    (λ rest. none_left es q (fewer (is_working_set (kind_of e.1)) (sym (count_more e es) ∙ none)) rest)
  where
    fewer : (b : Bool) → cond b (suc (working_sets (shape_of es))) (working_sets (shape_of es)) ≡ 0 → working_sets (shape_of es) ≡ 0
    fewer true is = absurd (omega (arith, is))
    fewer false is = is

one_by : (e : ℕ × Seen) (es : Objects) (p q : ℕ) (b : Bool) → is_working_set (kind_of e.1) ≡ b → cond b (suc (working_sets (shape_of es))) (working_sets (shape_of es)) ≡ 1
    → IsSet (e ∷ es) p → IsSet (e ∷ es) q → (working_sets (shape_of es) ≡ 1 → IsSet es p → IsSet es q → p ≡ q) → p ≡ q
one_by e es p q true set one first second rest =
    let none : working_sets (shape_of es) ≡ 0 = omega (arith, one) in
    entry_case (p ≡ q) e es p (eq_by_cmp nat_cmp p e.0) refl first
    (λ p_is set_p. entry_case (p ≡ q) e es q (eq_by_cmp nat_cmp q e.0) refl second (λ q_is set_q. p_is ∙ sym q_is) (λ later. absurd (none_left es q none later)))
    (λ later. absurd (none_left es p none later))
one_by e es p q false other one first second rest =
    entry_case (p ≡ q) e es p (eq_by_cmp nat_cmp p e.0) refl first
    (λ p_is set_p. absurd (never set_p))
    (λ later. entry_case (p ≡ q) e es q (eq_by_cmp nat_cmp q e.0) refl second (λ q_is set_q. absurd (never set_q)) (λ behind. rest one later behind))
  where
    never : is_working_set (kind_of e.1) ≡ true → ⊥
    never set = let both : false ≡ true = sym other ∙ set in absurd cc

one_set : (es : Objects) (p q : ℕ) → working_sets (shape_of es) ≡ 1 → IsSet es p → IsSet es q → p ≡ q
one_set [] p q one first second = absurd cc
one_set (e ∷ es) p q one first second =
    one_by e es p q (is_working_set (kind_of e.1)) refl (sym (count_more e es) ∙ one) first second (λ left. one_set es p q left)

entries_count : (m : ObjectMap) → working_sets (shape_in m) ≡ 1 → working_sets (shape_of (finite.entries m)) ≡ 1
unfolding shape_in
entries_count m one = one

pub masks_are_one : (m : ObjectMap) (mask other : ℕ) → working_sets (shape_in m) ≡ 1 → IsActive m mask → IsActive m other → mask ≡ other
masks_are_one m mask other one first second =
    let same : first.0 ≡ second.0 =
    one_set (finite.entries m) first.0 second.0 (entries_count m one)
    (sym (ap (option_map kind_of) (finite.get-entries m first.0)) ∙ first.1)
    (sym (ap (option_map kind_of) (finite.get-entries m second.0)) ∙ second.1) in
    sym first.2 ∙ ap (λ (k : ℕ). mask_of (finite.get m k)) same ∙ second.2

-- ---- the first working set

found_by : (e : ℕ × Seen) (es : Objects) (q : ℕ) (b : Bool) → is_working_set (kind_of e.1) ≡ b → cond b (suc (working_sets (shape_of es))) (working_sets (shape_of es)) ≡ 1
    → IsSet (e ∷ es) q → (working_sets (shape_of es) ≡ 1 → IsSet es q → q ≡ first_set es) → q ≡ cond b e.0 (first_set es)
found_by e es q true set one is rest =
    let none : working_sets (shape_of es) ≡ 0 = omega (arith, one) in
    entry_case (q ≡ e.0) e es q (eq_by_cmp nat_cmp q e.0) refl is (λ same set_q. same) (λ later. absurd (none_left es q none later))
found_by e es q false other one is rest =
    entry_case (q ≡ first_set es) e es q (eq_by_cmp nat_cmp q e.0) refl is (λ same set_q. absurd (never set_q)) (λ later. rest one later)
  where
    never : is_working_set (kind_of e.1) ≡ true → ⊥
    never set = let both : false ≡ true = sym other ∙ set in absurd cc

is_first : (es : Objects) (q : ℕ) → working_sets (shape_of es) ≡ 1 → IsSet es q → q ≡ first_set es
is_first [] q one is = absurd cc
is_first (e ∷ es) q one is =
    found_by e es q (is_working_set (kind_of e.1)) refl (sym (count_more e es) ∙ one) is (λ left later. is_first es q left later)

pub set_is : (m : ObjectMap) (set : ℕ) → working_sets (shape_in m) ≡ 1 → kind_in m set ≡ Some kinds.WorkingSet → set ≡ working_set_in m
unfolding working_set_in
set_is m set one is =
    is_first (finite.entries m) set (entries_count m one) (sym (ap (option_map kind_of) (finite.get-entries m set)) ∙ is)

pub active_is : (m : ObjectMap) (set mask : ℕ) → working_sets (shape_in m) ≡ 1 → kind_in m set ≡ Some kinds.WorkingSet → mask ≡ mask_of (finite.get m set) → mask ≡ active_in m
active_is m set mask one is active = active ∙ ap (λ (k : ℕ). mask_of (finite.get m k)) (set_is m set one is)

-- a store with one working set has its ID
pub set_kind : (k : Kind) → is_working_set k ≡ true → k ≡ kinds.WorkingSet
set_kind kinds.WorkingSet is = refl
set_kind _ is = absurd cc

some_by : (P : Type 0) (m : ObjectMap) (e : ℕ × Seen) (es : Objects) (b : Bool) → is_working_set (kind_of e.1) ≡ b → finite.get m e.0 ≡ Some e.1
    → cond b (suc (working_sets (shape_of es))) (working_sets (shape_of es)) ≡ 1 → ((q : ℕ) → kind_in m q ≡ Some kinds.WorkingSet → P)
    → (working_sets (shape_of es) ≡ 1 → P) → P
some_by P m e es true set here one then rest = then e.0 (ap (option_map kind_of) here ∙ ap (λ (k : Kind). Some k) (set_kind (kind_of e.1) set))
some_by P m e es false other here one then rest = rest one

some_set : (P : Type 0) (m : ObjectMap) (es : Objects) → ((place q : ℕ) (o : Seen) → slice_get es place ≡ Some (q, o) → finite.get m q ≡ Some o) → working_sets (shape_of es) ≡ 1
    → ((q : ℕ) → kind_in m q ≡ Some kinds.WorkingSet → P) → P
some_set P m [] there one then = absurd cc
some_set P m (e ∷ es) there one then =
    some_by P m e es (is_working_set (kind_of e.1)) refl (there 0 e.0 e.1 refl) (sym (count_more e es) ∙ one) then
    (λ left. some_set P m es (λ place q o at. there (suc place) q o at) left then)

pub set_there : (m : ObjectMap) → working_sets (shape_in m) ≡ 1 → kind_in m (working_set_in m) ≡ Some kinds.WorkingSet
set_there m one =
    some_set (kind_in m (working_set_in m) ≡ Some kinds.WorkingSet) m (finite.entries m) (λ place q o at. get_placed m place q o at) (entries_count m one)
    (λ q is. subst (λ (k : ℕ). kind_in m k ≡ Some kinds.WorkingSet) (set_is m q one is) is)

pub active_masks_are_one : ActiveMasksAreOne
active_masks_are_one = record {
  one = masks_are_one;
  set = set_is;
  set_there = set_there;
  mask = λ m mask one active. active_is m active.0 mask one active.1 (sym active.2);
  active = λ m one. (working_set_in m, set_there m one, refl);
}
