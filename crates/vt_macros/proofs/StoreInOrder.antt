-- The store of an acceptable pool is in order.
use Rattle.std.proofs.Common.{◌≡◌, ℕ, Bool, true, false, cond, ◌==◌, ◌&&◌, nat_le, List, [], ◌∷◌, map, Option, Some, None, is_some, refl, sym, ap, subst, ◌∙◌}
use Rattle.std.proofs.lemmas.Option.{same_Some}
use Rattle.std.proofs.lemmas.Bool.{eqb-true}
use Rattle.std.proofs.Common.{T}
use Rattle.std.specs.Prelude.{IsTrue}
use Rattle.std.specs.Cmp.{unsigned_tied}
use Rattle.std.specs.Option.{option_map}
use Rattle.std.specs.Ordering.{nat_cmp, eq_by_cmp}
use Rattle.std.specs.List.{AllByRecursion, flat_map}
use Rattle.std.specs.FinMap as finite
use Rattle.vt_kinds.specs.declared.kind.Kind.{Kind}
use Rattle.vt_kinds.specs.declared.kind.Kind.TheVariants as kinds
use Rattle.vt_kinds.specs.declared.kinds.Kinds.{Kinds}
use Rattle.vt_kinds.specs.declared.kinds.Kinds.TheVariants as sets
use Rattle.vt_kinds.specs.declared.place.Place.TheVariants as places
use Rattle.vt_kinds.specs.declared.slot.Slot.{Slot}
use Rattle.vt_kinds.specs.declared.object.Object.TheVariants as objects
use Rattle.vt_kinds.specs.Ids.{null_id}
use Rattle.vt_kinds.specs.Records.{Seen, kind_of}
use Rattle.vt_kinds.specs.References.{slot, slots_of, is_member}
use Rattle.vt_stores.specs.Stores.{Objects, AreStored, object_at, map_of}
use Rattle.vt_verify.specs.Lists.{first_failing}
use Rattle.vt_stores.specs.Shapes.{Shape, Fixed, fixed, shape_of, fixed_at, kind_at}
use Rattle.vt_verify.specs.References.{is_there, may_refer, fits, of_slot, slot_references, references, pointed, with_value, slot_values}
use Rattle.vt_verify.specs.References as references
use Rattle.vt_chains.specs.Inclusions.{included, IsShallow}
use Rattle.vt_verify.specs.Rules.{IsAcceptable, working_sets}
use Rattle.vt_chains.specs.Limits.{terminal}
use Rattle.vt_effects.specs.Changes.{is_one_of}
use Rattle.vt_effects.specs.Effects.{kind_in, pointer_value}
use Rattle.vt_effects.specs.Soundness.{IsSound, value_fits, is_in_order}
use Rattle.vt_effects.specs.Soundness.{shape_in}
use Rattle.vt_macros.specs.Runs.{IsReady}
use Rattle.vt_macros.proofs.RunsEnd.{one_working_set}
use Rattle.vt_macros.proofs.MacroTargetsExist.{front_passes, rest_passes, each_passes}
use Rattle.vt_stores.proofs.ObjectShapes.{fixed_case, kinds_mapped}
use Rattle.vt_stores.proofs.SortedEntries.{true_both}

-- ---- the references of a pool

T_of : (b : Bool) → IsTrue b → T b
T_of true is = tt
T_of false is = absurd cc

pub entries_are : (pool : Objects) → AreStored pool → finite.entries (map_of pool) ≡ pool
entries_are pool stored = finite.entries-from_sorted nat_cmp pool (T_of _ (AreStored.rising stored))

get_is : (pool : Objects) (q : ℕ) → AreStored pool → finite.get (map_of pool) q ≡ object_at pool q
get_is pool q stored = finite.get-from_sorted nat_cmp pool q (T_of _ (AreStored.rising stored))

fixed_is : (pool : Objects) (q : ℕ) → fixed_at (shape_of pool) q ≡ option_map fixed (object_at pool q)
fixed_is [] q = refl
fixed_is (e ∷ pool) q = fixed_case (eq_by_cmp nat_cmp q e.0) e.1 (fixed_at (shape_of pool) q) (object_at pool q) (fixed_is pool q)

kind_is : (pool : Objects) (q : ℕ) → AreStored pool → kind_at (shape_of pool) q ≡ kind_in (map_of pool) q
kind_is pool q stored = ap (option_map (λ (f : Fixed). f.kind)) (fixed_is pool q) ∙ kinds_mapped (object_at pool q) ∙ ap (option_map kind_of) (sym (get_is pool q stored))

entry_or : (Q : ℕ × Seen → Type 0) (q k : ℕ) (y x : Seen) (rest : Option Seen) (b : Bool) → eq_by_cmp nat_cmp q k ≡ b → cond b (Some y) rest ≡ Some x → Q (k, y)
    → (rest ≡ Some x → Q (q, x)) → Q (q, x)
entry_or Q q k y x rest true same found here later =
    subst (λ (n : ℕ). Q (n, x)) (sym (eqb-true q k (sym (unsigned_tied q k) ∙ same))) (subst (λ (z : Seen). Q (k, z)) (same_Some y x found) here)
entry_or Q q k y x rest false same found here later = later found

found_entry : (Q : ℕ × Seen → Type 0) (pool : Objects) (q : ℕ) (x : Seen) → object_at pool q ≡ Some x → AllByRecursion Q pool → Q (q, x)
found_entry Q [] q x found all = absurd cc
found_entry Q (e ∷ pool) q x found all =
    entry_or Q q e.0 e.1 x (object_at pool q) (eq_by_cmp nat_cmp q e.0) refl found all.0 (λ later. found_entry Q pool q x later all.1)

-- ---- one slot

member_of : (kinds : Kinds) (id : ℕ) (kind : Kind) → may_refer kinds id kind ≡ true → is_member kinds kind ≡ true
member_of sets.Macros id kind is = first_true (is_member sets.Macros kind) (nat_le id 255) is
  where
    first_true : (a b : Bool) → (a && b) ≡ true → a ≡ true
    first_true true b e = refl
    first_true false b e = absurd cc
member_of _ id kind is = is

passes_first : (b : Bool) → {A : Type 0} (x : A) (rest : Option A) → cond b rest (Some x) ≡ None → b ≡ true
passes_first true x rest none = refl
passes_first false x rest none = absurd cc

kind_one : (kinds : Kinds) (id : ℕ) (kind : Option Kind) → is_some kind ≡ true → references.allows kinds id kind ≡ true → is_one_of kinds kind ≡ true
kind_one kinds id None there is = absurd cc
kind_one kinds id (Some kind) there is = member_of kinds id kind is

-- an ID other than NULL that exists and fits is of an allowed kind
pub there_fits : (shape : Shape) (kinds : Kinds) (id : ℕ) (null b : Bool) → (id == null_id) ≡ b → cond b null (is_some (kind_at shape id)) ≡ true
    → cond b true (references.allows kinds id (kind_at shape id)) ≡ true → b ≡ false → is_one_of kinds (kind_at shape id) ≡ true
there_fits shape kinds id null true e there fit other = absurd cc
there_fits shape kinds id null false e there fit other = kind_one kinds id (kind_at shape id) there fit

later_passes : (b : Bool) → {A : Type 0} (x : A) (rest : Option A) → cond b rest (Some x) ≡ None → rest ≡ None
later_passes true x rest none = none
later_passes false x rest none = absurd cc

-- an ID that exists and fits in the pool does so in its store
allowed_in : (pool : Objects) (kinds : Kinds) (id : ℕ) (null b : Bool) → AreStored pool → (id == null_id) ≡ b → cond b null (is_some (kind_at (shape_of pool) id)) ≡ true
    → cond b true (references.allows kinds id (kind_at (shape_of pool) id)) ≡ true → b ≡ false → is_one_of kinds (kind_in (map_of pool) id) ≡ true
allowed_in pool kinds id null b stored e there fit other =
    subst (λ (k : Option Kind). is_one_of kinds k ≡ true) (kind_is pool id stored) (there_fits (shape_of pool) kinds id null b e there fit other)

-- a pointer's value fits in place of the pointer
value_in : (pool : Objects) (s : Slot) (value : ℕ) (b : Bool) → AreStored pool → (value == null_id) ≡ b → cond b true (is_some (kind_at (shape_of pool) value)) ≡ true
    → cond b true (references.allows s.kinds value (kind_at (shape_of pool) value)) ≡ true
    → cond b true (is_one_of s.kinds (kind_in (map_of pool) value)) ≡ true
value_in pool s value true stored e there fit = refl
value_in pool s value false stored e there fit = allowed_in pool s.kinds value true false stored e there fit refl

pointer_fits : (pool : Objects) (parent : ℕ) (s : Slot) (found : Option Seen) → AreStored pool → object_at pool s.id ≡ found
    → AllByRecursion (λ e. first_failing (is_there (shape_of pool)) (slot_references e) ≡ None) pool
    → first_failing (fits (shape_of pool)) (pointed (of_slot parent s) found) ≡ None → IsTrue (value_fits (map_of pool) s (pointer_value found))
pointer_fits pool parent s None stored is there fit = refl
pointer_fits pool parent s (Some (objects.ObjectPointer p)) stored is there fit =
    value_in pool s p.value (p.value == null_id) stored refl
    (passes_first (is_there (shape_of pool) (of_slot s.id (slot kinds.ObjectPointer places.Value p.value))) (of_slot s.id (slot kinds.ObjectPointer places.Value p.value)) None
    (found_entry (λ e. first_failing (is_there (shape_of pool)) (slot_references e) ≡ None) pool s.id (objects.ObjectPointer p) is there))
    (passes_first (fits (shape_of pool) (record (of_slot parent s) { id = p.value })) (record (of_slot parent s) { id = p.value }) None fit)
pointer_fits pool parent s (Some _) stored is there fit = refl

slot_by : (pool : Objects) (parent : ℕ) (s : Slot) (b : Bool) → AreStored pool → (s.id == null_id) ≡ b → cond b s.null (is_some (kind_at (shape_of pool) s.id)) ≡ true
    → cond b true (references.allows s.kinds s.id (kind_at (shape_of pool) s.id)) ≡ true
    → IsTrue (value_fits (map_of pool) s (pointer_value (finite.get (map_of pool) s.id)))
    → IsTrue (cond b s.null (is_one_of s.kinds (kind_in (map_of pool) s.id) && value_fits (map_of pool) s (pointer_value (finite.get (map_of pool) s.id))))
slot_by pool parent s true stored e there fit value = there
slot_by pool parent s false stored e there fit value = true_both _ _ (allowed_in pool s.kinds s.id s.null false stored e there fit refl) value

slots_by : (pool : Objects) (parent : ℕ) (slots : List Slot) → AreStored pool
    → AllByRecursion (λ e. first_failing (is_there (shape_of pool)) (slot_references e) ≡ None) pool
    → first_failing (is_there (shape_of pool)) (map (of_slot parent) slots) ≡ None
    → first_failing (fits (shape_of pool)) (flat_map (with_value pool) (map (of_slot parent) slots)) ≡ None
    → AllByRecursion (λ s. IsTrue (is_in_order (map_of pool) s)) slots
slots_by pool parent [] stored all there fit = tt
slots_by pool parent (s ∷ slots) stored all there fit =
    let r = of_slot parent s in
    let rest = map (of_slot parent) slots in
    let own : first_failing (fits (shape_of pool)) (with_value pool r) ≡ None = front_passes (fits (shape_of pool)) (with_value pool r) (flat_map (with_value pool) rest) fit in (
      slot_by pool parent s (s.id == null_id) stored refl
          (passes_first (is_there (shape_of pool) r) r (first_failing (is_there (shape_of pool)) rest) there)
          (passes_first (fits (shape_of pool) r) r (first_failing (fits (shape_of pool)) (pointed r (object_at pool r.id))) own)
          (subst (λ (o : Option Seen). IsTrue (value_fits (map_of pool) s (pointer_value o))) (sym (get_is pool s.id stored))
          (pointer_fits pool parent s (object_at pool s.id) stored refl all
          (later_passes (fits (shape_of pool) r) r (first_failing (fits (shape_of pool)) (pointed r (object_at pool r.id))) own))),
      slots_by pool parent slots stored all
          (later_passes (is_there (shape_of pool) r) r (first_failing (is_there (shape_of pool)) rest) there)
          (rest_passes (fits (shape_of pool)) (with_value pool r) (flat_map (with_value pool) rest) fit),
    )

-- ---- the whole store

sound_of : (pool : Objects) → AreStored pool → IsAcceptable terminal pool → IsSound (map_of pool)
sound_of pool stored acceptable =
    let there = each_passes (is_there (shape_of pool)) slot_references pool (IsAcceptable.references_there acceptable) in
    let fit = each_passes (fits (shape_of pool)) (slot_values pool) pool (IsAcceptable.references_fit acceptable) in
    record {
      slots = λ id o at.
          let found : object_at pool id ≡ Some o = sym (get_is pool id stored) ∙ at in
          slots_by pool id (slots_of o) stored there
          (found_entry (λ e. first_failing (is_there (shape_of pool)) (slot_references e) ≡ None) pool id o found there)
          (found_entry (λ e. first_failing (fits (shape_of pool)) (slot_values pool e) ≡ None) pool id o found fit);
      shallow = subst (λ (es : Objects). IsShallow terminal.inclusions (included es)) (sym (entries_are pool stored)) (IsAcceptable.chains_short acceptable);
    }

pub shape_is : (pool : Objects) → AreStored pool → shape_in (map_of pool) ≡ shape_of pool
unfolding shape_in
shape_is pool stored = ap shape_of (entries_are pool stored)

pub pools_are_ready : (pool : Objects) → AreStored pool → IsAcceptable terminal pool → IsReady pool (map_of pool)
pools_are_ready pool stored acceptable = record {
  working_set = ap working_sets (shape_is pool stored) ∙ one_working_set pool acceptable;
  sound = sound_of pool stored acceptable;
  shape = shape_is pool stored;
}
