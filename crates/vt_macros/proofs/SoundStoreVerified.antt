-- A store in order, of the shape of a verified pool, is verified: its references exist and fit, and its chains are short.
use Rattle.std.proofs.Common.{◌≡◌, ◌≤◌, ◌<◌, ℕ, suc, Bool, true, false, cond, ◌==◌, ◌&&◌, eqb, List, [], ◌∷◌, map, Option, Some, None, is_some, refl, sym, ap, subst, ◌∙◌}
use Rattle.std.proofs.lemmas.Bool.{eqb-true}
use Rattle.std.specs.Prelude.{IsTrue, slice_get}
use Rattle.std.specs.Option.{option_map}
use Rattle.std.specs.List.{All, AllByRecursion, IsDistinct, flat_map}
use Rattle.std.specs.FinMap as finite
use Rattle.vt_kinds.specs.declared.kind.Kind.{Kind}
use Rattle.vt_kinds.specs.declared.kind.Kind.TheVariants as kinds
use Rattle.vt_kinds.specs.declared.kinds.Kinds.{Kinds}
use Rattle.vt_kinds.specs.declared.place.Place.{Place}
use Rattle.vt_kinds.specs.declared.place.Place.TheVariants as places
use Rattle.vt_kinds.specs.declared.slot.Slot.{Slot}
use Rattle.vt_kinds.specs.declared.object.Object.TheVariants as objects
use Rattle.vt_kinds.specs.Ids.{null_id}
use Rattle.vt_kinds.specs.Records.{Seen, kind_of}
use Rattle.vt_kinds.specs.References.{slot, slots_listed, slots_of, allowed, is_member}
use Rattle.vt_stores.specs.Stores.{Objects, ObjectMap, AreStored, ids, object_at}
use Rattle.vt_stores.specs.Shapes.{Shape, Fixed, shape_of, kind_at}
use Rattle.vt_stores.proofs.ObjectShapes.{kind_found}
use Rattle.vt_chains.proofs.IdIndices.{rising, get_placed}
use Rattle.vt_chains.specs.Limits.{terminal}
use Rattle.vt_verify.specs.Lists.{first_failing}
use Rattle.vt_verify.specs.References.{is_there, fits, of_slot, pointed, with_value, slot_references, slot_values}
use Rattle.vt_verify.specs.References as references
use Rattle.vt_verify.specs.Budgets.{MacroCostsAreTotals}
use Rattle.vt_verify.specs.Rules.{IsVerified, IsWithinBudget, missing, wrong_kind, working_sets, cut_short, other_command, macro_missing, macro_wrong_kind, other_attribute}
use Rattle.vt_verify.specs.Triggers.{triggered}
use Rattle.vt_rank.specs.Paths.{HasNoCircle}
use Rattle.vt_verify.proofs.lemmas.references.ReferenceTests.{passed, null_fits}
use Rattle.vt_verify.proofs.lemmas.rules.FirstFailure.{passes_in}
use Rattle.vt_effects.specs.Changes.{is_one_of}
use Rattle.vt_effects.specs.Effects.{kind_in, pointer_value}
use Rattle.vt_effects.specs.Soundness.{IsSound, shape_in, value_fits, is_in_order}
use Rattle.vt_effects.proofs.lemmas.stores.OneChangedObject.{first_of, second_of}
use Rattle.vt_macros.specs.NestedRuns.{IsOfVerified}

-- ---- the slots of an object allow the members of their kinds, whatever the ID

abbrev IsPlainlyAllowed : Kinds → Type 0
IsPlainlyAllowed kinds = (id : ℕ) (kind : Kind) → references.may_refer kinds id kind ≡ is_member kinds kind

allowed_plainly : (owner : Kind) (place : Place) → IsPlainlyAllowed (allowed owner place)
allowed_plainly owner places.ActiveMask id kind = refl
allowed_plainly owner places.SoftKeyMask id kind = refl
allowed_plainly kinds.WorkingSet (places.Child index) id kind = refl
allowed_plainly _ (places.Child index) id kind = refl
allowed_plainly owner (places.Key index) id kind = refl
allowed_plainly owner places.Font id kind = refl
allowed_plainly owner places.InputAttributes id kind = refl
allowed_plainly kinds.InputString places.Variable id kind = refl
allowed_plainly kinds.OutputString places.Variable id kind = refl
allowed_plainly _ places.Variable id kind = refl
allowed_plainly owner places.TargetVariable id kind = refl
allowed_plainly owner (places.Item index) id kind = refl
allowed_plainly owner places.LineAttributes id kind = refl
allowed_plainly owner places.Fill id kind = refl
allowed_plainly owner places.Pattern id kind = refl
allowed_plainly owner places.Value id kind = refl

module _ (P : Slot → Type 0) (of : (owner : Kind) (place : Place) (id : ℕ) → P (slot owner place id)) where
  each_listed : (owner : Kind) (place : ℕ → Place) (index : ℕ) (ids : List ℕ) → AllByRecursion P (slots_listed owner place index ids)
  each_listed owner place index [] = tt
  each_listed owner place index (id ∷ ids) = (of owner (place index) id, each_listed owner place (suc index) ids)

  each_slot : (o : Seen) → AllByRecursion P (slots_of o)
  each_slot (objects.WorkingSet o) = (of kinds.WorkingSet _ _, each_listed kinds.WorkingSet _ 0 _)
  each_slot (objects.DataMask o) = (of kinds.DataMask _ _, each_listed kinds.DataMask _ 0 _)
  each_slot (objects.AlarmMask o) = (of kinds.AlarmMask _ _, each_listed kinds.AlarmMask _ 0 _)
  each_slot (objects.Container o) = each_listed kinds.Container _ 0 _
  each_slot (objects.SoftKeyMask o) = each_listed kinds.SoftKeyMask _ 0 _
  each_slot (objects.Key o) = each_listed kinds.Key _ 0 _
  each_slot (objects.Button o) = each_listed kinds.Button _ 0 _
  each_slot (objects.InputBoolean o) = (of kinds.InputBoolean _ _, (of kinds.InputBoolean _ _, tt))
  each_slot (objects.InputString o) = (of kinds.InputString _ _, (of kinds.InputString _ _, (of kinds.InputString _ _, tt)))
  each_slot (objects.InputNumber o) = (of kinds.InputNumber _ _, (of kinds.InputNumber _ _, tt))
  each_slot (objects.InputList o) = (of kinds.InputList _ _, each_listed kinds.InputList _ 0 _)
  each_slot (objects.OutputString o) = (of kinds.OutputString _ _, (of kinds.OutputString _ _, tt))
  each_slot (objects.OutputNumber o) = (of kinds.OutputNumber _ _, (of kinds.OutputNumber _ _, tt))
  each_slot (objects.Line o) = (of kinds.Line _ _, tt)
  each_slot (objects.Rectangle o) = (of kinds.Rectangle _ _, (of kinds.Rectangle _ _, tt))
  each_slot (objects.Ellipse o) = (of kinds.Ellipse _ _, (of kinds.Ellipse _ _, tt))
  each_slot (objects.Polygon o) = (of kinds.Polygon _ _, (of kinds.Polygon _ _, tt))
  each_slot (objects.Meter o) = (of kinds.Meter _ _, tt)
  each_slot (objects.LinearBar o) = (of kinds.LinearBar _ _, (of kinds.LinearBar _ _, tt))
  each_slot (objects.ArchedBar o) = (of kinds.ArchedBar _ _, (of kinds.ArchedBar _ _, tt))
  each_slot (objects.FillAttributes o) = (of kinds.FillAttributes _ _, tt)
  each_slot (objects.ObjectPointer o) = (of kinds.ObjectPointer _ _, tt)
  each_slot _ = tt

slots_plainly : (o : Seen) → AllByRecursion (λ s. IsPlainlyAllowed s.kinds) (slots_of o)
slots_plainly = each_slot (λ s. IsPlainlyAllowed s.kinds) (λ owner place id. allowed_plainly owner place)

-- ---- one slot

some_of : (kinds : Kinds) (kind : Option Kind) → is_one_of kinds kind ≡ true → is_some kind ≡ true
some_of kinds None is = absurd cc
some_of kinds (Some kind) is = refl

allows_of : (kinds : Kinds) (id : ℕ) (kind : Option Kind) → IsPlainlyAllowed kinds → is_one_of kinds kind ≡ true → references.allows kinds id kind ≡ true
allows_of kinds id None plainly is = absurd cc
allows_of kinds id (Some kind) plainly is = plainly id kind ∙ is

module _ (m : ObjectMap) (stored : AreStored (finite.entries m)) where
  abbrev shape : Shape
  shape = shape_of (finite.entries m)

  kind_is : (id : ℕ) → kind_in m id ≡ kind_at shape id
  kind_is id = ap (option_map kind_of) (finite.get-entries m id) ∙ sym (kind_found (finite.entries m) id)

  there_by : (s : Slot) (b : Bool) → IsTrue (cond b s.null (is_one_of s.kinds (kind_in m s.id) && value_fits m s (pointer_value (finite.get m s.id))))
      → cond b s.null (is_some (kind_at shape s.id)) ≡ true
  there_by s true is = is
  there_by s false is =
      some_of s.kinds (kind_at shape s.id)
      (subst (λ (k : Option Kind). is_one_of s.kinds k ≡ true) (kind_is s.id)
      (first_of (is_one_of s.kinds (kind_in m s.id)) (value_fits m s (pointer_value (finite.get m s.id))) is))

  allowed_by : (s : Slot) (id : ℕ) (b : Bool) → IsPlainlyAllowed s.kinds → cond b true (is_one_of s.kinds (kind_in m id)) ≡ true
      → cond b true (references.allows s.kinds id (kind_at shape id)) ≡ true
  allowed_by s id true plainly is = refl
  allowed_by s id false plainly is =
      allows_of s.kinds id (kind_at shape id) plainly (subst (λ (k : Option Kind). is_one_of s.kinds k ≡ true) (kind_is id) is)

  -- the value of a pointer
  value_by : (parent : ℕ) (s : Slot) (found : Option Seen) → IsPlainlyAllowed s.kinds → value_fits m s (pointer_value found) ≡ true
      → first_failing (fits shape) (pointed (of_slot parent s) found) ≡ None
  value_by parent s None plainly is = refl
  value_by parent s (Some (objects.ObjectPointer o)) plainly is =
      passed (fits shape) (record (of_slot parent s) { id = o.value }) [] (allowed_by s o.value (o.value == null_id) plainly is)
  value_by parent s (Some _) plainly is = refl

  fits_by : (parent : ℕ) (s : Slot) (b : Bool) → IsPlainlyAllowed s.kinds → (s.id == null_id) ≡ b
      → IsTrue (cond b s.null (is_one_of s.kinds (kind_in m s.id) && value_fits m s (pointer_value (finite.get m s.id))))
      → first_failing (fits shape) (with_value (finite.entries m) (of_slot parent s)) ≡ None
  fits_by parent s true plainly e is = null_fits (finite.entries m) (of_slot parent s) stored (eqb-true s.id null_id e)
  fits_by parent s false plainly e is =
      passed (fits shape) (of_slot parent s) (pointed (of_slot parent s) (object_at (finite.entries m) s.id))
      (ap (λ (b : Bool). cond b true (references.allows s.kinds s.id (kind_at shape s.id))) e
      ∙ allowed_by s s.id false plainly (first_of (is_one_of s.kinds (kind_in m s.id)) (value_fits m s (pointer_value (finite.get m s.id))) is))
      ∙ value_by parent s (object_at (finite.entries m) s.id) plainly
      (subst (λ (o : Option Seen). value_fits m s (pointer_value o) ≡ true) (finite.get-entries m s.id)
      (second_of (is_one_of s.kinds (kind_in m s.id)) (value_fits m s (pointer_value (finite.get m s.id))) is))

  -- ---- the slots of an object

  slots_there : (parent : ℕ) (slots : List Slot) → AllByRecursion (λ s. IsTrue (is_in_order m s)) slots
      → first_failing (is_there shape) (map (of_slot parent) slots) ≡ None
  slots_there parent [] all = refl
  slots_there parent (s ∷ slots) all =
      passed (is_there shape) (of_slot parent s) (map (of_slot parent) slots) (there_by s (s.id == null_id) all.0) ∙ slots_there parent slots all.1

  slots_fit : (parent : ℕ) (slots : List Slot) → AllByRecursion (λ s. IsPlainlyAllowed s.kinds) slots → AllByRecursion (λ s. IsTrue (is_in_order m s)) slots
      → first_failing (fits shape) (flat_map (with_value (finite.entries m)) (map (of_slot parent) slots)) ≡ None
  slots_fit parent [] plainly all = refl
  slots_fit parent (s ∷ slots) plainly all =
      passes_in (fits shape) (with_value (finite.entries m) (of_slot parent s)) (flat_map (with_value (finite.entries m)) (map (of_slot parent) slots))
      (fits_by parent s (s.id == null_id) plainly.0 refl all.0)
      ∙ slots_fit parent slots plainly.1 all.1

-- ---- all objects

none_fails : {A B : Type 0} (test : B → Bool) (h : A → List B) (xs : List A)
    → ((place : ℕ) (x : A) → slice_get xs place ≡ Some x → first_failing test (h x) ≡ None) → first_failing test (flat_map h xs) ≡ None
none_fails test h [] each = refl
none_fails test h (x ∷ xs) each = passes_in test (h x) (flat_map h xs) (each 0 x refl) ∙ none_fails test h xs (λ place. each (suc place))

module _ (m : ObjectMap) (sound : IsSound m) (stored : AreStored (finite.entries m)) where
  all_there : missing (finite.entries m) ≡ None
  all_there =
      none_fails (is_there (shape_of (finite.entries m))) slot_references (finite.entries m)
      (λ place e at. slots_there m stored e.0 (slots_of e.1) (sound.slots e.0 e.1 (get_placed m place e.0 e.1 at)))

  all_fit : wrong_kind (finite.entries m) ≡ None
  all_fit =
      none_fails (fits (shape_of (finite.entries m))) (slot_values (finite.entries m)) (finite.entries m)
      (λ place e at. slots_fit m stored e.0 (slots_of e.1) (slots_plainly e.1) (sound.slots e.0 e.1 (get_placed m place e.0 e.1 at)))

ids_in : (es : Objects) → map (λ (e : ℕ × Fixed). e.0) (shape_of es) ≡ ids es
ids_in [] = refl
ids_in (e ∷ es) = ap (λ (l : List ℕ). e.0 ∷ l) (ids_in es)

-- the IDs rise, and none is NULL
stored_by : (m : ObjectMap) (pool : Objects) → AreStored pool → shape_of pool ≡ shape_of (finite.entries m) → AreStored (finite.entries m)
stored_by m pool stored same =
    let all : ids pool ≡ ids (finite.entries m) = sym (ids_in pool) ∙ ap (map (λ (e : ℕ × Fixed). e.0)) same ∙ ids_in (finite.entries m) in
    record {
      rising = rising m;
      named = record {
        distinct = subst (IsDistinct eqb) all stored.named.distinct;
        named = subst (All (λ id. id < null_id)) all stored.named.named;
      };
    }

verified_by : (m : ObjectMap) (pool : Objects) → IsSound m → IsVerified pool → shape_of pool ≡ shape_of (finite.entries m) → IsVerified (finite.entries m)
verified_by m pool sound verified same =
    let was = verified.acceptable in
    let stored = stored_by m pool verified.stored same in
    record {
      stored = stored;
      acceptable = record {
        working_set = subst (λ (s : Shape). 1 ≤ working_sets s) same was.working_set;
        one_working_set = subst (λ (s : Shape). working_sets s ≤ 1) same was.one_working_set;
        references_there = all_there m sound stored;
        references_fit = all_fit m sound stored;
        chains_short = sound.shallow;
        macros_whole = subst (λ (s : Shape). cut_short s ≡ None) same was.macros_whole;
        commands_allowed = subst (λ (s : Shape). other_command s ≡ None) same was.commands_allowed;
        targets_there = subst (λ (s : Shape). macro_missing s ≡ None) same was.targets_there;
        targets_fit = subst (λ (s : Shape). macro_wrong_kind s ≡ None) same was.targets_fit;
        attributes_there = subst (λ (s : Shape). other_attribute s ≡ None) same was.attributes_there;
        no_circle = subst (λ (s : Shape). HasNoCircle (triggered s)) same was.no_circle;
        within_budget = subst (IsWithinBudget terminal.steps) same was.within_budget;
      };
      totals = subst MacroCostsAreTotals same verified.totals;
    }

pub sound_verified : (m : ObjectMap) → IsSound m → IsOfVerified (shape_in m) → IsVerified (finite.entries m)
unfolding shape_in
sound_verified m sound shaped = verified_by m shaped.pool sound shaped.verified shaped.same
