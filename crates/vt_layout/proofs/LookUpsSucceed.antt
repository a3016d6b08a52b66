-- A drawing finds all that it looks up, in a store in order.
use Rattle.std.proofs.Common.{◌≡◌, ◌⊎◌, inl, inr, ℕ, zero, suc, Bool, true, false, cond, ◌&&◌, eqb, List, [], ◌∷◌, Option, Some, None, refl, sym, ap, subst, ◌∙◌}
use Rattle.std.proofs.lemmas.Bool.{eqb-true}
use Rattle.std.specs.Prelude.{IsTrue, slice_get}
use Rattle.std.specs.List.{AllByRecursion}
use Rattle.std.specs.Option.{option_map, option_to_list}
use Rattle.std.specs.FinMap as finite
use Rattle.vt_kinds.specs.declared.entries.Child.{Child}
use Rattle.vt_kinds.specs.declared.kind.Kind.{Kind}
use Rattle.vt_kinds.specs.declared.kind.Kind.TheVariants as kinds
use Rattle.vt_kinds.specs.declared.kinds.Kinds.{Kinds}
use Rattle.vt_kinds.specs.declared.kinds.Kinds.TheVariants as sets
use Rattle.vt_kinds.specs.declared.object.Object.TheVariants as objects
use Rattle.vt_kinds.specs.declared.place.Place.{Place}
use Rattle.vt_kinds.specs.declared.place.Place.TheVariants as places
use Rattle.vt_kinds.specs.declared.slot.Slot.{Slot}
use Rattle.vt_kinds.specs.declared.variables.ObjectPointer.{ObjectPointer}
use Rattle.vt_kinds.specs.Ids.{null_id}
use Rattle.vt_kinds.specs.Records.{Seen, kind_of}
use Rattle.vt_kinds.specs.References.{allowed, may_be_null, is_member, is_pointer, slot, slots_listed, children_of}
use Rattle.vt_stores.specs.Stores.{ObjectMap}
use Rattle.vt_effects.specs.Changes.{is_one_of}
use Rattle.vt_effects.specs.Effects.{kind_in, pointer_value, allows}
use Rattle.vt_effects.specs.Soundness.{IsSound, value_fits, is_in_order}
use Rattle.vt_effects.proofs.lemmas.stores.OneChangedObject.{first_of, second_of}
use Rattle.vt_macros.specs.Machines.{mask_of}
use Rattle.vt_shown.specs.ShownElements.{behind, is_element, number_in, number_shown, ids_in, item_of, drawn_in, soft_key_mask_of, keys_of}
use Rattle.vt_shown.proofs.DrawnElements.{shown_element}
use Rattle.vt_layout.specs.Drawings.{entries_in, key_entries}
use Rattle.vt_layout.specs.Lines.{variable_text}
use Rattle.vt_layout.specs.LookUps.{kinds_listed, null_listed, Resolves, AllResolveIn, HasNumber, HasText, HasLineValues, DrawingsFindAll}
use Rattle.vt_layout.specs.LookUps.Resolves.{Null, NullPointer, ResolvesTo}
use Rattle.vt_layout.proofs.ShownAreDrawn.{names_of, names_of_keys}

-- a slot that is in order
abbrev IsRight : ObjectMap → Slot → Type 0
IsRight store s = IsTrue (is_in_order store s)

-- ---- one slot

-- The slot is NULL, where NULL is allowed, or refers to an object of an allowed kind, and a pointer's value fits.
slot_case : (P : Type 0) (store : ObjectMap) (s : Slot) → IsRight store s → (eqb s.id null_id ≡ true → s.null ≡ true → P)
    → (eqb s.id null_id ≡ false → IsTrue (is_one_of s.kinds (kind_in store s.id)) → IsTrue (value_fits store s (pointer_value (finite.get store s.id))) → P) → P
slot_case P store s right null there = by (eqb s.id null_id) refl right
  where
    by : (b : Bool) → eqb s.id null_id ≡ b → IsTrue (cond b s.null (is_one_of s.kinds (kind_in store s.id) && value_fits store s (pointer_value (finite.get store s.id)))) → P
    by true is right = null is right
    by false is right =
        let allows_kind = is_one_of s.kinds (kind_in store s.id) in
        let fits = value_fits store s (pointer_value (finite.get store s.id)) in
        there is (first_of allows_kind fits right) (second_of allows_kind fits right)

-- a kind other than Object Pointer
not_pointer : (kind : Kind) → IsTrue (is_member sets.AllButPointers kind) → is_pointer kind ≡ false
not_pointer kinds.ObjectPointer is = absurd cc
not_pointer _ is = refl

-- the value of a pointer is NULL, or an object of an allowed kind that is no pointer
value_found : (store : ObjectMap) (s : Slot) (p : ObjectPointer) → finite.get store s.id ≡ Some (objects.ObjectPointer p) → IsTrue (allows store s p.value)
    → IsRight store (slot kinds.ObjectPointer places.Value p.value) → Resolves store s.kinds s.null s.id
value_found store s p at fits right =
    slot_case (Resolves store s.kinds s.null s.id) store (slot kinds.ObjectPointer places.Value p.value) right
    (λ is null. NullPointer (ap pointer_value at ∙ ap Some (eqb-true p.value null_id is)))
    (λ is other more.
    there (finite.get store p.value) refl (subst (λ (b : Bool). IsTrue (cond b true (is_one_of s.kinds (kind_in store p.value)))) is fits) other)
  where
    there : (o : Option Seen) → finite.get store p.value ≡ o → IsTrue (is_one_of s.kinds (option_map kind_of o)) → IsTrue (is_one_of sets.AllButPointers (option_map kind_of o))
        → Resolves store s.kinds s.null s.id
    there None is fits other = absurd cc
    there (Some o) is fits other =
        ResolvesTo p.value (kind_of o) (ap (behind store s.id) at ∙ ap (option_map (λ value. p.value)) is) (ap (option_map kind_of) is) fits (not_pointer (kind_of o) other)

-- the ID of a slot is found
slot_found : (store : ObjectMap) (s : Slot) → IsSound store → IsRight store s → Resolves store s.kinds s.null s.id
slot_found store s sound right =
    slot_case (Resolves store s.kinds s.null s.id) store s right (λ is null. Null (eqb-true s.id null_id is) null) (λ other. named (finite.get store s.id) refl)
  where
    named : (o : Option Seen) → finite.get store s.id ≡ o → IsTrue (is_one_of s.kinds (option_map kind_of o)) → IsTrue (value_fits store s (pointer_value o))
        → Resolves store s.kinds s.null s.id
    named None at is fits = absurd cc
    named (Some (objects.ObjectPointer p)) at is fits = value_found store s p at fits (sound.slots s.id (objects.ObjectPointer p) at).0
    named (Some o) at is fits = ResolvesTo s.id (kind_of o) (ap (behind store s.id) at) (ap (option_map kind_of) at) is refl

-- ---- lists of IDs

-- each ID of a list of slots is found
listed_found : (store : ObjectMap) (kind : Kind) (place : ℕ → Place) (fitting : Kinds) (null : Bool) (index : ℕ) (names : List ℕ) → IsSound store
    → ((i : ℕ) → allowed kind (place i) ≡ fitting) → ((i : ℕ) → may_be_null (place i) ≡ null) → AllByRecursion (IsRight store) (slots_listed kind place index names)
    → AllByRecursion (Resolves store fitting null) names
listed_found store kind place fitting null index [] sound are nulls right = tt
listed_found store kind place fitting null index (name ∷ names) sound are nulls right = (
  subst (λ (k : Kinds). Resolves store k null name) (are index)
      (subst (λ (b : Bool). Resolves store (allowed kind (place index)) b name) (nulls index) (slot_found store (slot kind (place index) name) sound right.0)),
  listed_found store kind place fitting null (suc index) names sound are nulls right.1,
)

-- each child is found
children_found : (store : ObjectMap) (kind : Kind) (fitting : Kinds) (children : List Child) → IsSound store → ((i : ℕ) → allowed kind (places.Child i) ≡ fitting)
    → AllByRecursion (IsRight store) (children_of kind children) → AllByRecursion (Resolves store fitting false) (ids_in children)
children_found store kind fitting children sound are right = listed_found store kind places.Child fitting false 0 (ids_in children) sound are (λ i. refl) right

-- the item at an index is one of the items
item_all : (P : ℕ → Type 0) (items : List ℕ) (index : Option ℕ) → AllByRecursion P items → AllByRecursion P (item_of items index)
item_all P items None all = tt
item_all P items (Some index) all = at items index all
  where
    at : (items : List ℕ) (index : ℕ) → AllByRecursion P items → AllByRecursion P (option_to_list (slice_get items index))
    at [] index all = tt
    at (item ∷ items) zero all = (all.0, tt)
    at (item ∷ items) (suc index) all = at items index all.1

-- each ID that an object draws is found
names_found : (store : ObjectMap) (id : ℕ) (o : Option Seen) → IsSound store → finite.get store id ≡ o
    → AllByRecursion (Resolves store (kinds_listed (option_map kind_of o)) (null_listed (option_map kind_of o))) (drawn_in store o)
names_found store id None sound at = tt
names_found store id (Some (objects.WorkingSet o)) sound at =
    children_found store kinds.WorkingSet sets.DrawnInWorkingSet o.children sound (λ i. refl) (sound.slots id (objects.WorkingSet o) at).1
names_found store id (Some (objects.DataMask o)) sound at =
    children_found store kinds.DataMask sets.Drawn o.children sound (λ i. refl) (sound.slots id (objects.DataMask o) at).1
names_found store id (Some (objects.AlarmMask o)) sound at =
    children_found store kinds.AlarmMask sets.Drawn o.children sound (λ i. refl) (sound.slots id (objects.AlarmMask o) at).1
names_found store id (Some (objects.Container o)) sound at = shown (eqb o.hidden 0)
  where
    shown : (b : Bool) → AllByRecursion (Resolves store sets.Drawn false) (cond b (ids_in o.children) [])
    shown true = children_found store kinds.Container sets.Drawn o.children sound (λ i. refl) (sound.slots id (objects.Container o) at)
    shown false = tt
names_found store id (Some (objects.Key o)) sound at =
    children_found store kinds.Key sets.Drawn o.children sound (λ i. refl) (sound.slots id (objects.Key o) at)
names_found store id (Some (objects.Button o)) sound at =
    children_found store kinds.Button sets.Drawn o.children sound (λ i. refl) (sound.slots id (objects.Button o) at)
names_found store id (Some (objects.InputList o)) sound at =
    item_all (Resolves store sets.Drawn true) o.items (number_shown store o.variable o.value)
    (listed_found store kinds.InputList places.Item sets.Drawn true 0 o.items sound (λ i. refl) (λ i. refl) (sound.slots id (objects.InputList o) at).1)
names_found store id (Some _) sound at = tt

-- each key of a soft key mask is found
keys_found : (store : ObjectMap) (id : ℕ) (o : Option Seen) → IsSound store → finite.get store id ≡ o → AllByRecursion (Resolves store sets.Keys true) (keys_of o)
keys_found store id (Some (objects.SoftKeyMask o)) sound at =
    listed_found store kinds.SoftKeyMask places.Key sets.Keys true 0 o.keys sound (λ i. refl) (λ i. refl) (sound.slots id (objects.SoftKeyMask o) at)
keys_found store id _ sound at = tt

-- A property of the IDs of entries holds for the entries.
by_names : (P : ℕ → Type 0) (entries : List Child) → AllByRecursion P (ids_in entries) → AllByRecursion (λ entry. P entry.id) entries
by_names P [] all = tt
by_names P (entry ∷ entries) all = (all.0, by_names P entries all.1)

-- each entry drawn within an object is found
entries_found : (store : ObjectMap) (id : ℕ) → IsSound store → AllResolveIn store id
entries_found store id sound =
    let is_found : ℕ → Type 0 = Resolves store (kinds_listed (kind_in store id)) (null_listed (kind_in store id)) in
    by_names is_found (entries_in store (finite.get store id))
    (subst (AllByRecursion is_found) (sym (names_of store (finite.get store id))) (names_found store id (finite.get store id) sound refl))

-- each entry of the soft key mask of a mask is found
key_entries_found : (store : ObjectMap) (mask : ℕ) → IsSound store → AllByRecursion (λ entry. Resolves store sets.Keys true entry.id) (key_entries store mask)
key_entries_found store mask sound =
    let id = soft_key_mask_of (finite.get store mask) in
    by_names (Resolves store sets.Keys true) (key_entries store mask)
    (subst (AllByRecursion (Resolves store sets.Keys true)) (sym (names_of_keys store mask)) (keys_found store id (finite.get store id) sound refl))

-- ---- masks

-- the active mask of a working set is a mask or NULL
mask_found : (store : ObjectMap) (id mask : ℕ) (o : Option Seen) → IsSound store → finite.get store id ≡ o → option_map kind_of o ≡ Some kinds.WorkingSet → mask_of o ≡ mask
    → (mask ≡ null_id) ⊎ IsTrue (is_one_of sets.Masks (kind_in store mask))
mask_found store id mask (Some (objects.WorkingSet o)) sound at kind is =
    subst (λ (k : ℕ). (k ≡ null_id) ⊎ IsTrue (is_one_of sets.Masks (kind_in store k))) is
    (slot_case ((o.active_mask ≡ null_id) ⊎ IsTrue (is_one_of sets.Masks (kind_in store o.active_mask))) store (slot kinds.WorkingSet places.ActiveMask o.active_mask)
    (sound.slots id (objects.WorkingSet o) at).0 (λ same null. inl (eqb-true o.active_mask null_id same)) (λ other there fits. inr there))
mask_found store id mask _ sound at kind is = absurd cc

-- a slot for a soft key mask refers to one or is NULL
keys_or_null : (store : ObjectMap) (s : Slot) → s.kinds ≡ sets.SoftKeyMasks → IsRight store s → (s.id ≡ null_id) ⊎ (kind_in store s.id ≡ Some kinds.SoftKeyMask)
keys_or_null store s are right =
    slot_case ((s.id ≡ null_id) ⊎ (kind_in store s.id ≡ Some kinds.SoftKeyMask)) store s right (λ same null. inl (eqb-true s.id null_id same))
    (λ other there fits. inr (only (kind_in store s.id) (subst (λ (k : Kinds). IsTrue (is_one_of k (kind_in store s.id))) are there)))
  where
    only : (k : Option Kind) → IsTrue (is_one_of sets.SoftKeyMasks k) → k ≡ Some kinds.SoftKeyMask
    only (Some kinds.SoftKeyMask) is = refl
    only _ is = absurd cc

-- the soft key mask of a mask is a soft key mask or NULL
keys_mask_found : (store : ObjectMap) (mask : ℕ) (o : Option Seen) → IsSound store → finite.get store mask ≡ o
    → (soft_key_mask_of o ≡ null_id) ⊎ (kind_in store (soft_key_mask_of o) ≡ Some kinds.SoftKeyMask)
keys_mask_found store mask (Some (objects.DataMask o)) sound at =
    keys_or_null store (slot kinds.DataMask places.SoftKeyMask o.soft_key_mask) refl (sound.slots mask (objects.DataMask o) at).0
keys_mask_found store mask (Some (objects.AlarmMask o)) sound at =
    keys_or_null store (slot kinds.AlarmMask places.SoftKeyMask o.soft_key_mask) refl (sound.slots mask (objects.AlarmMask o) at).0
keys_mask_found store mask _ sound at = inl refl

-- ---- values

-- the value exists: the object's own if the slot is NULL, or else the variable's
has_value : {A : Type 0} (read : Option Seen → Option A) (variables : Kinds) → ((o : Option Seen) → IsTrue (is_one_of variables (option_map kind_of o)) → (v : A) × (read o ≡ Some v))
    → (store : ObjectMap) (s : Slot) (own : A) → s.kinds ≡ variables → IsRight store s → (v : A) × (cond (eqb s.id null_id) (Some own) (read (finite.get store s.id)) ≡ Some v)
has_value {A} read variables reads store s own are right =
    slot_case ((v : A) × (cond (eqb s.id null_id) (Some own) (read (finite.get store s.id)) ≡ Some v)) store s right
    (λ same null. (own, shown true same))
    (λ other there fits.
    let value = reads (finite.get store s.id) (subst (λ (k : Kinds). IsTrue (is_one_of k (kind_in store s.id))) are there) in (value.0, shown false other ∙ value.1))
  where
    shown : (b : Bool) → eqb s.id null_id ≡ b → cond (eqb s.id null_id) (Some own) (read (finite.get store s.id)) ≡ cond b (Some own) (read (finite.get store s.id))
    shown b is = ap (λ (c : Bool). cond c (Some own) (read (finite.get store s.id))) is

-- a slot for a number variable has a number
has_number : (store : ObjectMap) (s : Slot) (own : ℕ) → s.kinds ≡ sets.NumberVariables → IsRight store s → HasNumber store s.id own
has_number = has_value number_in sets.NumberVariables reads
  where
    reads : (o : Option Seen) → IsTrue (is_one_of sets.NumberVariables (option_map kind_of o)) → (n : ℕ) × (number_in o ≡ Some n)
    reads (Some (objects.NumberVariable o)) is = (o.value, refl)
    reads _ is = absurd cc

-- a slot for a string variable has a text
has_text : (store : ObjectMap) (s : Slot) (own : List ℕ) → s.kinds ≡ sets.StringVariables → IsRight store s → HasText store s.id own
has_text = has_value variable_text sets.StringVariables reads
  where
    reads : (o : Option Seen) → IsTrue (is_one_of sets.StringVariables (option_map kind_of o)) → (text : List ℕ) × (variable_text o ≡ Some text)
    reads (Some (objects.StringVariable o)) is = (o.text, refl)
    reads _ is = absurd cc

-- an existing element has its values
values_there : (store : ObjectMap) (id : ℕ) (o : Option Seen) → IsSound store → finite.get store id ≡ o → IsTrue (is_element o) → HasLineValues store o
values_there store id None sound at is = absurd cc
values_there store id (Some (objects.InputBoolean o)) sound at is =
    has_number store (slot kinds.InputBoolean places.Variable o.variable) o.value refl (sound.slots id (objects.InputBoolean o) at).1.0
values_there store id (Some (objects.InputString o)) sound at is =
    has_text store (slot kinds.InputString places.Variable o.variable) o.text refl (sound.slots id (objects.InputString o) at).1.1.0
values_there store id (Some (objects.InputNumber o)) sound at is =
    has_number store (slot kinds.InputNumber places.Variable o.variable) o.value refl (sound.slots id (objects.InputNumber o) at).1.0
values_there store id (Some (objects.InputList o)) sound at is =
    has_number store (slot kinds.InputList places.Variable o.variable) o.value refl (sound.slots id (objects.InputList o) at).0
values_there store id (Some (objects.OutputString o)) sound at is =
    has_text store (slot kinds.OutputString places.Variable o.variable) o.text refl (sound.slots id (objects.OutputString o) at).1.0
values_there store id (Some (objects.OutputNumber o)) sound at is =
    has_number store (slot kinds.OutputNumber places.Variable o.variable) o.value refl (sound.slots id (objects.OutputNumber o) at).1.0
values_there store id (Some (objects.Meter o)) sound at is =
    has_number store (slot kinds.Meter places.Variable o.variable) o.value refl (sound.slots id (objects.Meter o) at).0
values_there store id (Some (objects.LinearBar o)) sound at is =
    let slots = sound.slots id (objects.LinearBar o) at in (
      has_number store (slot kinds.LinearBar places.Variable o.variable) o.value refl slots.0,
      has_number store (slot kinds.LinearBar places.TargetVariable o.target_variable) o.target refl slots.1.0,
    )
values_there store id (Some (objects.ArchedBar o)) sound at is =
    let slots = sound.slots id (objects.ArchedBar o) at in (
      has_number store (slot kinds.ArchedBar places.Variable o.variable) o.value refl slots.0,
      has_number store (slot kinds.ArchedBar places.TargetVariable o.target_variable) o.target refl slots.1.0,
    )
values_there store id (Some _) sound at is = tt

-- ---- all look-ups

pub finds_all : DrawingsFindAll
finds_all store mask sound = record {
  active = λ active. mask_found store active.0 mask (finite.get store active.0) sound refl active.1 active.2;
  in_mask = entries_found store mask sound;
  soft_key_mask = keys_mask_found store mask (finite.get store mask) sound refl;
  keys = key_entries_found store mask sound;
  in_elements = λ id shown. entries_found store id sound;
  values = λ id shown. values_there store id (finite.get store id) sound refl (shown_element store mask id shown);
}
