-- The slots of an object follow from its kind and the IDs in them.
use Rattle.std.proofs.Common.{◌≡◌, ℕ, suc, cond, List, [], ◌∷◌, Option, Some, None, refl, sym, ap, ◌∙◌}
use Rattle.vt_kinds.specs.declared.kind.Kind.{Kind}
use Rattle.vt_kinds.specs.declared.kind.Kind.TheVariants as kinds
use Rattle.vt_kinds.specs.declared.place.Place.{Place}
use Rattle.vt_kinds.specs.declared.place.Place.TheVariants as places
use Rattle.vt_kinds.specs.declared.slot.Slot.{Slot}
use Rattle.vt_kinds.specs.declared.object.Object.TheVariants as objects
use Rattle.vt_kinds.specs.Records.{Seen, kind_of}
use Rattle.vt_kinds.specs.References.{slot, slots_listed, slots_of, is_pointer}
use Rattle.vt_effects.specs.Effects.{pointer_value}
use Rattle.vt_machine.specs.Replacements.{ids_of_slots}

-- the places of the fields of a kind, in order
abbrev fields_of : Kind → List Place
fields_of kinds.WorkingSet = places.ActiveMask ∷ []
fields_of kinds.DataMask = places.SoftKeyMask ∷ []
fields_of kinds.AlarmMask = places.SoftKeyMask ∷ []
fields_of kinds.InputBoolean = places.Font ∷ places.Variable ∷ []
fields_of kinds.InputString = places.Font ∷ places.InputAttributes ∷ places.Variable ∷ []
fields_of kinds.InputNumber = places.Font ∷ places.Variable ∷ []
fields_of kinds.InputList = places.Variable ∷ []
fields_of kinds.OutputString = places.Font ∷ places.Variable ∷ []
fields_of kinds.OutputNumber = places.Font ∷ places.Variable ∷ []
fields_of kinds.Line = places.LineAttributes ∷ []
fields_of kinds.Rectangle = places.LineAttributes ∷ places.Fill ∷ []
fields_of kinds.Ellipse = places.LineAttributes ∷ places.Fill ∷ []
fields_of kinds.Polygon = places.LineAttributes ∷ places.Fill ∷ []
fields_of kinds.Meter = places.Variable ∷ []
fields_of kinds.LinearBar = places.Variable ∷ places.TargetVariable ∷ []
fields_of kinds.ArchedBar = places.Variable ∷ places.TargetVariable ∷ []
fields_of kinds.FillAttributes = places.Pattern ∷ []
fields_of kinds.ObjectPointer = places.Value ∷ []
fields_of _ = []

-- the place of an entry of a kind's list
abbrev entry_of : Kind → ℕ → Place
entry_of kinds.SoftKeyMask = places.Key
entry_of kinds.InputList = places.Item
entry_of _ = places.Child

-- the slots of fields, and then those of list entries, with these IDs
abbrev with_ids : Kind → List Place → (ℕ → Place) → List ℕ → List Slot
with_ids kind [] entry ids = slots_listed kind entry 0 ids
with_ids kind (place ∷ places) entry [] = []
with_ids kind (place ∷ places) entry (id ∷ ids) = slot kind place id ∷ with_ids kind places entry ids

listed_ids : (kind : Kind) (place : ℕ → Place) (index : ℕ) (ids : List ℕ) → ids_of_slots (slots_listed kind place index ids) ≡ ids
listed_ids kind place index [] = refl
listed_ids kind place index (id ∷ ids) = ap (λ (l : List ℕ). id ∷ l) (listed_ids kind place (suc index) ids)

listed_again : (kind : Kind) (place : ℕ → Place) (ids : List ℕ) → slots_listed kind place 0 ids ≡ slots_listed kind place 0 (ids_of_slots (slots_listed kind place 0 ids))
listed_again kind place ids = ap (slots_listed kind place 0) (sym (listed_ids kind place 0 ids))

slots_again : (o : Seen) → slots_of o ≡ with_ids (kind_of o) (fields_of (kind_of o)) (entry_of (kind_of o)) (ids_of_slots (slots_of o))
slots_again (objects.WorkingSet o) = ap (λ (l : List Slot). slot kinds.WorkingSet places.ActiveMask o.active_mask ∷ l) (listed_again kinds.WorkingSet places.Child _)
slots_again (objects.DataMask o) = ap (λ (l : List Slot). slot kinds.DataMask places.SoftKeyMask o.soft_key_mask ∷ l) (listed_again kinds.DataMask places.Child _)
slots_again (objects.AlarmMask o) = ap (λ (l : List Slot). slot kinds.AlarmMask places.SoftKeyMask o.soft_key_mask ∷ l) (listed_again kinds.AlarmMask places.Child _)
slots_again (objects.Container o) = listed_again kinds.Container places.Child _
slots_again (objects.SoftKeyMask o) = listed_again kinds.SoftKeyMask places.Key o.keys
slots_again (objects.Key o) = listed_again kinds.Key places.Child _
slots_again (objects.Button o) = listed_again kinds.Button places.Child _
slots_again (objects.InputList o) = ap (λ (l : List Slot). slot kinds.InputList places.Variable o.variable ∷ l) (listed_again kinds.InputList places.Item o.items)
slots_again _ = refl

-- objects of one kind with the same IDs have the same slots
pub same_slots : (a b : Seen) → kind_of a ≡ kind_of b → ids_of_slots (slots_of a) ≡ ids_of_slots (slots_of b) → slots_of a ≡ slots_of b
same_slots a b kind ids =
    slots_again a
    ∙ ap (λ (k : Kind). with_ids k (fields_of k) (entry_of k) (ids_of_slots (slots_of a))) kind
    ∙ ap (with_ids (kind_of b) (fields_of (kind_of b)) (entry_of (kind_of b))) ids
    ∙ sym (slots_again b)

-- ---- the value of a pointer is its first slot

abbrev first_id : List Slot → Option ℕ
first_id [] = None
first_id (s ∷ slots) = Some s.id

value_again : (o : Seen) → pointer_value (Some o) ≡ cond (is_pointer (kind_of o)) (first_id (slots_of o)) None
value_again (objects.ObjectPointer o) = refl
value_again _ = refl

pub same_value : (a b : Seen) → kind_of a ≡ kind_of b → slots_of a ≡ slots_of b → pointer_value (Some a) ≡ pointer_value (Some b)
same_value a b kind slots =
    value_again a
    ∙ ap (λ (k : Kind). cond (is_pointer k) (first_id (slots_of a)) None) kind
    ∙ ap (λ (l : List Slot). cond (is_pointer (kind_of b)) (first_id l) None) slots
    ∙ sym (value_again b)
