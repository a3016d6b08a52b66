-- The elements that an object draws are included, and have lesser levels.
use Rattle.std.proofs.Common.{◌≡◌, ◌<◌, ◌≤◌, ℕ, zero, suc, Bool, true, false, cond, eqb, not, ◌&&◌, List, [], ◌∷◌, ◌++◌, map, filter, length, Option, Some, None, refl, sym, ap, subst, ◌∙◌, arith, inl, inr}
use Rattle.std.proofs.lemmas.List.Elements.{Contains-append_left, Contains-append_right, Contains-append_cases}
use Rattle.std.proofs.lemmas.Bool.{ne_eqb}
use Rattle.std.proofs.lemmas.Option.{slice_get_within, get_or_from_slice_get, same_Some}
use Rattle.std.specs.Prelude.{Contains, IsTrue, slice_get, slice_index}
use Rattle.std.specs.Option.{option_map, option_to_list}
use Rattle.std.specs.List.{All}
use Rattle.std.specs.FinMap as finite
use Rattle.vt_kinds.specs.declared.entries.Child.{Child}
use Rattle.vt_kinds.specs.declared.kind.Kind.{Kind}
use Rattle.vt_kinds.specs.declared.kind.Kind.TheVariants as kinds
use Rattle.vt_kinds.specs.declared.place.Place.{Place}
use Rattle.vt_kinds.specs.declared.place.Place.TheVariants as places
use Rattle.vt_kinds.specs.declared.slot.Slot.{Slot}
use Rattle.vt_kinds.specs.declared.object.Object.TheVariants as objects
use Rattle.vt_kinds.specs.Ids.{null_id}
use Rattle.vt_kinds.specs.Records.{Seen}
use Rattle.vt_kinds.specs.References.{slots_listed, slot}
use Rattle.vt_stores.specs.Stores.{ObjectMap, IsPlace}
use Rattle.vt_chains.specs.Depths.{IsIdAt, IsBelow, ids_of, inclusions_of}
use Rattle.vt_chains.specs.Inclusions.{is_inclusion, includes, included_by}
use Rattle.vt_chains.proofs.InclusionsInStore.{stands}
use Rattle.vt_chains.proofs.Elements.{Contains-nil, Contains-head, Contains-tail, cons_case}
use Rattle.vt_chains.proofs.IdIndices.{within}
use Rattle.vt_chains.specs.Certificates.{IsCertificate}
use Rattle.vt_shown.specs.ShownElements.{behind, resolves_to, is_element, ids_in, item_of, drawn_in, IsResolved, IsShown}
use Rattle.vt_shown.specs.ShownElements.IsShown.{InMask, AmongKeys, Within}
use Rattle.vt_chains.proofs.Slots.{in_first}

-- ---- IDs in lists

pub resolved_case : (P : Type 0) (m : ObjectMap) (xs ys : List ℕ) (id : ℕ) → IsResolved m (xs ++ ys) id → (IsResolved m xs id → P) → (IsResolved m ys id → P) → P
resolved_case P m xs ys id is left right =
    elim (Contains-append_cases xs ys is.id is.among) as (λ _. P) [
      | inl one ↦ left (record { id = is.id; among = one; resolves = is.resolves; is_element = is.is_element })
      | inr other ↦ right (record { id = is.id; among = other; resolves = is.resolves; is_element = is.is_element })
    ]

pub resolved_left : (m : ObjectMap) (xs ys : List ℕ) (id : ℕ) → IsResolved m xs id → IsResolved m (xs ++ ys) id
resolved_left m xs ys id is = record { id = is.id; among = Contains-append_left xs ys is.id is.among; resolves = is.resolves; is_element = is.is_element }

pub resolved_right : (m : ObjectMap) (xs ys : List ℕ) (id : ℕ) → IsResolved m ys id → IsResolved m (xs ++ ys) id
resolved_right m xs ys id is = record { id = is.id; among = Contains-append_right xs ys is.id is.among; resolves = is.resolves; is_element = is.is_element }

-- the only ID in a list of one
pub only_id : (x y : ℕ) → Contains (x ∷ []) y → x ≡ y
only_id x y h = cons_case (x ≡ y) x y [] h (λ is. is) (λ none. absurd (Contains-nil y none))

-- ---- drawn elements are included

-- the IDs that slots include
abbrev included_in : List Slot → List ℕ
included_in slots = map (λ slot. slot.id) (filter includes slots)

in_more : (slot : Slot) (slots : List Slot) (listed : ℕ) → Contains (included_in slots) listed → Contains (included_in (slot ∷ slots)) listed
in_more slot slots listed h = more_by (includes slot)
  where
    more_by : (b : Bool) → Contains (map (λ (s : Slot). s.id) (cond b (slot ∷ filter includes slots) (filter includes slots))) listed
    more_by true = Contains-tail slot.id listed (included_in slots) h
    more_by false = h

pub listed_included : (kind : Kind) (place : ℕ → Place) (index : ℕ) (ids : List ℕ) (listed : ℕ) → ((i : ℕ) → is_inclusion (place i) ≡ true) → eqb listed null_id ≡ false
    → Contains ids listed → Contains (included_in (slots_listed kind place index ids)) listed
listed_included kind place index [] listed inclusion there h = absurd (Contains-nil listed h)
listed_included kind place index (id ∷ ids) listed inclusion there h =
    let first = slot kind (place index) id in
    let rest = slots_listed kind place (suc index) ids in
    cons_case (Contains (included_in (slots_listed kind place index (id ∷ ids))) listed) id listed ids h
    (λ same.
    let is : includes first ≡ true = ap (λ b. b && not (eqb id null_id)) (inclusion index) ∙ ap not (ap (λ (n : ℕ). eqb n null_id) same ∙ there) in
    subst (Contains (included_in (first ∷ rest))) same (in_first first rest is))
    (λ later. in_more first rest listed (listed_included kind place (suc index) ids listed inclusion there later))

children_included : (kind : Kind) (children : List Child) (listed : ℕ) → eqb listed null_id ≡ false → Contains (ids_in children) listed
    → Contains (included_in (slots_listed kind places.Child 0 (ids_in children))) listed
children_included kind children listed there h = listed_included kind places.Child 0 (ids_in children) listed (λ i. refl) there h

one_of : (o : Option ℕ) (listed : ℕ) → Contains (option_to_list o) listed → o ≡ Some listed
one_of None listed h = absurd (Contains-nil listed h)
one_of (Some x) listed h = ap Some (only_id x listed h)

item_among : (items : List ℕ) (index : Option ℕ) (listed : ℕ) → Contains (item_of items index) listed → Contains items listed
item_among items None listed h = absurd (Contains-nil listed h)
item_among items (Some i) listed h =
    let is = one_of (slice_get items i) listed h in
    (i, slice_get_within items i listed is, get_or_from_slice_get items i listed listed is)

shown_within : (b : Bool) (xs : List ℕ) (listed : ℕ) → Contains (cond b xs []) listed → Contains xs listed
shown_within true xs listed h = h
shown_within false xs listed h = absurd (Contains-nil listed h)

pub drawn_included : (m : ObjectMap) (o : Option Seen) (listed : ℕ) → eqb listed null_id ≡ false → Contains (drawn_in m o) listed → Contains (included_by o) listed
drawn_included m (Some (objects.WorkingSet o)) listed there h = children_included kinds.WorkingSet o.children listed there h
drawn_included m (Some (objects.DataMask o)) listed there h = children_included kinds.DataMask o.children listed there h
drawn_included m (Some (objects.AlarmMask o)) listed there h = children_included kinds.AlarmMask o.children listed there h
drawn_included m (Some (objects.Container o)) listed there h =
    children_included kinds.Container o.children listed there (shown_within (eqb o.hidden 0) (ids_in o.children) listed h)
drawn_included m (Some (objects.Key o)) listed there h = children_included kinds.Key o.children listed there h
drawn_included m (Some (objects.Button o)) listed there h = children_included kinds.Button o.children listed there h
drawn_included m (Some (objects.InputList o)) listed there h =
    listed_included kinds.InputList places.Item 0 o.items listed (λ i. refl) there (item_among o.items _ listed h)
drawn_included m _ listed there h = absurd (Contains-nil listed h)

-- ---- drawn elements have lesser levels

-- a pointer includes its value
value_of : (m : ObjectMap) (value other : ℕ) → finite.get m null_id ≡ None → option_map (λ o. value) (finite.get m value) ≡ Some other → (eqb other null_id ≡ false) × (value ≡ other)
value_of m value other null is = from (finite.get m value) refl is
  where
    from : (o : Option Seen) → finite.get m value ≡ o → option_map (λ x. value) o ≡ Some other → (eqb other null_id ≡ false) × (value ≡ other)
    from None at is = absurd cc
    from (Some o) at is =
        let same : value ≡ other = same_Some value other is in
        (ne_eqb other null_id (λ e. let never = sym null ∙ ap (finite.get m) (sym (same ∙ e)) ∙ at in absurd cc), same)

pub behind_case : (P : Type 0) (m : ObjectMap) (listed other : ℕ) (o : Option Seen) → finite.get m null_id ≡ None → behind m listed o ≡ Some other
    → (listed ≡ other → P) → (Contains (included_by o) other → P) → P
behind_case P m listed other None null is here later = absurd cc
behind_case P m listed other (Some (objects.ObjectPointer o)) null is here later =
    let value = value_of m o.value other null is in
    later (listed_included kinds.ObjectPointer (λ i. places.Value) 0 (o.value ∷ []) other (λ i. refl) value.0
    (subst (Contains (o.value ∷ [])) value.1 (Contains-head o.value [])))
behind_case P m listed other (Some _) null is here later = here (same_Some listed other is)

-- an element resolves to itself
itself : (m : ObjectMap) (listed : ℕ) (o : Seen) → is_element (Some o) ≡ true → behind m listed (Some o) ≡ Some listed
itself m listed (objects.ObjectPointer o) is = absurd cc
itself m listed _ is = refl

pub stands_itself : (m : ObjectMap) (listed index : ℕ) (at : IsPlace (finite.entries m) listed index) → is_element (Some at.object) ≡ true
    → IsTrue (is_element (finite.get m listed)) × (resolves_to m listed ≡ Some listed)
stands_itself m listed index at drawn =
    let got : finite.get m listed ≡ Some at.object = finite.get-entries m listed ∙ at.found in (
      subst (λ (o : Option Seen). IsTrue (is_element o)) (sym got) drawn,
      ap (behind m listed) got ∙ itself m listed at.object drawn,
    )

pub is_there : (m : ObjectMap) (listed other : ℕ) (o : Option Seen) → finite.get m listed ≡ o → behind m listed o ≡ Some other → finite.get m null_id ≡ None → eqb listed null_id ≡ false
is_there m listed other None at is null = absurd cc
is_there m listed other (Some o) at is null = ne_eqb listed null_id (λ e. let never = sym null ∙ ap (finite.get m) (sym e) ∙ at in absurd cc)

pub included_at : (m : ObjectMap) (id other : ℕ) → Contains (included_by (finite.get m id)) other → Contains (inclusions_of m id) other
included_at m id other h = subst (λ (o : Option Seen). Contains (included_by o) other) (finite.get-entries m id) h

pub resolved_falls : (m : ObjectMap) (levels : List ℕ) (index id other : ℕ) → IsCertificate (ids_of m) (inclusions_of m) levels → finite.get m null_id ≡ None
    → IsIdAt (ids_of m) index id → IsResolved m (drawn_in m (finite.get m id)) other → IsBelow (ids_of m) levels other (slice_index levels index)
resolved_falls m levels index id other certificate null stands resolved =
    let listed = resolved.id in
    let lower = certificate.falls index id stands listed
    (included_at m id listed (drawn_included m (finite.get m id) listed (is_there m listed other (finite.get m listed) refl resolved.resolves null) resolved.among)) in
    behind_case (IsBelow (ids_of m) levels other (slice_index levels index)) m listed other (finite.get m listed) null resolved.resolves
    (λ same. subst (λ (k : ℕ). IsBelow (ids_of m) levels k (slice_index levels index)) same lower)
    (λ value.
    let last = certificate.falls lower.index listed lower.there other (included_at m listed other value) in
    let one = lower.less in
    let two = last.less in
    record { index = last.index; there = last.there; less = omega (arith, one, two) })

-- NULL is not the ID of an object
pub null_nowhere : (m : ObjectMap) → All (λ id. id < null_id) (ids_of m) → finite.get m null_id ≡ None
null_nowhere m below = from (finite.get m null_id) refl
  where
    from : (o : Option Seen) → finite.get m null_id ≡ o → finite.get m null_id ≡ None
    from None at = at
    from (Some o) at =
        let there = stands (finite.entries m) null_id o (sym (finite.get-entries m null_id) ∙ at) in
        let less = below there.0 null_id (within (ids_of m) there.0 null_id there.1) in
        let is = get_or_from_slice_get (ids_of m) there.0 null_id null_id there.1 in
        absurd (omega (arith, less, is))

-- ---- shown elements

pub shown_element : (m : ObjectMap) (mask id : ℕ) → IsShown m mask id → IsTrue (is_element (finite.get m id))
shown_element m mask id (InMask _ resolved) = resolved.is_element
shown_element m mask id (AmongKeys _ resolved) = resolved.is_element
shown_element m mask other (Within id _ shown resolved) = resolved.is_element
