-- The objects shown are the elements drawn.
use Rattle.std.proofs.Common.{◌≡◌, ◌⊎◌, inl, inr, ℕ, zero, suc, Bool, true, false, cond, eqb, List, [], ◌∷◌, ◌++◌, map, Option, Some, None, refl, sym, ap, subst, ◌∙◌}
use Rattle.std.proofs.lemmas.Option.{same_Some}
use Rattle.std.specs.Prelude.{Contains, IsTrue, slice_get}
use Rattle.std.specs.FinMap as finite
use Rattle.vt_kinds.specs.declared.entries.Child.{Child}
use Rattle.vt_kinds.specs.declared.object.Object.TheVariants as objects
use Rattle.vt_kinds.specs.Records.{Seen}
use Rattle.vt_stores.specs.Stores.{ObjectMap}
use Rattle.vt_chains.proofs.Elements.{Contains-nil, Contains-head, Contains-tail, cons_case}
use Rattle.vt_shown.specs.ShownElements.{resolves_to, is_element, ids_in, drawn_in, soft_keys, IsResolved, IsShown}
use Rattle.vt_shown.specs.ShownElements.IsShown.{InMask, AmongKeys, Within}
use Rattle.vt_layout.specs.declared.element.Element.{Element}
use Rattle.vt_layout.specs.declared.element.Position.{Position}
use Rattle.vt_layout.specs.Drawings.{Placed, origin, shifted, unmoved, element, entered, along, at_path, entries_in, mask_entries, key_entries, AreAll, IsDrawing}
use Rattle.vt_layout.proofs.EntryWalk.{placed}
use Rattle.std.proofs.lemmas.List.Elements.{Contains-append_left, Contains-append_right, Contains-append_cases}

-- ---- IDs in lists

ids_unmoved : (ids : List ℕ) → ids_in (map unmoved ids) ≡ ids
ids_unmoved [] = refl
ids_unmoved (id ∷ ids) = ap (λ more. id ∷ more) (ids_unmoved ids)

-- the IDs of an object's entries are the IDs that it draws
pub names_of : (store : ObjectMap) (o : Option Seen) → ids_in (entries_in store o) ≡ drawn_in store o
names_of store None = refl
names_of store (Some (objects.Container o)) = by (eqb o.hidden 0)
  where
    by : (b : Bool) → ids_in (cond b o.children []) ≡ cond b (ids_in o.children) []
    by true = refl
    by false = refl
names_of store (Some (objects.InputList o)) = ids_unmoved _
names_of store (Some _) = refl

pub names_of_keys : (store : ObjectMap) (mask : ℕ) → ids_in (key_entries store mask) ≡ soft_keys store mask
names_of_keys store mask = ids_unmoved (soft_keys store mask)

-- the entry of an ID in a list
entry_of : (P : Type 0) (entries : List Child) (name : ℕ) → Contains (ids_in entries) name → ((place : ℕ) (entry : Child) → slice_get entries place ≡ Some entry → entry.id ≡ name → P) → P
entry_of P [] name h then = absurd (Contains-nil name h)
entry_of P (entry ∷ entries) name h then =
    cons_case P entry.id name (ids_in entries) h
    (λ same. then 0 entry refl same)
    (λ later. entry_of P entries name later (λ place found at is. then (suc place) found at is))

pub name_of : (entries : List Child) (place : ℕ) (entry : Child) → slice_get entries place ≡ Some entry → Contains (ids_in entries) entry.id
name_of [] place entry is = absurd cc
name_of (first ∷ entries) zero entry is =
    subst (λ (e : Child). Contains (first.id ∷ ids_in entries) e.id) (same_Some first entry is) (Contains-head first.id (ids_in entries))
name_of (first ∷ entries) (suc place) entry is = Contains-tail first.id entry.id (ids_in entries) (name_of entries place entry is)

-- ---- shown objects are met

-- some path from the entries leads to the object
record IsMetFrom (store : ObjectMap) (entries : List Child) (id : ℕ) : Type 0 where
  path : List ℕ
  to : Element
  leads : at_path store entries origin path ≡ Some to
  is : to.id ≡ id

element_is : (store : ObjectMap) (place id : ℕ) (at : Position) → IsTrue (is_element (finite.get store id)) → element store place at (Some id) ≡ Some (record { place = place; id = id; at = at })
element_is store place id at is = by (record { place = place; id = id; at = at }) (is_element (finite.get store id)) is
  where
    by : (e : Element) (b : Bool) → IsTrue b → cond b (Some e) None ≡ Some e
    by e true is = refl
    by e false is = absurd cc

-- an entry that resolves to an element
entered_is : (store : ObjectMap) (entries : List Child) (from : Position) (place id : ℕ) (entry : Child) → slice_get entries place ≡ Some entry → resolves_to store entry.id ≡ Some id
    → IsTrue (is_element (finite.get store id)) → entered store from place (slice_get entries place) ≡ Some (record { place = place; id = id; at = shifted from entry })
entered_is store entries from place id entry there stands is =
    ap (entered store from place) there ∙ ap (element store place (shifted from entry)) stands ∙ element_is store place id (shifted from entry) is

-- the element that an entry resolves to is met
resolved_met : (P : Type 0) (store : ObjectMap) (entries : List Child) (from : Position) (id : ℕ) → IsResolved store (ids_in entries) id
    → ((place : ℕ) (at : Position) → entered store from place (slice_get entries place) ≡ Some (record { place = place; id = id; at = at }) → P) → P
resolved_met P store entries from id resolved then =
    entry_of P entries resolved.id resolved.among
    (λ place entry there is. then place (shifted from entry)
    (entered_is store entries from place id entry there (ap (resolves_to store) is ∙ resolved.resolves) resolved.is_element))

met_first : (store : ObjectMap) (entries : List Child) (id : ℕ) → IsResolved store (ids_in entries) id → IsMetFrom store entries id
met_first store entries id resolved =
    resolved_met (IsMetFrom store entries id) store entries origin id resolved
    (λ place at is. record { path = place ∷ []; to = record { place = place; id = id; at = at }; leads = ap (along store []) is; is = refl })

-- a path with one more index
along_more : (store : ObjectMap) (path : List ℕ) (place : ℕ) (o : Option Element) (e : Element) → along store path o ≡ Some e
    → along store (path ++ place ∷ []) o ≡ entered store e.at place (slice_get (entries_in store (finite.get store e.id)) place)
along_more store path place None e leads = absurd cc
along_more store [] place (Some o) e leads =
    along_nothing (entered store o.at place (slice_get (entries_in store (finite.get store o.id)) place))
    ∙ ap (λ (k : Element). entered store k.at place (slice_get (entries_in store (finite.get store k.id)) place)) (same_Some o e leads)
  where
    along_nothing : (o : Option Element) → along store [] o ≡ o
    along_nothing None = refl
    along_nothing (Some e) = refl
along_more store (q ∷ path) place (Some o) e leads =
    along_more store path place (entered store o.at q (slice_get (entries_in store (finite.get store o.id)) q)) e leads

path_more : (store : ObjectMap) (entries : List Child) (path : List ℕ) (place : ℕ) (e : Element) → at_path store entries origin path ≡ Some e
    → at_path store entries origin (path ++ place ∷ []) ≡ entered store e.at place (slice_get (entries_in store (finite.get store e.id)) place)
path_more store entries [] place e leads = absurd cc
path_more store entries (q ∷ path) place e leads = along_more store path place (entered store origin q (slice_get entries q)) e leads

met_within : (store : ObjectMap) (entries : List Child) (id other : ℕ) → IsMetFrom store entries id → IsResolved store (drawn_in store (finite.get store id)) other → IsMetFrom store entries other
met_within store entries id other met resolved =
    let within = entries_in store (finite.get store met.to.id) in
    resolved_met (IsMetFrom store entries other) store within met.to.at other
    (subst (λ (ids : List ℕ). IsResolved store ids other) (sym (names_of store (finite.get store met.to.id)))
    (subst (λ (k : ℕ). IsResolved store (drawn_in store (finite.get store k)) other) (sym met.is) resolved))
    (λ place at is. record {
      path = met.path ++ place ∷ [];
      to = record { place = place; id = other; at = at };
      leads = path_more store entries met.path place met.to met.leads ∙ is;
      is = refl;
    })

shown_met : (store : ObjectMap) (mask id : ℕ) → IsShown store mask id → IsMetFrom store (mask_entries store mask) id ⊎ IsMetFrom store (key_entries store mask) id
shown_met store mask id (InMask _ resolved) =
    inl (met_first store (mask_entries store mask) id (subst (λ (ids : List ℕ). IsResolved store ids id) (sym (names_of store (finite.get store mask))) resolved))
shown_met store mask id (AmongKeys _ resolved) =
    inr (met_first store (key_entries store mask) id (subst (λ (ids : List ℕ). IsResolved store ids id) (sym (names_of_keys store mask)) resolved))
shown_met store mask other (Within id _ shown resolved) =
    elim (shown_met store mask id shown) as (λ _. IsMetFrom store (mask_entries store mask) other ⊎ IsMetFrom store (key_entries store mask) other) [
      | inl met ↦ inl (met_within store (mask_entries store mask) id other met resolved)
      | inr met ↦ inr (met_within store (key_entries store mask) id other met resolved)
    ]

-- ---- met objects are shown

-- the entry that resolves to an element
pub entered_entry : (P : Type 0) (store : ObjectMap) (entries : List Child) (from : Position) (place : ℕ) (e : Element) → entered store from place (slice_get entries place) ≡ Some e
    → ((entry : Child) → slice_get entries place ≡ Some entry → resolves_to store entry.id ≡ Some e.id → IsTrue (is_element (finite.get store e.id)) → P) → P
entered_entry P store entries from place e is then = by (slice_get entries place) refl is
  where
    by_element : (entry : Child) → slice_get entries place ≡ Some entry → (id : ℕ) → resolves_to store entry.id ≡ Some id → (b : Bool) → is_element (finite.get store id) ≡ b
        → (k : Element) → k.id ≡ id → cond b (Some k) None ≡ Some e → P
    by_element entry there id stands true shows k is same =
        let id_is : id ≡ e.id = sym is ∙ ap (λ (k : Element). k.id) (same_Some k e same) in
        then entry there (stands ∙ ap Some id_is) (subst (λ (n : ℕ). IsTrue (is_element (finite.get store n))) id_is (subst IsTrue (sym shows) refl))
    by_element entry there id stands false shows k is same = absurd cc

    by_entry : (entry : Child) → slice_get entries place ≡ Some entry → (o : Option ℕ) → resolves_to store entry.id ≡ o → element store place (shifted from entry) o ≡ Some e → P
    by_entry entry there None stands same = absurd cc
    by_entry entry there (Some id) stands same = by_element entry there id stands (is_element (finite.get store id)) refl (record { place = place; id = id; at = shifted from entry }) refl same

    by : (o : Option Child) → slice_get entries place ≡ o → entered store from place o ≡ Some e → P
    by None there same = absurd cc
    by (Some entry) there same = by_entry entry there (resolves_to store entry.id) refl same

-- the IDs of the entries resolve to the element
entered_resolved : (P : Type 0) (store : ObjectMap) (entries : List Child) (from : Position) (place : ℕ) (e : Element) → entered store from place (slice_get entries place) ≡ Some e
    → (IsResolved store (ids_in entries) e.id → P) → P
entered_resolved P store entries from place e is so =
    entered_entry P store entries from place e is
    (λ entry there stands shows. so (record { id = entry.id; among = name_of entries place entry there; resolves = stands; is_element = shows }))

along_shown : (store : ObjectMap) (mask : ℕ) (path : List ℕ) (o : Option Element) (e : Element) → ((first : Element) → o ≡ Some first → IsShown store mask first.id)
    → along store path o ≡ Some e → IsShown store mask e.id
along_shown store mask path None e first leads = absurd cc
along_shown store mask [] (Some o) e first leads = subst (λ (k : Element). IsShown store mask k.id) (same_Some o e leads) (first o refl)
along_shown store mask (place ∷ path) (Some o) e first leads =
    let within = entries_in store (finite.get store o.id) in
    along_shown store mask path (entered store o.at place (slice_get within place)) e
    (λ next is. entered_resolved (IsShown store mask next.id) store within o.at place next is
    (λ resolved. Within o.id next.id (first o refl)
    (subst (λ (ids : List ℕ). IsResolved store ids next.id) (names_of store (finite.get store o.id)) resolved)))
    leads

path_shown : (store : ObjectMap) (mask : ℕ) (entries : List Child) (path : List ℕ) (e : Element) → ((id : ℕ) → IsResolved store (ids_in entries) id → IsShown store mask id)
    → at_path store entries origin path ≡ Some e → IsShown store mask e.id
path_shown store mask entries [] e names leads = absurd cc
path_shown store mask entries (place ∷ path) e names leads =
    along_shown store mask path (entered store origin place (slice_get entries place)) e
    (λ first is. entered_resolved (IsShown store mask first.id) store entries origin place first is (names first.id)) leads

in_mask : (store : ObjectMap) (mask : ℕ) (id : ℕ) → IsResolved store (ids_in (mask_entries store mask)) id → IsShown store mask id
in_mask store mask id resolved = InMask id (subst (λ (ids : List ℕ). IsResolved store ids id) (names_of store (finite.get store mask)) resolved)

among_keys : (store : ObjectMap) (mask : ℕ) (id : ℕ) → IsResolved store (ids_in (key_entries store mask)) id → IsShown store mask id
among_keys store mask id resolved = AmongKeys id (subst (λ (ids : List ℕ). IsResolved store ids id) (names_of_keys store mask) resolved)

-- ---- shown objects are drawn, and drawn ones shown

abbrev IsDrawn : List Placed → ℕ → Type 0
IsDrawn drawing id = (p : Placed) × Contains drawing p × (p.element.id ≡ id)

met_drawn : (store : ObjectMap) (entries : List Child) (drawn : List Placed) (id : ℕ) → AreAll store entries drawn → IsMetFrom store entries id → IsDrawn drawn id
met_drawn store entries drawn id all met = (placed met.path met.to, (all.are (placed met.path met.to)).1 met.leads, met.is)

pub shown_drawn : (store : ObjectMap) (mask : ℕ) (drawing : List Placed) → IsDrawing store mask drawing → (id : ℕ) → IsShown store mask id → IsDrawn drawing id
shown_drawn store mask drawing is id shown =
    subst (λ (ps : List Placed). IsDrawn ps id) (sym is.parts)
    (elim (shown_met store mask id shown) as (λ _. IsDrawn (is.in_mask ++ is.of_keys) id) [
      | inl met ↦ let one = met_drawn store (mask_entries store mask) is.in_mask id is.mask_drawn met in (one.0, Contains-append_left is.in_mask is.of_keys one.0 one.1, one.2)
      | inr met ↦ let one = met_drawn store (key_entries store mask) is.of_keys id is.keys_drawn met in (one.0, Contains-append_right is.in_mask is.of_keys one.0 one.1, one.2)
    ])

pub drawn_shown : (store : ObjectMap) (mask : ℕ) (drawing : List Placed) → IsDrawing store mask drawing → (id : ℕ) → IsDrawn drawing id → IsShown store mask id
drawn_shown store mask drawing is id drawn =
    let p = drawn.0 in
    subst (IsShown store mask) drawn.2
    (elim (Contains-append_cases is.in_mask is.of_keys p (subst (λ (ps : List Placed). Contains ps p) is.parts drawn.1)) as (λ _. IsShown store mask p.element.id) [
      | inl here ↦ path_shown store mask (mask_entries store mask) p.path p.element (in_mask store mask) ((is.mask_drawn.are p).0 here)
      | inr later ↦ path_shown store mask (key_entries store mask) p.path p.element (among_keys store mask) ((is.keys_drawn.are p).0 later)
    ])
