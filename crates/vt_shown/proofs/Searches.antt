-- Searches for the objects that a mask shows: each part of a search, and the whole.
use Rattle.std.proofs.Common.{◌≡◌, ◌<◌, ◌≤◌, ◌+◌, ◌⊎◌, inl, inr, ℕ, Bool, true, false, List, [], ◌∷◌, ◌++◌, length, set, take, drop, replicate, zero, suc, get_or, Option, Some, None, refl, sym, ap, subst, ◌∙◌, arith}
use Rattle.std.proofs.lemmas.List.{get_or-map, get_or-set_same, get_or-set_other, length-map, length-set, take-append-drop, take_more}
use Rattle.std.proofs.lemmas.List.Elements.{Contains-append_left, Contains-append_right}
use Rattle.std.proofs.lemmas.Bool.{cases_eq}
use Rattle.std.proofs.lemmas.Option.{same_Some}
use Rattle.std.specs.Prelude.{Contains, IfSome, IsTrue, slice_get, slice_index, slice_index_or}
use Rattle.std.specs.Option.{option_to_list}
use Rattle.std.specs.FinMap as finite
use Rattle.vt_kinds.specs.declared.entries.Child.{Child}
use Rattle.vt_kinds.specs.Ids.{null_id}
use Rattle.vt_kinds.specs.Records.{Seen}
use Rattle.vt_stores.specs.Stores.{ObjectMap, IsPlace}
use Rattle.vt_chains.specs.Certificates.{IsCertificate}
use Rattle.vt_chains.specs.Depths.{IsBelow, IsIdAt, ids_of, inclusions_of}
use Rattle.vt_chains.proofs.Elements.{Contains-nil, Contains-head}
use Rattle.vt_chains.proofs.InclusionsInStore.{stands}
use Rattle.vt_chains.proofs.IdIndices.{once, same_id, stands_of, within, missing_nowhere}
use Rattle.vt_shown.specs.ShownMarks.{IsMarked, AreSomeShown, AreShown, HasDrawingMarked, Searched, MarksShown}
use Rattle.vt_shown.specs.ShownElements.{resolves_to, is_element, ids_in, drawn_in, soft_keys, IsResolved, IsShown}
use Rattle.vt_shown.specs.ShownElements.IsShown.{InMask, AmongKeys, Within}
use Rattle.vt_shown.proofs.DrawnElements.{resolved_case, resolved_falls, resolved_left, resolved_right, only_id}

-- ---- one search after another

pub searched_none : (m : ObjectMap) (marks : List Bool) → Searched m [] marks marks
searched_none m marks = record { kept = λ id is. is; added = λ id is. absurd (Contains-nil is.id is.among); drawn = λ id is. inl is }

drawn_kept : (m : ObjectMap) (b c : List Bool) (id : ℕ) → ((other : ℕ) → IsMarked m b other → IsMarked m c other) → HasDrawingMarked m b id → HasDrawingMarked m c id
drawn_kept m b c id kept drawn other resolved = kept other (drawn other resolved)

pub searched_more : (m : ObjectMap) (xs ys : List ℕ) (a b c : List Bool) → Searched m xs a b → Searched m ys b c → Searched m (xs ++ ys) a c
searched_more m xs ys a b c one other = record {
  kept = λ id is. other.kept id (one.kept id is);
  added = λ id is. resolved_case (IsMarked m c id) m xs ys id is (λ resolved. other.kept id (one.added id resolved)) (other.added id);
  drawn = λ id is. elim (other.drawn id is) as (λ _. IsMarked m a id ⊎ HasDrawingMarked m c id) [
    | inl was ↦ elim (one.drawn id was) as (λ _. IsMarked m a id ⊎ HasDrawingMarked m c id) [
      | inl before ↦ inl before
      | inr drawn ↦ inr (drawn_kept m b c id other.kept drawn)
    ]
    | inr drawn ↦ inr drawn
  ];
}

-- searching one more listed ID
pub searched_next : (m : ObjectMap) (ids : List ℕ) (i listed : ℕ) (a b c : List Bool) → i < length ids → listed ≡ get_or ids i 0 → Searched m (take i ids) a b
    → Searched m (listed ∷ []) b c → Searched m (take (i + 1) ids) a c
searched_next m ids i listed a b c lt is before next =
    subst (λ (xs : List ℕ). Searched m xs a c) (sym (take_more ids i 0 lt))
    (searched_more m (take i ids) (get_or ids i 0 ∷ []) a b c before (subst (λ (n : ℕ). Searched m (n ∷ []) b c) is next))

pub shown_none : (m : ObjectMap) (ids : List ℕ) (marks : List Bool) → MarksShown m ids marks marks
shown_none m ids marks mask shown are = are

pub shown_more : (m : ObjectMap) (xs ys : List ℕ) (a b c : List Bool) → MarksShown m xs a b → MarksShown m ys b c → MarksShown m (xs ++ ys) a c
shown_more m xs ys a b c one other mask shown are =
    other mask (λ id resolved. shown id (resolved_right m xs ys id resolved)) (one mask (λ id resolved. shown id (resolved_left m xs ys id resolved)) are)

pub shown_next : (m : ObjectMap) (ids : List ℕ) (i listed : ℕ) (a b c : List Bool) → i < length ids → listed ≡ get_or ids i 0 → MarksShown m (take i ids) a b
    → MarksShown m (listed ∷ []) b c → MarksShown m (take (i + 1) ids) a c
shown_next m ids i listed a b c lt is before next =
    subst (λ (xs : List ℕ). MarksShown m xs a c) (sym (take_more ids i 0 lt))
    (shown_more m (take i ids) (get_or ids i 0 ∷ []) a b c before (subst (λ (n : ℕ). MarksShown m (n ∷ []) b c) is next))

-- a search of the first IDs of a list
pub shown_part : (m : ObjectMap) (ids : List ℕ) (i : ℕ) (a b : List Bool) → MarksShown m (take i ids) a b → MarksShown m ids a b
shown_part m ids i a b part mask shown =
    part mask (λ id resolved. shown id (record { id = resolved.id; among = among_all i ids resolved.id resolved.among; resolves = resolved.resolves; is_element = resolved.is_element }))
  where
    among_all : (i : ℕ) (ids : List ℕ) (listed : ℕ) → Contains (take i ids) listed → Contains ids listed
    among_all i ids listed h = subst (λ (xs : List ℕ). Contains xs listed) (take-append-drop i ids) (Contains-append_left (take i ids) (drop i ids) listed h)

-- ---- the element that an ID resolves to

pub resolved_nothing : (m : ObjectMap) (listed : ℕ) (marks : List Bool) → ((id : ℕ) → IsResolved m (listed ∷ []) id → ⊥) → Searched m (listed ∷ []) marks marks
resolved_nothing m listed marks none = record { kept = λ id is. is; added = λ id is. absurd (none id is); drawn = λ id is. inl is }

-- an ID resolves to one element
one_resolved : (m : ObjectMap) (listed id other : ℕ) → IsResolved m (listed ∷ []) id → IsResolved m (listed ∷ []) other → id ≡ other
one_resolved m listed id other one two =
    same_Some id other
    (sym (subst (λ (n : ℕ). resolves_to m n ≡ Some id) (sym (only_id listed one.id one.among)) one.resolves)
    ∙ subst (λ (n : ℕ). resolves_to m n ≡ Some other) (sym (only_id listed two.id two.among)) two.resolves)

pub resolved_marked : (m : ObjectMap) (listed id index : ℕ) (marks : List Bool) → IsIdAt (ids_of m) index id → IsResolved m (listed ∷ []) id
    → slice_index_or marks index false ≡ true → Searched m (listed ∷ []) marks marks
resolved_marked m listed id index marks there resolved set = record {
  kept = λ other is. is;
  added = λ other is. subst (IsMarked m marks) (one_resolved m listed id other resolved is) (record { index = index; there = there; set = set });
  drawn = λ other is. inl is;
}

stays : (marks : List Bool) (index at : ℕ) → index < length marks → slice_index_or marks at false ≡ true → slice_index_or (set marks index true) at false ≡ true
stays marks index at lt was = elim (cases_eq at index) as (λ _. slice_index_or (set marks index true) at false ≡ true) [
  | inl same ↦ subst (λ (p : ℕ). slice_index_or (set marks index true) p false ≡ true) (sym same) (get_or-set_same marks index true false lt)
  | inr differs ↦ get_or-set_other marks index at true false differs ∙ was
]

-- one more mark
module _ (m : ObjectMap) (id index : ℕ) (marks : List Bool) (lt : index < length marks) (there : IsIdAt (ids_of m) index id) where
  still_marked : (other : ℕ) → IsMarked m marks other → IsMarked m (set marks index true) other
  still_marked other was = record { index = was.index; there = was.there; set = stays marks index was.index lt was.set }

  now_marked : IsMarked m (set marks index true) id
  now_marked = record { index = index; there = there; set = get_or-set_same marks index true false lt }

  mark_case : (other : ℕ) → IsMarked m (set marks index true) other → IsMarked m marks other ⊎ (id ≡ other)
  mark_case other now = elim (cases_eq now.index index) as (λ _. IsMarked m marks other ⊎ (id ≡ other)) [
    | inl same ↦ inr (same_id (ids_of m) index id other there (subst (λ (p : ℕ). IsIdAt (ids_of m) p other) same now.there))
    | inr differs ↦ inl (record { index = now.index; there = now.there; set = sym (get_or-set_other marks index now.index true false differs) ∙ now.set })
  ]

  -- the element is marked, and then all within it is searched
  pub searched_within : (listed : ℕ) (new : List Bool) → IsResolved m (listed ∷ []) id → Searched m (drawn_in m (finite.get m id)) (set marks index true) new
      → Searched m (listed ∷ []) marks new
  searched_within listed new resolved search = record {
    kept = λ other was. search.kept other (still_marked other was);
    added = λ other is. subst (IsMarked m new) (one_resolved m listed id other resolved is) (search.kept id now_marked);
    drawn = λ other is. elim (search.drawn other is) as (λ _. IsMarked m marks other ⊎ HasDrawingMarked m new other) [
      | inl was ↦ elim (mark_case other was) as (λ _. IsMarked m marks other ⊎ HasDrawingMarked m new other) [
        | inl before ↦ inl before
        | inr same ↦ inr (subst (HasDrawingMarked m new) same search.added)
      ]
      | inr drawn ↦ inr drawn
    ];
  }

  pub shown_one : (listed : ℕ) → IsResolved m (listed ∷ []) id → MarksShown m (listed ∷ []) marks (set marks index true)
  shown_one listed resolved mask shown are = record {
    each = length-set marks index true ∙ are.each;
    shown = λ other now. elim (mark_case other now) as (λ _. IsShown m mask other) [
      | inl was ↦ are.shown other was
      | inr same ↦ subst (IsShown m mask) same (shown id resolved)
    ];
  }

  pub shown_within : (listed : ℕ) (new : List Bool) → IsResolved m (listed ∷ []) id → MarksShown m (drawn_in m (finite.get m id)) (set marks index true) new
      → MarksShown m (listed ∷ []) marks new
  shown_within listed new resolved search mask shown are =
      search mask (λ other drawn. Within id other (shown id resolved) drawn) (shown_one listed resolved mask shown are)

-- ---- the whole search

pub none_shown : (m : ObjectMap) (mask : ℕ) (marks : List Bool) → length marks ≡ length (ids_of m) → ((at : ℕ) → slice_index_or marks at false ≡ false)
    → AreSomeShown m mask marks
none_shown m mask marks each clear = record { each = each; shown = λ id is. absurd (no_mark (slice_index_or marks is.index false) (clear is.index) is.set) }
  where
    no_mark : (b : Bool) → b ≡ false → b ≡ true → ⊥
    no_mark b off on = cc

-- a search of the mask's drawing, whole or not
pub mask_shown : (m : ObjectMap) (mask : ℕ) (none new : List Bool) → AreSomeShown m mask none → MarksShown m (drawn_in m (finite.get m mask)) none new
    → AreSomeShown m mask new
mask_shown m mask none new are search = search mask (InMask) are

-- a search of the soft keys, whole or not
pub keys_shown : (m : ObjectMap) (mask : ℕ) (old new : List Bool) → AreSomeShown m mask old → MarksShown m (soft_keys m mask) old new → AreSomeShown m mask new
keys_shown m mask old new are search = search mask (AmongKeys) are

-- a whole search from clear marks marks all that the mask shows
pub all_shown : (m : ObjectMap) (mask : ℕ) (none drawn new : List Bool) → ((at : ℕ) → slice_index_or none at false ≡ false)
    → Searched m (drawn_in m (finite.get m mask)) none drawn → Searched m (soft_keys m mask) drawn new → AreSomeShown m mask new → AreShown m mask new
all_shown m mask none drawn new clear first last are = record { each = are.each; shown = are.shown; marked = marked }
  where
    whole : Searched m (drawn_in m (finite.get m mask) ++ soft_keys m mask) none new
    whole = searched_more m (drawn_in m (finite.get m mask)) (soft_keys m mask) none drawn new first last

    no_mark : (b : Bool) → b ≡ false → b ≡ true → ⊥
    no_mark b off on = cc

    within_too : (id : ℕ) → IsMarked m new id → HasDrawingMarked m new id
    within_too id is = elim (whole.drawn id is) as (λ _. HasDrawingMarked m new id) [
      | inl never ↦ absurd (no_mark (slice_index_or none never.index false) (clear never.index) never.set)
      | inr drawn ↦ drawn
    ]

    marked : (id : ℕ) → IsShown m mask id → IsMarked m new id
    marked id (InMask _ resolved) = whole.added id (resolved_left m (drawn_in m (finite.get m mask)) (soft_keys m mask) id resolved)
    marked id (AmongKeys _ resolved) = whole.added id (resolved_right m (drawn_in m (finite.get m mask)) (soft_keys m mask) id resolved)
    marked other (Within id _ shown resolved) = within_too id (marked id shown) other resolved

-- ---- the index of an object

-- the index of the object that an ID stands for is that of an element that it ids
pub behind_index : (m : ObjectMap) (listed id : ℕ) (o : Seen) (found : Option ℕ) → IfSome found (IsPlace (finite.entries m) id) → resolves_to m listed ≡ Some id
    → finite.get m id ≡ Some o → is_element (Some o) ≡ true → IfSome found (λ index. (x : ℕ) × IsIdAt (ids_of m) index x × IsResolved m (listed ∷ []) x)
behind_index m listed id o None at is got element = tt
behind_index m listed id o (Some index) at is got element = (
  id,
  stands_of (finite.entries m) index id at.object at.there,
  record { id = listed; among = Contains-head listed []; resolves = is; is_element = subst (λ (s : Option Seen). IsTrue (is_element s)) (sym got) element },
)

-- an element that an ID refers to directly
pub direct_resolved : (m : ObjectMap) (listed index : ℕ) → IsPlace (finite.entries m) listed index → IsTrue (is_element (finite.get m listed)) → resolves_to m listed ≡ Some listed
    → (x : ℕ) × IsIdAt (ids_of m) index x × IsResolved m (listed ∷ []) x
direct_resolved m listed index at element is = (
  listed,
  stands_of (finite.entries m) index listed at.object at.there,
  record { id = listed; among = Contains-head listed []; resolves = is; is_element = element },
)

pub clear_mark : (m : ObjectMap) (id index : ℕ) (marks : List Bool) → IsPlace (finite.entries m) id index → slice_index_or marks index false ≡ false
    → IsMarked m marks id → ⊥
clear_mark m id index marks at clear is =
    let same = once m is.index index id is.there (stands_of (finite.entries m) index id at.object at.there) in
    let never = sym is.set ∙ ap (λ (p : ℕ). slice_index_or marks p false) same ∙ clear in
    absurd cc

pub missing_mark : (m : ObjectMap) (id : ℕ) (marks : List Bool) → finite.get m id ≡ None → IsMarked m marks id → ⊥
missing_mark m id marks none is = missing_nowhere m is.index id is.there none

pub cleared : (n : ℕ) (marks : List Bool) → marks ≡ replicate n false → (at : ℕ) → slice_index_or marks at false ≡ false
cleared n marks is at = ap (λ (xs : List Bool). slice_index_or xs at false) is ∙ all_clear n at
  where
    all_clear : (n at : ℕ) → slice_index_or (replicate n false) at false ≡ false
    all_clear zero at = refl
    all_clear (suc n) zero = refl
    all_clear (suc n) (suc at) = all_clear n at

-- ---- the drawing of an object

-- an object's drawing, by its children and its current item
pub parts_of : (m : ObjectMap) (id : ℕ) (o : Seen) (children : List Child) (item other : Option ℕ) → finite.get m id ≡ Some o
    → drawn_in m (Some o) ≡ ids_in children ++ option_to_list item → item ≡ other → drawn_in m (finite.get m id) ≡ ids_in children ++ option_to_list other
parts_of m id o children item other got are is = ap (drawn_in m) got ∙ are ∙ ap (λ (x : Option ℕ). ids_in children ++ option_to_list x) is

-- an ID in the drawing of an object resolves to an element of a lesser level
pub resolved_below : (m : ObjectMap) (levels : List ℕ) (index id listed : ℕ) → IsCertificate (ids_of m) (inclusions_of m) levels → finite.get m null_id ≡ None
    → IsIdAt (ids_of m) index id → Contains (drawn_in m (finite.get m id)) listed → (other : ℕ) → IsResolved m (listed ∷ []) other
    → IsBelow (ids_of m) levels other (slice_index levels index)
resolved_below m levels index id listed certificate null there among other resolved =
    resolved_falls m levels index id other certificate null there
    (record { id = listed; among = among; resolves = subst (λ (n : ℕ). resolves_to m n ≡ Some other) (sym (only_id listed resolved.id resolved.among)) resolved.resolves; is_element = resolved.is_element })

-- the ID of a child
pub child_among : (children : List Child) (i : ℕ) (child : Child) → i < length children → child ≡ get_or children i child → get_or (ids_in children) i 0 ≡ child.id
child_among children i child lt is = get_or-map (λ (c : Child). c.id) children i child 0 lt ∙ ap (λ (c : Child). c.id) (sym is)

pub child_drawn : (m : ObjectMap) (id i listed : ℕ) (children : List Child) (items : List ℕ) → drawn_in m (finite.get m id) ≡ ids_in children ++ items
    → i < length children → get_or (ids_in children) i 0 ≡ listed → Contains (drawn_in m (finite.get m id)) listed
child_drawn m id i listed children items parts lt is =
    subst (λ (xs : List ℕ). Contains xs listed) (sym parts)
    (Contains-append_left (ids_in children) items listed
    (let long = length-map children (λ (c : Child). c.id) in
    let inside : i < length (ids_in children) = omega (arith, lt, long) in
    (i, inside, get_or_other (ids_in children) i listed inside ∙ is)))
  where
    get_or_other : (xs : List ℕ) (i d : ℕ) → i < length xs → get_or xs i d ≡ get_or xs i 0
    get_or_other [] i d lt = absurd (omega (arith, lt))
    get_or_other (x ∷ xs) zero d lt = refl
    get_or_other (x ∷ xs) (suc i) d lt = get_or_other xs i d (omega (arith, lt))

pub item_drawn : (m : ObjectMap) (id item : ℕ) (children : List Child) → drawn_in m (finite.get m id) ≡ ids_in children ++ (item ∷ []) → Contains (drawn_in m (finite.get m id)) item
item_drawn m id item children parts =
    subst (λ (xs : List ℕ). Contains xs item) (sym parts) (Contains-append_right (ids_in children) (item ∷ []) item (Contains-head item []))

-- the search of an object's drawing that ends at a child, or after the item
module _ (m : ObjectMap) (index id : ℕ) (children : List Child) (items : List ℕ) (there : IsIdAt (ids_of m) index id)
    (parts : drawn_in m (finite.get m id) ≡ ids_in children ++ items) where
  at_index : (P : List ℕ → Type 0) → P (ids_in children ++ items) → (x : ℕ) → IsIdAt (ids_of m) index x → P (drawn_in m (finite.get m x))
  at_index P is x other =
      subst (λ (k : ℕ). P (drawn_in m (finite.get m k))) (same_id (ids_of m) index id x there other) (subst P (sym parts) is)

  pub drawing_searched : (a b c : List Bool) → Searched m (ids_in children) a b → Searched m items b c
      → (x : ℕ) → IsIdAt (ids_of m) index x → Searched m (drawn_in m (finite.get m x)) a c
  drawing_searched a b c one other = at_index (λ xs. Searched m xs a c) (searched_more m (ids_in children) items a b c one other)

  pub drawing_shown : (a b c : List Bool) → MarksShown m (ids_in children) a b → MarksShown m items b c
      → (x : ℕ) → IsIdAt (ids_of m) index x → MarksShown m (drawn_in m (finite.get m x)) a c
  drawing_shown a b c one other = at_index (λ xs. MarksShown m xs a c) (shown_more m (ids_in children) items a b c one other)

-- the whole list of IDs
pub all_ids : (ids : List ℕ) (i : ℕ) → length ids ≤ i → take i ids ≡ ids
all_ids [] zero le = refl
all_ids [] (suc i) le = refl
all_ids (x ∷ ids) zero le = absurd (omega (arith, le))
all_ids (x ∷ ids) (suc i) le = ap (λ (xs : List ℕ). x ∷ xs) (all_ids ids i (omega (arith, le)))

pub level_of : (m : ObjectMap) (levels : List ℕ) (index id level : ℕ) → IsIdAt (ids_of m) index id → IsBelow (ids_of m) levels id level → slice_index levels index < level
level_of m levels index id level there below = subst (λ (p : ℕ). slice_index levels p < level) (once m below.index index id below.there there) below.less

-- the level of each element is less than 33
pub below_all : (m : ObjectMap) (levels : List ℕ) (listed id : ℕ) → IsCertificate (ids_of m) (inclusions_of m) levels → IsResolved m (listed ∷ []) id → IsBelow (ids_of m) levels id 33
below_all m levels listed id certificate resolved = from (finite.get m id) refl resolved.is_element
  where
    from : (o : Option Seen) → finite.get m id ≡ o → IsTrue (is_element o) → IsBelow (ids_of m) levels id 33
    from None at element = absurd cc
    from (Some o) at element =
        let there = stands (finite.entries m) id o (sym (finite.get-entries m id) ∙ at) in
        let most = certificate.within there.0 in
        record { index = there.0; there = there.1; less = omega (arith, most) }
