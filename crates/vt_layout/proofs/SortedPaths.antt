-- Paths in lexicographic order: a sorted list of elements is fixed by its set of elements.
use Rattle.std.proofs.Common.{◌≡◌, ◌≤◌, inl, inr, ℕ, zero, suc, List, [], ◌∷◌, ◌++◌, map, Option, Some, None, refl, sym, ap, subst, ◌∙◌, arith}
use Rattle.std.specs.Prelude.{Contains}
use Rattle.std.specs.List.{AllByRecursion}
use Rattle.std.specs.FinMap as finite
use Rattle.vt_kinds.specs.declared.entries.Child.{Child}
use Rattle.vt_stores.specs.Stores.{ObjectMap}
use Rattle.vt_chains.proofs.Elements.{Contains-nil, Contains-head, Contains-tail, cons_case}
use Rattle.vt_shown.specs.ShownElements.{resolves_to}
use Rattle.vt_layout.specs.declared.element.Element.{Element}
use Rattle.vt_layout.specs.declared.element.Position.{Position}
use Rattle.vt_layout.specs.Drawings.{Placed, shifted, element, entries_in, IsBefore, IsInDrawingOrder, AreAll, IsDrawing, mask_entries, key_entries}
use Rattle.vt_layout.proofs.EntryWalk.{Places, under, placed_with, placed_from, all_placed}
use Rattle.vt_macros.proofs.MacroTargetsExist.{all_append}

-- ---- the order of two paths

never_itself : (path : List ℕ) → IsBefore path path → ⊥
never_itself [] is = is
never_itself (a ∷ path) (inl less) = omega (arith, less)
never_itself (a ∷ path) (inr same) = never_itself path same.1

never_both : (path other : List ℕ) → IsBefore path other → IsBefore other path → ⊥
never_both path [] one two = one
never_both [] (b ∷ other) one two = two
never_both (a ∷ path) (b ∷ other) (inl less) (inl more) = omega (arith, less, more)
never_both (a ∷ path) (b ∷ other) (inl less) (inr same) = let is = same.0 in omega (arith, less, is)
never_both (a ∷ path) (b ∷ other) (inr same) (inl less) = let is = same.0 in omega (arith, less, is)
never_both (a ∷ path) (b ∷ other) (inr one) (inr two) = never_both path other one.1 two.1

-- ---- a sorted list is unique

abbrev AreAfter : List ℕ → List Placed → Type 0
AreAfter path ps = AllByRecursion (λ q. IsBefore path q.path) ps

after_is : (path : List ℕ) (ps : List Placed) → AreAfter path ps → (q : Placed) → Contains ps q → IsBefore path q.path
after_is path [] after q h = absurd (Contains-nil q h)
after_is path (p ∷ ps) after q h =
    cons_case (IsBefore path q.path) p q ps h (λ same. subst (λ (r : Placed). IsBefore path r.path) same after.0) (after_is path ps after.1 q)

-- the first elements are equal
first_same : (p q : Placed) (ps qs : List Placed) → IsInDrawingOrder (p ∷ ps) → IsInDrawingOrder (q ∷ qs) → Contains (q ∷ qs) p → Contains (p ∷ ps) q → p ≡ q
first_same p q ps qs one two there here =
    cons_case (p ≡ q) q p qs there sym
    (λ later. cons_case (p ≡ q) p q ps here (λ same. same)
    (λ after. absurd (never_both p.path q.path (after_is p.path ps one.0 q after) (after_is q.path qs two.0 p later))))

-- the rests have the same elements
rest_has : (p q : Placed) (ps qs : List Placed) → IsInDrawingOrder (p ∷ ps) → p ≡ q → ((r : Placed) → Contains (p ∷ ps) r → Contains (q ∷ qs) r) → (r : Placed) → Contains ps r → Contains qs r
rest_has p q ps qs one same has r h =
    cons_case (Contains qs r) q r qs (has r (Contains-tail p r ps h))
    (λ is. absurd (never_itself p.path (subst (λ (s : Placed). IsBefore p.path s.path) (sym (same ∙ is)) (after_is p.path ps one.0 r h))))
    (λ later. later)

pub same_elements : (ps qs : List Placed) → IsInDrawingOrder ps → IsInDrawingOrder qs → ((r : Placed) → Contains ps r → Contains qs r) → ((r : Placed) → Contains qs r → Contains ps r) → ps ≡ qs
same_elements [] [] one two left right = refl
same_elements [] (q ∷ qs) one two left right = absurd (Contains-nil q (right q (Contains-head q qs)))
same_elements (p ∷ ps) [] one two left right = absurd (Contains-nil p (left p (Contains-head p ps)))
same_elements (p ∷ ps) (q ∷ qs) one two left right =
    let same = first_same p q ps qs one two (left p (Contains-head p ps)) (right q (Contains-head q qs)) in
    ap (λ (r : Placed). r ∷ ps) same
    ∙ ap (λ (rs : List Placed). q ∷ rs) (same_elements ps qs one.1 two.1 (rest_has p q ps qs one same left) (rest_has q p qs ps two (sym same) right))

pub drawn_once : (store : ObjectMap) (entries : List Child) (one other : List Placed) → AreAll store entries one → AreAll store entries other → one ≡ other
drawn_once store entries one other first second =
    same_elements one other first.in_order second.in_order (λ r h. (second.are r).1 ((first.are r).0 h)) (λ r h. (first.are r).1 ((second.are r).0 h))

pub drawings_once : (store : ObjectMap) (mask : ℕ) (one other : List Placed) → IsDrawing store mask one → IsDrawing store mask other → one ≡ other
drawings_once store mask one other first second =
    first.parts
    ∙ ap (λ (ps : List Placed). ps ++ first.of_keys) (drawn_once store (mask_entries store mask) first.in_mask second.in_mask first.mask_drawn second.mask_drawn)
    ∙ ap (λ (ps : List Placed). second.in_mask ++ ps) (drawn_once store (key_entries store mask) first.of_keys second.of_keys first.keys_drawn second.keys_drawn)
    ∙ sym second.parts

-- ---- the walk goes in order

-- a path begins with an index of at least `place`
abbrev StartsFrom : ℕ → List ℕ → Type 0
StartsFrom place [] = ⊥
StartsFrom place (q ∷ path) = place ≤ q

abbrev StartFrom : ℕ → List Placed → Type 0
StartFrom place ps = AllByRecursion (λ p. StartsFrom place p.path) ps

-- all paths begin with an index
abbrev StartAt : ℕ → List Placed → Type 0
StartAt place ps = AllByRecursion (λ p. (rest : List ℕ) × (p.path ≡ place ∷ rest)) ps

all_more : {A : Type 0} (P Q : A → Type 0) (xs : List A) → ((x : A) → P x → Q x) → AllByRecursion P xs → AllByRecursion Q xs
all_more P Q [] then all = all
all_more P Q (x ∷ xs) then all = (then x all.0, all_more P Q xs then all.1)

under_starts : (place : ℕ) (ps : List Placed) → StartAt place (map (under place) ps)
under_starts place [] = tt
under_starts place (p ∷ ps) = ((p.path, refl), under_starts place ps)

under_after : (place : ℕ) (path : List ℕ) (ps : List Placed) → AreAfter path ps → AreAfter (place ∷ path) (map (under place) ps)
under_after place path [] after = after
under_after place path (p ∷ ps) after = (inr (refl, after.0), under_after place path ps after.1)

under_in_order : (place : ℕ) (ps : List Placed) → IsInDrawingOrder ps → IsInDrawingOrder (map (under place) ps)
under_in_order place [] in_order = in_order
under_in_order place (p ∷ ps) in_order = (under_after place p.path ps in_order.0, under_in_order place ps in_order.1)

-- an element is before all elements below it
place_first : (place : ℕ) (ps : List Placed) → StartFrom 0 ps → AreAfter (place ∷ []) (map (under place) ps)
place_first place [] some = some
place_first place (p ∷ ps) some = (inr (refl, starts p.path some.0), place_first place ps some.1)
  where
    starts : (path : List ℕ) → StartsFrom 0 path → IsBefore [] path
    starts [] none = none
    starts (q ∷ path) some = tt

earlier : (place : ℕ) (path : List ℕ) (qs : List Placed) → ((rest : List ℕ) × (path ≡ place ∷ rest)) → StartFrom (suc place) qs → AreAfter path qs
earlier place path qs starts from = all_more (λ q. StartsFrom (suc place) q.path) (λ q. IsBefore path q.path) qs (λ q. before q.path) from
  where
    before : (other : List ℕ) → StartsFrom (suc place) other → IsBefore path other
    before [] none = none
    before (q ∷ other) le = subst (λ (p : List ℕ). IsBefore p (q ∷ other)) (sym starts.1) (inl (omega (arith, le)))

joined_in_order : (place : ℕ) (ps qs : List Placed) → IsInDrawingOrder ps → StartAt place ps → IsInDrawingOrder qs → StartFrom (suc place) qs → IsInDrawingOrder (ps ++ qs)
joined_in_order place [] qs one at two from = two
joined_in_order place (p ∷ ps) qs one at two from =
    (all_append (λ q. IsBefore p.path q.path) ps qs one.0 (earlier place p.path qs at.0 from), joined_in_order place ps qs one.1 at.1 two from)

-- the paths of a walk are in order and not empty
pub record GoesInOrder (inner : Places) : Type 0 where
  pub in_order : (entries : List Child) (from : Position) → IsInDrawingOrder (inner entries from)
  pub some : (entries : List Child) (from : Position) → StartFrom 0 (inner entries from)

with_in_order : (inner : Places) (store : ObjectMap) → GoesInOrder inner → (place : ℕ) (e : Option Element) → IsInDrawingOrder (placed_with inner store place e)
with_in_order inner store goes place None = tt
with_in_order inner store goes place (Some e) =
    let within = entries_in store (finite.get store e.id) in
    (place_first place (inner within e.at) (goes.some within e.at), under_in_order place (inner within e.at) (goes.in_order within e.at))

with_starts : (inner : Places) (store : ObjectMap) (place : ℕ) (e : Option Element) → StartAt place (placed_with inner store place e)
with_starts inner store place None = tt
with_starts inner store place (Some e) = (([], refl), under_starts place (inner (entries_in store (finite.get store e.id)) e.at))

at_from : (place least : ℕ) (ps : List Placed) → least ≤ place → StartAt place ps → StartFrom least ps
at_from place least ps le at = all_more (λ p. (rest : List ℕ) × (p.path ≡ place ∷ rest)) (λ p. StartsFrom least p.path) ps
    (λ p starts. subst (StartsFrom least) (sym starts.1) le) at

from_starts : (inner : Places) (store : ObjectMap) (least place : ℕ) (entries : List Child) (from : Position) → least ≤ place → StartFrom least (placed_from inner store place entries from)
from_starts inner store least place [] from le = tt
from_starts inner store least place (entry ∷ entries) from le =
    let first = element store place (shifted from entry) (resolves_to store entry.id) in
    all_append (λ p. StartsFrom least p.path) (placed_with inner store place first) (placed_from inner store (suc place) entries from)
    (at_from place least (placed_with inner store place first) le (with_starts inner store place first))
    (from_starts inner store least (suc place) entries from (omega (arith, le)))

from_in_order : (inner : Places) (store : ObjectMap) → GoesInOrder inner → (place : ℕ) (entries : List Child) (from : Position) → IsInDrawingOrder (placed_from inner store place entries from)
from_in_order inner store goes place [] from = tt
from_in_order inner store goes place (entry ∷ entries) from =
    let first = element store place (shifted from entry) (resolves_to store entry.id) in
    joined_in_order place (placed_with inner store place first) (placed_from inner store (suc place) entries from)
    (with_in_order inner store goes place first) (with_starts inner store place first) (from_in_order inner store goes (suc place) entries from)
    (from_starts inner store (suc place) (suc place) entries from (omega arith))

pub goes_in_order : (depth : ℕ) (store : ObjectMap) → GoesInOrder (all_placed depth store)
goes_in_order zero store = record { in_order = λ entries from. tt; some = λ entries from. tt }
goes_in_order (suc depth) store =
    let inner = all_placed depth store in
    let goes = goes_in_order depth store in
    record {
      in_order = from_in_order inner store goes 0;
      some = λ entries from. from_starts inner store 0 0 entries from (omega arith);
    }

pub walk_in_order : (depth : ℕ) (store : ObjectMap) (entries : List Child) (from : Position) → IsInDrawingOrder (all_placed depth store entries from)
walk_in_order depth store = (goes_in_order depth store).in_order
