-- The walk through entries meets the elements at all paths.
use Rattle.std.proofs.Common.{◌≡◌, ◌≤◌, ◌+◌, inl, inr, ℕ, zero, suc, List, [], ◌∷◌, ◌++◌, map, length, Option, Some, None, refl, sym, ap, subst, ◌∙◌, arith}
use Rattle.std.proofs.lemmas.Option.{same_Some}
use Rattle.std.proofs.lemmas.List.Elements.{Contains-append_left, Contains-append_right, Contains-append_cases}
use Rattle.std.specs.Prelude.{Contains, slice_get}
use Rattle.std.specs.FinMap as finite
use Rattle.vt_kinds.specs.declared.entries.Child.{Child}
use Rattle.vt_stores.specs.Stores.{ObjectMap}
use Rattle.vt_chains.proofs.Elements.{Contains-nil, Contains-head, Contains-tail, cons_case}
use Rattle.vt_shown.specs.ShownElements.{resolves_to}
use Rattle.vt_layout.specs.declared.element.Element.{Element}
use Rattle.vt_layout.specs.declared.element.Position.{Position}
use Rattle.vt_layout.specs.Drawings.{Placed, shifted, element, entered, along, at_path, entries_in}
use Rattle.vt_layout.specs.Walks.{Draws, with_drawn, each_from, elements}

-- ---- the walk with the paths

abbrev pub Places : Type 0
Places = List Child → Position → List Placed

abbrev pub placed : List ℕ → Element → Placed
placed path e = record { path = path; element = e }

abbrev pub under : ℕ → Placed → Placed
under place p = placed (place ∷ p.path) p.element

abbrev pub placed_with : Places → ObjectMap → ℕ → Option Element → List Placed
placed_with inner store place None = []
placed_with inner store place (Some e) = placed (place ∷ []) e ∷ map (under place) (inner (entries_in store (finite.get store e.id)) e.at)

abbrev pub placed_from : Places → ObjectMap → ℕ → List Child → Position → List Placed
placed_from inner store place [] from = []
placed_from inner store place (entry ∷ entries) from =
    placed_with inner store place (element store place (shifted from entry) (resolves_to store entry.id)) ++ placed_from inner store (suc place) entries from

abbrev pub all_placed : ℕ → ObjectMap → Places
all_placed zero store entries from = []
all_placed (suc depth) store entries from = placed_from (all_placed depth store) store 0 entries from

-- ---- the walk with paths has the elements of the walk without

abbrev pub bare : List Placed → List Element
bare ps = map (λ p. p.element) ps

bare_append : (ps qs : List Placed) → bare (ps ++ qs) ≡ bare ps ++ bare qs
bare_append [] qs = refl
bare_append (p ∷ ps) qs = ap (λ es. p.element ∷ es) (bare_append ps qs)

bare_under : (place : ℕ) (ps : List Placed) → bare (map (under place) ps) ≡ bare ps
bare_under place [] = refl
bare_under place (p ∷ ps) = ap (λ es. p.element ∷ es) (bare_under place ps)

bare_with : (inner : Places) (draws : Draws) (store : ObjectMap) → ((entries : List Child) (from : Position) → bare (inner entries from) ≡ draws entries from)
    → (place : ℕ) (e : Option Element) → bare (placed_with inner store place e) ≡ with_drawn draws store e
bare_with inner draws store same place None = refl
bare_with inner draws store same place (Some e) =
    let within = entries_in store (finite.get store e.id) in
    ap (λ es. e ∷ es) (bare_under place (inner within e.at) ∙ same within e.at)

bare_from : (inner : Places) (draws : Draws) (store : ObjectMap) → ((entries : List Child) (from : Position) → bare (inner entries from) ≡ draws entries from)
    → (place : ℕ) (entries : List Child) (from : Position) → bare (placed_from inner store place entries from) ≡ each_from draws store place entries from
bare_from inner draws store same place [] from = refl
bare_from inner draws store same place (entry ∷ entries) from =
    let first = element store place (shifted from entry) (resolves_to store entry.id) in
    bare_append (placed_with inner store place first) (placed_from inner store (suc place) entries from)
    ∙ ap (λ es. es ++ bare (placed_from inner store (suc place) entries from)) (bare_with inner draws store same place first)
    ∙ ap (λ es. with_drawn draws store first ++ es) (bare_from inner draws store same (suc place) entries from)

pub bare_all : (depth : ℕ) (store : ObjectMap) (entries : List Child) (from : Position) → bare (all_placed depth store entries from) ≡ elements depth store entries from
unfolding elements
bare_all zero store entries from = refl
bare_all (suc depth) store entries from = bare_from (all_placed depth store) (elements depth store) store (bare_all depth store) 0 entries from

-- ---- the elements that the walk meets are at their paths

-- the elements of a list are at their paths
abbrev AreAt : ObjectMap → List Child → Position → List Placed → Type 0
AreAt store entries from ps = (p : Placed) → Contains ps p → at_path store entries from p.path ≡ Some p.element

-- an element below an index
under_case : (P : Type 0) (place : ℕ) (ps : List Placed) (p : Placed) → Contains (map (under place) ps) p → ((q : Placed) → Contains ps q → under place q ≡ p → P) → P
under_case P place [] p h then = absurd (Contains-nil p h)
under_case P place (q ∷ qs) p h then =
    cons_case P (under place q) p (map (under place) qs) h
    (λ same. then q (Contains-head q qs) same)
    (λ later. under_case P place qs p later (λ r among is. then r (Contains-tail q r qs among) is))

-- a path to an element has a first index
path_case : (P : Type 0) (store : ObjectMap) (entries : List Child) (from : Position) (path : List ℕ) (e : Element) → at_path store entries from path ≡ Some e
    → ((place : ℕ) (rest : List ℕ) → path ≡ place ∷ rest → P) → P
path_case P store entries from [] e is then = absurd cc
path_case P store entries from (place ∷ rest) e is then = then place rest refl

-- below an element, the path goes on in its entries
goes_on : (store : ObjectMap) (e : Element) (path : List ℕ) (other : Element) → at_path store (entries_in store (finite.get store e.id)) e.at path ≡ Some other
    → along store path (Some e) ≡ Some other
goes_on store e [] other is = absurd cc
goes_on store e (place ∷ path) other is = is

with_at : (inner : Places) (store : ObjectMap) → ((entries : List Child) (from : Position) → AreAt store entries from (inner entries from))
    → (place : ℕ) (e : Option Element) (p : Placed) → Contains (placed_with inner store place e) p
    → (P : Type 0) → ((rest : List ℕ) → p.path ≡ place ∷ rest → along store rest e ≡ Some p.element → P) → P
with_at inner store are place None p h P then = absurd (Contains-nil p h)
with_at inner store are place (Some e) p h P then =
    let within = entries_in store (finite.get store e.id) in
    cons_case P (placed (place ∷ []) e) p (map (under place) (inner within e.at)) h
    (λ same. then [] (ap (λ (q : Placed). q.path) (sym same)) (ap (λ (q : Placed). Some q.element) same))
    (λ later. under_case P place (inner within e.at) p later
    (λ q among is. then q.path (ap (λ (r : Placed). r.path) (sym is)) (goes_on store e q.path q.element (are within e.at q among) ∙ ap (λ (r : Placed). Some r.element) is)))

-- `entries` is the rest of a list, from an index on
abbrev IsFrom : List Child → ℕ → List Child → Type 0
IsFrom all place entries = (i : ℕ) → slice_get all (place + i) ≡ slice_get entries i

first_is : (all entries : List Child) (place : ℕ) (entry : Child) → IsFrom all place (entry ∷ entries) → slice_get all place ≡ Some entry
first_is all entries place entry is = ap (slice_get all) (omega arith) ∙ is 0

rest_is : (all entries : List Child) (place : ℕ) (entry : Child) → IsFrom all place (entry ∷ entries) → IsFrom all (suc place) entries
rest_is all entries place entry is i = ap (slice_get all) (omega arith) ∙ is (suc i)

from_at : (inner : Places) (store : ObjectMap) → ((entries : List Child) (from : Position) → AreAt store entries from (inner entries from))
    → (all : List Child) (place : ℕ) (entries : List Child) (from : Position) → IsFrom all place entries → AreAt store all from (placed_from inner store place entries from)
from_at inner store are all place [] from is p h = absurd (Contains-nil p h)
from_at inner store are all place (entry ∷ entries) from is p h =
    let first = element store place (shifted from entry) (resolves_to store entry.id) in
    elim (Contains-append_cases (placed_with inner store place first) (placed_from inner store (suc place) entries from) p h) as (λ _. at_path store all from p.path ≡ Some p.element) [
      | inl here ↦ with_at inner store are place first p here (at_path store all from p.path ≡ Some p.element)
          (λ rest path leads. ap (at_path store all from) path ∙ ap (λ o. along store rest (entered store from place o)) (first_is all entries place entry is) ∙ leads)
      | inr later ↦ from_at inner store are all (suc place) entries from (rest_is all entries place entry is) p later
    ]

pub placed_at : (depth : ℕ) (store : ObjectMap) (entries : List Child) (from : Position) → AreAt store entries from (all_placed depth store entries from)
placed_at zero store entries from p h = absurd (Contains-nil p h)
placed_at (suc depth) store entries from p h =
    from_at (all_placed depth store) store (placed_at depth store) entries 0 entries from (λ i. ap (slice_get entries) (omega arith)) p h

-- ---- all elements at paths are met

under_met : (place : ℕ) (ps : List Placed) (p : Placed) → Contains ps p → Contains (map (under place) ps) (under place p)
under_met place [] p h = absurd (Contains-nil p h)
under_met place (q ∷ qs) p h =
    cons_case (Contains (map (under place) (q ∷ qs)) (under place p)) q p qs h
    (λ same. subst (λ (r : Placed). Contains (map (under place) (q ∷ qs)) (under place r)) same (Contains-head (under place q) (map (under place) qs)))
    (λ later. Contains-tail (under place q) (under place p) (map (under place) qs) (under_met place qs p later))

-- all elements at paths of at most `depth` indices are met
abbrev AreMet : ℕ → ObjectMap → Places → Type 0
AreMet depth store inner = (entries : List Child) (from : Position) (path : List ℕ) (e : Element) → at_path store entries from path ≡ Some e → length path ≤ depth
    → Contains (inner entries from) (placed path e)

with_met : (depth : ℕ) (inner : Places) (store : ObjectMap) → AreMet depth store inner → (place : ℕ) (o : Option Element) (path : List ℕ) (e : Element)
    → along store path o ≡ Some e → length path ≤ depth → Contains (placed_with inner store place o) (placed (place ∷ path) e)
with_met depth inner store met place None path e leads short = absurd cc
with_met depth inner store met place (Some o) [] e leads short =
    let within = entries_in store (finite.get store o.id) in
    subst (λ (k : Element). Contains (placed_with inner store place (Some o)) (placed (place ∷ []) k)) (same_Some o e leads)
    (Contains-head (placed (place ∷ []) o) (map (under place) (inner within o.at)))
with_met depth inner store met place (Some o) (q ∷ path) e leads short =
    let within = entries_in store (finite.get store o.id) in
    Contains-tail (placed (place ∷ []) o) (placed (place ∷ q ∷ path) e) (map (under place) (inner within o.at))
    (under_met place (inner within o.at) (placed (q ∷ path) e) (met within o.at (q ∷ path) e leads short))

from_met : (depth : ℕ) (inner : Places) (store : ObjectMap) → AreMet depth store inner → (place i : ℕ) (entries : List Child) (from : Position) (path : List ℕ) (e : Element)
    → along store path (entered store from (place + i) (slice_get entries i)) ≡ Some e → length path ≤ depth
    → Contains (placed_from inner store place entries from) (placed ((place + i) ∷ path) e)
from_met depth inner store met place i [] from path e leads short = absurd cc
from_met depth inner store met place zero (entry ∷ entries) from path e leads short =
    let first = element store place (shifted from entry) (resolves_to store entry.id) in
    let same : place + 0 ≡ place = omega arith in
    Contains-append_left (placed_with inner store place first) (placed_from inner store (suc place) entries from) (placed ((place + 0) ∷ path) e)
    (subst (λ (k : ℕ). Contains (placed_with inner store place first) (placed (k ∷ path) e)) (sym same)
    (with_met depth inner store met place first path e (subst (λ (k : ℕ). along store path (entered store from k (Some entry)) ≡ Some e) same leads) short))
from_met depth inner store met place (suc i) (entry ∷ entries) from path e leads short =
    let first = element store place (shifted from entry) (resolves_to store entry.id) in
    let same : place + suc i ≡ suc place + i = omega arith in
    Contains-append_right (placed_with inner store place first) (placed_from inner store (suc place) entries from) (placed ((place + suc i) ∷ path) e)
    (subst (λ (k : ℕ). Contains (placed_from inner store (suc place) entries from) (placed (k ∷ path) e)) (sym same)
    (from_met depth inner store met (suc place) i entries from path e
    (subst (λ (k : ℕ). along store path (entered store from k (slice_get entries i)) ≡ Some e) same leads) short))

pub all_met : (depth : ℕ) (store : ObjectMap) → AreMet depth store (all_placed depth store)
all_met depth store entries from [] e leads short = absurd cc
all_met zero store entries from (place ∷ path) e leads short = absurd (omega (arith, short))
all_met (suc depth) store entries from (place ∷ path) e leads short =
    let same : 0 + place ≡ place = omega arith in
    subst (λ (k : ℕ). Contains (placed_from (all_placed depth store) store 0 entries from) (placed (k ∷ path) e)) same
    (from_met depth (all_placed depth store) store (all_met depth store) 0 place entries from path e
    (subst (λ (k : ℕ). along store path (entered store from k (slice_get entries place)) ≡ Some e) (sym same) leads) (omega (arith, short)))
