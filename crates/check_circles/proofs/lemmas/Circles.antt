-- Graphs without the items of some nodes, and the circles that are left in them.
use Rattle.std.proofs.Common.{◌≡◌, ℕ, zero, suc, ◌<◌, ◌≤◌, Bool, true, false, cond, eqb, ◌||◌, List, [], ◌∷◌, ◌++◌, take, get_or, set, refl, sym, ap, ap₂, subst, ◌∙◌, arith, inl, inr}
use Rattle.std.proofs.lemmas.Bool.{cases_lt, eqb-true, eq-eqb}
use Rattle.std.proofs.lemmas.List.{append_assoc, append-nil, get_or-take, get_or_past, length-take}
use Rattle.std.specs.Prelude.{slice_index, Contains}
use Rattle.std.specs.List.{flat_map, list_any}
use Rattle.vt_rank.specs.declared.circle.Circle.{Circle}
use Rattle.vt_rank.specs.declared.graph.Graph.{Graph}
use Rattle.vt_rank.specs.declared.graph.Item.{Item}
use Rattle.vt_rank.specs.declared.graph.Item.TheVariants.{Step, Group, Most}
use Rattle.vt_rank.specs.Graphs.{lists, items_of, group_of, nodes_of, triggered}
use Rattle.vt_rank.specs.Paths.{IsCircle, IsDistinct, HasNoCircle, IsLeastOnCircles}
use Rattle.vt_rank.proofs.Members.{Contains-nil}
use Rattle.check_circles.specs.Circles.{without, cleared, AreCircles}

everywhere : {A B : Type 0} {f h : A → B} → ((x : A) → f x ≡ h x) → f ≡ h
everywhere equal = λ i x. equal x i

differ : (n i : ℕ) → eqb n i ≡ false → n ≡ i → ⊥
differ n i is same = let yes : eqb n i ≡ true = ap (eqb n) (sym same) ∙ eq-eqb n n refl in let never : false ≡ true = sym is ∙ yes in absurd cc

-- ---- emptied lists

module _ {X : Type 0} where
  emptied_here : (ls : List (List X)) (i : ℕ) → get_or (set ls i []) i [] ≡ []
  emptied_here [] i = refl
  emptied_here (l ∷ ls) zero = refl
  emptied_here (l ∷ ls) (suc i) = emptied_here ls i

  emptied_other : (ls : List (List X)) (i n : ℕ) → (n ≡ i → ⊥) → get_or (set ls i []) n [] ≡ get_or ls n []
  emptied_other [] i n other = refl
  emptied_other (l ∷ ls) zero zero other = absurd (other refl)
  emptied_other (l ∷ ls) zero (suc n) other = refl
  emptied_other (l ∷ ls) (suc i) zero other = refl
  emptied_other (l ∷ ls) (suc i) (suc n) other = emptied_other ls i n (λ same. other (ap suc same))

  nothing : (b : Bool) → cond b [] (let l : List X = [] in l) ≡ []
  nothing true = refl
  nothing false = refl

  cleared_case : (ls : List (List X)) (i n : ℕ) (any same : Bool) → eqb n i ≡ same → (same ≡ false → n ≡ i → ⊥)
      → cond any [] (get_or (set ls i []) n []) ≡ cond (same || any) [] (get_or ls n [])
  cleared_case ls i n any true is other =
      ap (λ l. cond any [] l) (ap (λ (k : ℕ). get_or (set ls i []) k []) (eqb-true n i is) ∙ emptied_here ls i) ∙ nothing any
  cleared_case ls i n any false is other = ap (λ l. cond any [] l) (emptied_other ls i n (other refl))

  pub get_cleared : (ls : List (List X)) (is : List ℕ) (n : ℕ) → get_or (cleared is ls) n [] ≡ cond (list_any (λ i. eqb n i) is) [] (get_or ls n [])
  get_cleared ls [] n = refl
  get_cleared ls (i ∷ is) n =
      get_cleared (set ls i []) is n ∙ cleared_case ls i n (list_any (λ i. eqb n i) is) (eqb n i) refl (differ n i)

-- ---- the triggers of a graph without the items of some nodes

module _ (g h : Graph) (ms : List ℕ) (nodes : lists h.nodes ≡ cleared ms (lists g.nodes)) (groups : lists h.groups ≡ lists g.groups)
    (most : h.most.items ≡ g.most.items) where
  items_left : (n : ℕ) → items_of h n ≡ cond (list_any (λ m. eqb n m) ms) [] (items_of g n)
  unfolding items_of
  items_left n = elim (cases_lt n 256) [
    | inl lt ↦ get_or-take 256 (lists h.nodes) n [] lt
        ∙ ap (λ (ls : List (List Item)). get_or ls n []) nodes
        ∙ get_cleared (lists g.nodes) ms n
        ∙ ap (λ (l : List Item). cond (list_any (λ m. eqb n m) ms) [] l) (sym (get_or-take 256 (lists g.nodes) n [] lt))
    | inr ge ↦ let short = length-take 256 (lists h.nodes) in
        let short_too = length-take 256 (lists g.nodes) in
        get_or_past (take 256 (lists h.nodes)) n [] (omega arith)
        ∙ sym (nothing (list_any (λ m. eqb n m) ms))
        ∙ ap (λ (l : List Item). cond (list_any (λ m. eqb n m) ms) [] l) (sym (get_or_past (take 256 (lists g.nodes)) n [] (omega arith)))
  ]

  same_group : (k : ℕ) → group_of h k ≡ group_of g k
  unfolding group_of
  same_group k = ap (λ (ls : List (List ℕ)). get_or ls k []) groups

  same_nodes : (item : Item) → nodes_of h item ≡ nodes_of g item
  same_nodes Step = refl
  same_nodes (Group k) = same_group k
  same_nodes Most = ap₂ (λ (f : ℕ → List ℕ) (ks : List ℕ). flat_map f ks) (everywhere same_group) most

  none_kept : (b : Bool) (f : Item → List ℕ) (items : List Item) → flat_map f (cond b [] items) ≡ cond b [] (flat_map f items)
  none_kept true f items = refl
  none_kept false f items = refl

  pub triggered_left : triggered h ≡ without ms (triggered g)
  triggered_left = everywhere (λ n.
      ap₂ (λ (f : Item → List ℕ) (items : List Item). flat_map f items) (everywhere same_nodes) (items_left n)
      ∙ none_kept (list_any (λ m. eqb n m) ms) (nodes_of g) (items_of g n))

-- ---- the number of nodes with items

module _ {X : Type 0} where
  pub busy : List (List X) → ℕ
  busy [] = 0
  busy ([] ∷ ls) = busy ls
  busy ((x ∷ xs) ∷ ls) = suc (busy ls)

  busy_kept : (ls : List (List X)) (i : ℕ) → busy (set ls i []) ≤ busy ls
  unfolding busy
  busy_kept [] i = omega arith
  busy_kept ([] ∷ ls) zero = omega arith
  busy_kept ((x ∷ xs) ∷ ls) zero = omega arith
  busy_kept ([] ∷ ls) (suc i) = busy_kept ls i
  busy_kept ((x ∷ xs) ∷ ls) (suc i) = let rest = busy_kept ls i in omega arith

  busy_all : (is : List ℕ) (ls : List (List X)) → busy (cleared is ls) ≤ busy ls
  busy_all [] ls = omega arith
  busy_all (i ∷ is) ls =
      let one = busy_kept ls i in
      let others = busy_all is (set ls i []) in
      omega arith

  fewer : (ls : List (List X)) (i : ℕ) → (get_or ls i [] ≡ [] → ⊥) → busy (set ls i []) < busy ls
  unfolding busy
  fewer [] i some = absurd (some refl)
  fewer ([] ∷ ls) zero some = absurd (some refl)
  fewer ((x ∷ xs) ∷ ls) zero some = omega arith
  fewer ([] ∷ ls) (suc i) some = fewer ls i some
  fewer ((x ∷ xs) ∷ ls) (suc i) some = let rest = fewer ls i some in omega arith

  pub fewer_busy : (ls : List (List X)) (i : ℕ) (is : List ℕ) → (get_or ls i [] ≡ [] → ⊥) → busy (cleared (i ∷ is) ls) < busy ls
  fewer_busy ls i is some =
      let one = fewer ls i some in
      let others = busy_all is (set ls i []) in
      omega arith

first_leads : (next : ℕ → List ℕ) (n : ℕ) (ns : List ℕ) → IsCircle next (n ∷ ns) → next n ≡ [] → ⊥
first_leads next n [] circle none = Contains-nil n (subst (λ (l : List ℕ). Contains l n) none circle.0)
first_leads next n (m ∷ ns) circle none = Contains-nil m (subst (λ (l : List ℕ). Contains l m) none circle.0)

has_items : (g : Graph) (n : ℕ) → (triggered g n ≡ [] → ⊥) → get_or (lists g.nodes) n [] ≡ [] → ⊥
unfolding items_of
has_items g n some none = elim (cases_lt n 256) [
  | inl lt ↦ some (ap (flat_map (nodes_of g)) (get_or-take 256 (lists g.nodes) n [] lt ∙ none))
  | inr ge ↦ let short = length-take 256 (lists g.nodes) in some (ap (flat_map (nodes_of g)) (get_or_past (take 256 (lists g.nodes)) n [] (omega arith)))
]

-- a circle less leaves fewer nodes with items
pub circle_less : (g : Graph) (path : List ℕ) → IsCircle (triggered g) path → busy (cleared path (lists g.nodes)) < busy (lists g.nodes)
circle_less g [] circle = absurd circle
circle_less g (n ∷ ns) circle = fewer_busy (lists g.nodes) n ns (has_items g n (first_leads (triggered g) n ns circle))

-- ---- the circles found so far

pub record IsCircling (all now : ℕ → List ℕ) (found : List Circle) : Type 0 where
  pub more : (rest : List Circle) → AreCircles now rest → AreCircles all (found ++ rest)

pub circling_begins : (all : ℕ → List ℕ) → IsCircling all all []
circling_begins all = record { more = λ rest are. are }

pub circling_more : (all now next : ℕ → List ℕ) (found new : List Circle) (circle : Circle) → IsCircling all now found → IsCircle now circle.path.items
    → IsDistinct circle.path.items → IsLeastOnCircles now (slice_index circle.path.items 0) → next ≡ without circle.path.items now → new ≡ found ++ circle ∷ []
    → IsCircling all next new
circling_more all now next found new circle is whole once least left made = record {
  more = λ rest are.
      let longer = is.more (circle ∷ rest) (record { circle = whole; once = once; least = least }, subst (λ (t : ℕ → List ℕ). AreCircles t rest) left are) in
      subst (AreCircles all) (sym (ap (λ l. l ++ rest) made ∙ append_assoc found (circle ∷ []) rest)) longer;
}

pub circling_ends : (all now : ℕ → List ℕ) (found : List Circle) → IsCircling all now found → HasNoCircle now → AreCircles all found
circling_ends all now found is none = subst (AreCircles all) (append-nil found) (is.more [] none)
