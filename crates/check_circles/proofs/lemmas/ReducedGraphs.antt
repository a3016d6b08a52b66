-- Graphs in which each node triggers the nodes of one group.
use Rattle.std.proofs.Common.{◌≡◌, ℕ, ◌+◌, ◌<◌, ◌≤◌, Bool, true, false, cond, eqb, inl, inr, List, [], ◌∷◌, ◌++◌, take, map, length, get_or, below_more, Vec, refl, sym, ap, subst, ◌∙◌, arith}
use Rattle.std.proofs.lemmas.Bool.{cases_lt}
use Rattle.std.proofs.lemmas.List.{append-nil, get_or-take, get_or_past, get_or_push, get_or_append_left, length-take, length_push, map_push}
use Rattle.std.specs.List.{flat_map, list_any}
use Rattle.vt_rank.specs.declared.graph.Graph.{Graph}
use Rattle.vt_rank.specs.declared.graph.Item.TheVariants.{Group}
use Rattle.vt_rank.specs.Graphs.{lists, items_of, group_of, nodes_of, triggered}
use Rattle.vt_rank.specs.Paths.{IsPath, IsCircle, HasNoCircle, IsLeastOnCircles}
use Rattle.vt_rank.specs.declared.circle.Circle.{Circle}
use Rattle.check_circles.specs.Circles.{without, AreCircles}
use Rattle.check_circles.specs.ReducedGraphs.{HaveSameMembers, HaveSameTriggers, HasEachOnce, IsReduced}

-- ---- the triggers of a graph with one group for each node

no_items : (g : Graph) (n : ℕ) → 256 ≤ n → items_of g n ≡ []
unfolding items_of
no_items g n past = let short = length-take 256 (lists g.nodes) in get_or_past (take 256 (lists g.nodes)) n [] (omega (arith, past))

module _ (g : Graph) where
  no_triggers : (n : ℕ) → 256 ≤ n → triggered g n ≡ []
  no_triggers n past = ap (flat_map (nodes_of g)) (no_items g n past)

  own_item : (n : ℕ) → n < 256 → get_or (lists g.nodes) n [] ≡ Group n ∷ [] → items_of g n ≡ Group n ∷ []
  unfolding items_of
  own_item n small is = get_or-take 256 (lists g.nodes) n [] small ∙ is

  own_group : (n : ℕ) → group_of g n ≡ get_or (lists g.groups) n []
  unfolding group_of
  own_group n = refl

  own_triggers : (n : ℕ) → n < 256 → get_or (lists g.nodes) n [] ≡ Group n ∷ [] → triggered g n ≡ get_or (lists g.groups) n []
  own_triggers n small is = ap (flat_map (nodes_of g)) (own_item n small is) ∙ append-nil (group_of g n) ∙ own_group n

pub reduced_by_groups : (g h : Graph) → ((n : ℕ) → n < 256 → get_or (lists h.nodes) n [] ≡ Group n ∷ [])
    → ((n : ℕ) → n < 256 → HasEachOnce (triggered g n) (get_or (lists h.groups) n [])) → IsReduced g h
reduced_by_groups g h nodes groups = record {
  same = λ n. (each n).same;
  once = λ n. (each n).once;
  items = λ n. elim (cases_lt n 256) [
    | inl small ↦ let one : length (items_of h n) ≡ 1 = ap length (own_item h n small (nodes n small)) in omega arith
    | inr past ↦ let none : length (items_of h n) ≡ 0 = ap length (no_items h n past) in omega arith
  ];
}
  where
    each : (n : ℕ) → HasEachOnce (triggered g n) (triggered h n)
    each n = elim (cases_lt n 256) [
      | inl small ↦ subst (HasEachOnce (triggered g n)) (sym (own_triggers h n small (nodes n small))) (groups n small)
      | inr past ↦ subst (λ (l : List ℕ). HasEachOnce l (triggered h n)) (sym (no_triggers g n past))
          (subst (HasEachOnce []) (sym (no_triggers h n past)) (record { same = λ k. (λ is. is, λ is. is); once = tt }))
    ]

-- the rows of the nodes below a node
abbrev pub AreRows : (ℕ → List ℕ) → List (List ℕ) → ℕ → Type 0
AreRows next rows i = (length rows ≡ i) × ((n : ℕ) → n < i → HasEachOnce (next n) (get_or rows n []))

row_more : (next : ℕ → List ℕ) (rows : List (List ℕ)) (row : List ℕ) (i : ℕ) → HasEachOnce (next i) row → AreRows next rows i → AreRows next (rows ++ row ∷ []) (i + 1)
row_more next rows row i same are = (
  length_push rows row ∙ ap (λ (n : ℕ). n + 1) are.0,
  below_more _ _
      (λ n small. subst (HasEachOnce (next n)) (sym (get_or_append_left rows (row ∷ []) [] n (omega (arith, small, are.0)))) (are.1 n small))
      (subst (HasEachOnce (next i)) (sym (get_or_push rows row [] i are.0)) same),
)

pub rows_more : {A : Type 0} (next : ℕ → List ℕ) (before after : Vec (Vec ℕ A) A) (row : Vec ℕ A) (i : ℕ) → after.items ≡ before.items ++ row ∷ [] → HasEachOnce (next i) row.items
    → AreRows next (lists before) i → AreRows next (lists after) (i + 1)
rows_more {A} next before after row i made same are =
    let is : lists after ≡ lists before ++ row.items ∷ [] = ap (map (λ (v : Vec ℕ A). v.items)) made ∙ map_push (λ (v : Vec ℕ A). v.items) before.items row in
    subst (λ (rows : List (List ℕ)). AreRows next rows (i + 1)) (sym is) (row_more next (lists before) row.items i same are)

-- ---- circles along the same triggers

swapped : (next other : ℕ → List ℕ) → HaveSameTriggers next other → HaveSameTriggers other next
swapped next other same n k = ((same n k).1, (same n k).0)

same_path : (next other : ℕ → List ℕ) → HaveSameTriggers next other → (ns : List ℕ) → IsPath next ns → IsPath other ns
same_path next other same [] is = tt
same_path next other same (m ∷ []) is = tt
same_path next other same (m ∷ n ∷ ns) is = ((same m n).0 is.0, same_path next other same (n ∷ ns) is.1)

same_circle : (next other : ℕ → List ℕ) → HaveSameTriggers next other → (ns : List ℕ) → IsCircle next ns → IsCircle other ns
same_circle next other same [] is = absurd is
same_circle next other same (n ∷ ns) is = same_path next other same ((n ∷ ns) ++ n ∷ []) is

same_none : (next other : ℕ → List ℕ) → HaveSameTriggers next other → HasNoCircle next → HasNoCircle other
same_none next other same none path circle = none path (same_circle other next (swapped next other same) path circle)

same_least : (next other : ℕ → List ℕ) → HaveSameTriggers next other → (n : ℕ) → IsLeastOnCircles next n → IsLeastOnCircles other n
same_least next other same n least path circle = least path (same_circle other next (swapped next other same) path circle)

same_without : (ms : List ℕ) (next other : ℕ → List ℕ) → HaveSameTriggers next other → HaveSameTriggers (without ms next) (without ms other)
same_without ms next other same n = at (list_any (λ m. eqb n m) ms)
  where
    at : (b : Bool) → HaveSameMembers (cond b [] (next n)) (cond b [] (other n))
    at true k = (λ is. is, λ is. is)
    at false k = same n k

same_circles : (found : List Circle) (next other : ℕ → List ℕ) → HaveSameTriggers next other → AreCircles next found → AreCircles other found
same_circles [] next other same none = same_none next other same none
same_circles (c ∷ others) next other same are = (
  record {
    circle = same_circle next other same c.path.items are.0.circle;
    once = are.0.once;
    least = same_least next other same (get_or c.path.items 0 0) are.0.least;
  },
  same_circles others (without c.path.items next) (without c.path.items other) (same_without c.path.items next other same) are.1,
)

-- the circles of a graph are those of each graph with the same triggers
pub same_circles_back : (next other : ℕ → List ℕ) (found : List Circle) → HaveSameTriggers next other → AreCircles other found → AreCircles next found
same_circles_back next other found same are = same_circles found other next (swapped next other same) are
