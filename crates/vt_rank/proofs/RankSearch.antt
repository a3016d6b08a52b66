-- Each step of the search that ranks the nodes keeps its invariant.
use Rattle.std.proofs.Common.{◌≡◌, ◌≢◌, ℕ, ◌+◌, ◌<◌, ◌≤◌, ◌⊎◌, inl, inr, List, [], ◌∷◌, ◌++◌, length, set, sym, ◌∙◌, subst, ap, take, arith, slice_index, length-append, get_or-set_other, get_or-set_same}
use Rattle.std.specs.List.{Contains, flat_map}
use Rattle.std.proofs.lemmas.Bool.{cases_lt}
use Rattle.std.proofs.lemmas.List.{get_or_past, length-set, length-take}
use Rattle.std.proofs.lemmas.List.Elements.{Contains-append_left, Contains-push, Contains-push_cases}
use Rattle.vt_rank.specs.declared.graph.Graph.{Graph}
use Rattle.vt_rank.specs.declared.graph.Item.{Item}
use Rattle.vt_rank.specs.declared.node_set.NodeSet.{NodeSet}
use Rattle.vt_rank.specs.declared.search.Search.{Search}
use Rattle.vt_rank.specs.Graphs.{items_of, nodes_of, lists, triggered}
use Rattle.vt_rank.specs.NodeSets.{IsIn, Adds, row, AreTargets}
use Rattle.vt_rank.specs.Paths.{Triggers, IsPath, IsOnCircle, AreRanks}
use Rattle.vt_rank.specs.Searches.{IsSearch}
use Rattle.vt_rank.proofs.Members.{Contains-nil, IsDistinct-push, IsDistinct-pop}
use Rattle.vt_rank.proofs.NodeInsertion.{marked_here, marked_before, absent-insert, absent-none}
use Rattle.vt_rank.proofs.PathsAndCircles.{IsPath-front, IsPath-push, closed_path}

pub search_begins : (g : Graph) (s : Search) → ((n : ℕ) → IsIn s.ranked n → ⊥) → ((n : ℕ) → IsIn s.seen n → ⊥) → length s.ranks ≡ 256 → length s.order ≡ 256 → s.count ≡ 0 → IsSearch g s []
search_begins g s unranked unseen size places count = record {
  falls = λ m n ranked. absurd (unranked m ranked);
  below = λ n ranked. absurd (unranked n ranked);
  seen = λ n seen. absurd (unseen n seen);
  on_path = λ n none. absurd (Contains-nil n none);
  walk = tt;
  distinct = tt;
  ordered = λ n ranked. absurd (unranked n ranked);
  size = size;
  places = places;
  bound = omega (arith, count, absent-none s.seen unseen);
}

-- the invariant after an unseen node is appended to the path
pub search_pushed : (g : Graph) (s : Search) (path : List ℕ) (n : ℕ) (seen : NodeSet) → IsSearch g s path → IsPath (triggered g) (path ++ n ∷ []) → (IsIn s.seen n → ⊥) → (IsIn s.ranked n → ⊥) → n < 256 → Adds s.seen seen (n ∷ []) → IsSearch g (record s { seen = seen }) (path ++ n ∷ [])
search_pushed g s path n seen h longer unseen unranked small a = record {
  falls = h.falls;
  below = h.below;
  seen = λ m marked.
      elim (marked_before s.seen seen n m a marked) as (λ _. IsIn s.ranked m ⊎ Contains (path ++ n ∷ []) m) [
        | inl before ↦ elim (h.seen m before) as (λ _. IsIn s.ranked m ⊎ Contains (path ++ n ∷ []) m) [ inl ranked ↦ inl ranked | inr on_path ↦ inr (Contains-append_left path (n ∷ []) m on_path) ]
        | inr same ↦ inr (subst (λ (k : ℕ). Contains (path ++ n ∷ []) k) same (Contains-push path n))
      ];
  on_path = λ m on_path.
      elim (Contains-push_cases path n m on_path) as (λ _. IsIn seen m × (IsIn s.ranked m → ⊥)) [
        | inl before ↦ let old = h.on_path m before in (a.kept m old.0, old.1)
        | inr same ↦ (subst (λ (k : ℕ). IsIn seen k) same (marked_here s.seen seen n a), λ ranked. unranked (subst (λ (k : ℕ). IsIn s.ranked k) (sym same) ranked))
      ];
  walk = longer;
  distinct = IsDistinct-push path n h.distinct (λ on_path. unseen (h.on_path n on_path).0);
  ordered = h.ordered;
  size = h.size;
  places = h.places;
  bound = simp length-append (omega (arith, h.bound, absent-insert s.seen seen n a small unseen));
}

-- the invariant after the last node of the path gets the next rank, if all nodes triggered by it have ranks
pub search_ranked : (g : Graph) (s : Search) (front : List ℕ) (node : ℕ) (ranked : NodeSet) → IsSearch g s (front ++ node ∷ []) → ((n : ℕ) → Triggers (triggered g) node n → IsIn s.ranked n) → Adds s.ranked ranked (node ∷ []) → node < length s.ranks
    → IsSearch g (record s { ranks = set s.ranks node s.count; order = set s.order s.count node; ranked = ranked; count = s.count + 1 }) front
search_ranked g s front node ranked h all a here =
    let on_path = h.on_path node (Contains-push front node) in
    let apart = IsDistinct-pop front node h.distinct in
    let other = λ (n : ℕ) (was : IsIn s.ranked n) (same : n ≡ node). on_path.1 (subst (λ (k : ℕ). IsIn s.ranked k) same was) in
    let kept = λ (n : ℕ) (was : IsIn s.ranked n). get_or-set_other s.ranks node n s.count 0 (other n was) in
    let now : slice_index (set s.ranks node s.count) node ≡ s.count = get_or-set_same s.ranks node s.count 0 here in
    let inside : s.count < length s.order = omega (arith, h.bound, h.places, length-append front (node ∷ [])) in
    record {
      falls = λ m n marked t.
          elim (marked_before s.ranked ranked node m a marked) as (λ _. IsIn ranked n × (slice_index (set s.ranks node s.count) n < slice_index (set s.ranks node s.count) m)) [
            | inl before ↦ let old = h.falls m n before t in (a.kept n old.0, omega (arith, old.1, kept n old.0, kept m before))
            | inr same ↦
                let target = all n (subst (λ (k : ℕ). Triggers (triggered g) k n) (sym same) t) in
                let value : slice_index (set s.ranks node s.count) m ≡ s.count = subst (λ (k : ℕ). slice_index (set s.ranks node s.count) k ≡ s.count) same now in
                (a.kept n target, omega (arith, kept n target, h.below n target, value))
          ];
      below = λ n marked.
          elim (marked_before s.ranked ranked node n a marked) as (λ _. slice_index (set s.ranks node s.count) n < s.count + 1) [
            | inl before ↦ omega (arith, kept n before, h.below n before)
            | inr same ↦ let value : slice_index (set s.ranks node s.count) n ≡ s.count = subst (λ (k : ℕ). slice_index (set s.ranks node s.count) k ≡ s.count) same now in omega (arith, value)
          ];
      seen = λ n seen.
          elim (h.seen n seen) as (λ _. IsIn ranked n ⊎ Contains front n) [
            | inl was ↦ inl (a.kept n was)
            | inr was ↦
                elim (Contains-push_cases front node n was) as (λ _. IsIn ranked n ⊎ Contains front n) [
                  | inl still ↦ inr still
                  | inr same ↦ inl (subst (λ (k : ℕ). IsIn ranked k) same (marked_here s.ranked ranked node a))
                ]
          ];
      on_path = λ n still.
          let old = h.on_path n (Contains-append_left front (node ∷ []) n still) in
          (old.0, λ marked. elim (marked_before s.ranked ranked node n a marked) as (λ _. ⊥) [ inl before ↦ old.1 before | inr same ↦ apart.1 (subst (λ (k : ℕ). Contains front k) (sym same) still) ]);
      walk = IsPath-front g front (node ∷ []) h.walk;
      distinct = apart.0;
      ordered = λ n marked.
          elim (marked_before s.ranked ranked node n a marked) as (λ _. slice_index (set s.order s.count node) (slice_index (set s.ranks node s.count) n) ≡ n) [
            | inl before ↦
                let apart : slice_index s.ranks n ≢ s.count = λ same. omega (arith, same, h.below n before) in
                ap (slice_index (set s.order s.count node)) (kept n before) ∙ get_or-set_other s.order s.count (slice_index s.ranks n) node 0 apart ∙ h.ordered n before
            | inr same ↦
                subst (λ (k : ℕ). slice_index (set s.order s.count node) (slice_index (set s.ranks node s.count) k) ≡ k) same
                (ap (slice_index (set s.order s.count node)) now ∙ get_or-set_same s.order s.count node 0 inside)
          ];
      size = length-set s.ranks node s.count ∙ h.size;
      places = length-set s.order s.count node ∙ h.places;
      bound = omega (arith, h.bound, length-append front (node ∷ []));
    }

pub search_short : (g : Graph) (s : Search) (path : List ℕ) (n : ℕ) (seen : NodeSet) → IsSearch g s path → (IsIn s.seen n → ⊥) → n < 256 → Adds s.seen seen (n ∷ []) → length path < 256
search_short g s path n seen h unseen small a = omega (arith, h.bound, absent-insert s.seen seen n a small unseen)

-- The invariant of a visit that begins at a node.
pub record IsVisit (g : Graph) (start : ℕ) (before now : Search) (path : List ℕ) : Type 0 where
  pub search : IsSearch g now path
  pub started : IsIn now.ranked start ⊎ Contains path start
  pub kept : (n : ℕ) → IsIn before.ranked n → IsIn now.ranked n

-- ---- the steps of a visit, by the contracts of its calls

pub target_is : (g : Graph) (rows : List NodeSet) (node i n : ℕ) → AreTargets g rows → i ≡ node → IsIn (row rows i) n → Triggers (triggered g) node n
target_is g rows node i n are at is = (are node n).0 (subst (λ (k : ℕ). IsIn (row rows k) n) at is)

pub targets_in : (g : Graph) (rows : List NodeSet) (node i n : ℕ) → AreTargets g rows → i ≡ node → Triggers (triggered g) node n → IsIn (row rows i) n
targets_in g rows node i n are at t = subst (λ (k : ℕ). IsIn (row rows k) n) (sym at) ((are node n).1 t)

pub visit_begins : (g : Graph) (start : ℕ) (s : Search) (seen : NodeSet) (front path : List ℕ)
    → IsSearch g s [] → (IsIn s.ranked start → ⊥) → start < 256 → Adds s.seen seen (start ∷ []) → front ≡ [] → path ≡ front ++ start ∷ []
    → IsVisit g start s (record s { seen = seen }) path
visit_begins g start s seen front path h unranked small a none is_path =
    let is : path ≡ start ∷ [] = is_path ∙ ap (λ (xs : List ℕ). xs ++ start ∷ []) none in
    let unseen = λ (was : IsIn s.seen start). elim (h.seen start was) as (λ _. ⊥) [ inl ranked ↦ unranked ranked | inr on_path ↦ Contains-nil start on_path ] in
    let pushed = search_pushed g s [] start seen h tt unseen unranked small a in
    record {
      search = subst (λ (p : List ℕ). IsSearch g (record s { seen = seen }) p) (sym is) pushed;
      started = inr (subst (λ (p : List ℕ). Contains p start) (sym is) (Contains-push [] start));
      kept = λ n ranked. ranked;
    }

pub visit_pushed : (g : Graph) (start : ℕ) (before s : Search) (path front : List ℕ) (node next : ℕ) (seen : NodeSet) (after later : List ℕ)
    → IsVisit g start before s path → path ≡ front ++ node ∷ [] → Triggers (triggered g) node next → (IsIn s.ranked next → ⊥) → (IsIn s.seen next → ⊥) → next < 256 → Adds s.seen seen (next ∷ []) → after ≡ front ++ node ∷ [] → later ≡ after ++ next ∷ []
    → IsVisit g start before (record s { seen = seen }) later
visit_pushed g start before s path front node next seen after later v parts t unranked unseen small a is_after is_later =
    let is : later ≡ path ++ next ∷ [] = is_later ∙ ap (λ (xs : List ℕ). xs ++ next ∷ []) (is_after ∙ sym parts) in
    let walk : IsPath (triggered g) (path ++ next ∷ []) = subst (λ (p : List ℕ). IsPath (triggered g) (p ++ next ∷ [])) (sym parts) (IsPath-push g front node next (subst (IsPath (triggered g)) parts v.search.walk) t) in
    let pushed = search_pushed g s path next seen v.search walk unseen unranked small a in
    record {
      search = subst (λ (p : List ℕ). IsSearch g (record s { seen = seen }) p) (sym is) pushed;
      started = elim v.started as (λ _. IsIn s.ranked start ⊎ Contains later start) [ inl ranked ↦ inl ranked | inr on_path ↦ inr (subst (λ (p : List ℕ). Contains p start) (sym is) (Contains-append_left path (next ∷ []) start on_path)) ];
      kept = v.kept;
    }

pub visit_short : (g : Graph) (start : ℕ) (before s : Search) (path front : List ℕ) (node next : ℕ) (seen : NodeSet) (after : List ℕ)
    → IsVisit g start before s path → path ≡ front ++ node ∷ [] → (IsIn s.seen next → ⊥) → next < 256 → Adds s.seen seen (next ∷ []) → after ≡ front ++ node ∷ [] → length after < 256
visit_short g start before s path front node next seen after v parts unseen small a is_after =
    let same : length after ≡ length path = ap length (is_after ∙ sym parts) in
    omega (arith, same, search_short g s path next seen v.search unseen small a)

pub visit_ranked : (g : Graph) (start : ℕ) (before s : Search) (path front : List ℕ) (node i : ℕ) (ranked : NodeSet)
    → IsVisit g start before s path → path ≡ front ++ node ∷ [] → ((n : ℕ) → Triggers (triggered g) node n → IsIn s.ranked n) → i ≡ node → node < length s.ranks → Adds s.ranked ranked (node ∷ [])
    → IsVisit g start before (record s { ranks = set s.ranks i s.count; order = set s.order s.count node; ranked = ranked; count = s.count + 1 }) front
visit_ranked g start before s path front node i ranked v parts all at here a =
    let h = subst (IsSearch g s) parts v.search in
    let done = search_ranked g s front node ranked h all a here in
    record {
      search = subst (λ (k : ℕ). IsSearch g (record s { ranks = set s.ranks k s.count; order = set s.order s.count node; ranked = ranked; count = s.count + 1 }) front) (sym at) done;
      started = elim v.started as (λ _. IsIn ranked start ⊎ Contains front start) [
        | inl was ↦ inl (a.kept start was)
        | inr on_path ↦
            elim (Contains-push_cases front node start (subst (λ (p : List ℕ). Contains p start) parts on_path)) as (λ _. IsIn ranked start ⊎ Contains front start) [
              | inl still ↦ inr still
              | inr same ↦ inl (subst (λ (k : ℕ). IsIn ranked k) same (marked_here s.ranked ranked node a))
            ]
      ];
      kept = λ n was. a.kept n (v.kept n was);
    }

pub visit_circle : (g : Graph) (start : ℕ) (before s : Search) (path front : List ℕ) (node next : ℕ)
    → IsVisit g start before s path → path ≡ front ++ node ∷ [] → Triggers (triggered g) node next → (IsIn s.ranked next → ⊥) → IsIn s.seen next → IsOnCircle g next
visit_circle g start before s path front node next v parts t unranked seen =
    elim (v.search.seen next seen) as (λ _. IsOnCircle g next) [
      | inl ranked ↦ absurd (unranked ranked)
      | inr on_path ↦ closed_path g front node next (subst (IsPath (triggered g)) parts v.search.walk) t (subst (λ (p : List ℕ). Contains p next) parts on_path)
    ]

-- ---- the end of the search

pub items_past : (g : Graph) (m : ℕ) → 256 ≤ m → items_of g m ≡ []
unfolding items_of
items_past g m past = get_or_past (take 256 (lists g.nodes)) m [] (omega (arith, length-take 256 (lists g.nodes)))

pub none_past : (g : Graph) (m n : ℕ) → 256 ≤ m → Triggers (triggered g) m n → ⊥
none_past g m n past t = Contains-nil n (subst (λ (items : List Item). Contains (flat_map (nodes_of g) items) n) (items_past g m past) t)

pub all_ranked : (g : Graph) (s : Search) → IsSearch g s [] → ((n : ℕ) → n < 256 → IsIn s.ranked n) → AreRanks g s.ranks
all_ranked g s h ranked = record {
  falls = λ m n t.
      elim (cases_lt m 256) as (λ _. slice_index s.ranks n < slice_index s.ranks m) [
        | inl within ↦ (h.falls m n (ranked m within) t).1
        | inr past ↦ absurd (none_past g m n past t)
      ];
  small = λ n.
      elim (cases_lt n 256) as (λ _. slice_index s.ranks n < 256) [
        | inl within ↦ omega (arith, h.below n (ranked n within), h.bound)
        | inr past ↦ omega (arith, get_or_past s.ranks n 0 (omega (arith, h.size)))
      ];
}
