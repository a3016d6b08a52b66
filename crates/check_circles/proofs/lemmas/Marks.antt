-- Marks of nodes, one list of nodes after the other.
use Rattle.std.proofs.Common.{◌≡◌, ◌≢◌, ℕ, ◌+◌, ◌<◌, ◌≤◌, Bool, true, false, ◌⊎◌, inl, inr, List, [], ◌∷◌, ◌++◌, length, get_or, set, drop, replicate, Vec, sym, ◌∙◌, subst, arith, below_more, get_or-set_same, get_or-set_other}
use Rattle.std.proofs.lemmas.Bool.{cases_eq, cases_lt}
use Rattle.std.proofs.lemmas.List.{at_drop_more, at_drop_all, get_or_past, get_or-replicate, length-replicate}
use Rattle.std.proofs.lemmas.List.Elements.{Contains-append_left, Contains-append_right, Contains-append_cases, Contains-push, Contains-push_cases}
use Rattle.std.specs.Prelude.{Contains, Result, IfOk}
use Rattle.std.specs.List.{flat_map}
use Rattle.vt_rank.specs.Paths.{IsDistinct}
use Rattle.vt_rank.proofs.Members.{Contains-nil, Contains-head, Contains-cons_cases, IsDistinct-push}
use Rattle.check_circles.proofs.lemmas.Results.{if_ok}
use Rattle.check_circles.specs.ReducedGraphs.{IsMarked, Marks, AreMarked, HaveSameMembers, HasEachOnce}

pub marked_one : (before : List Bool) (node : ℕ) → node < length before → Marks before (set before node true) (node ∷ [])
marked_one before node inside =
    let after = set before node true in
    let here : IsMarked after node = get_or-set_same before node true false inside in
    record {
      kept = λ n was.
          elim (cases_eq n node) as (λ _. IsMarked after n) [
            | inl same ↦ subst (λ (k : ℕ). IsMarked after k) (sym same) here
            | inr other ↦ let differs : n ≢ node = other in get_or-set_other before node n true false differs ∙ was
          ];
      there = λ n among.
          elim (Contains-cons_cases node n [] among) as (λ _. IsMarked after n) [
            | inl same ↦ subst (λ (k : ℕ). IsMarked after k) same here
            | inr none ↦ absurd (Contains-nil n none)
          ];
      only = λ n is.
          elim (cases_eq n node) as (λ _. IsMarked before n ⊎ Contains (node ∷ []) n) [
            | inl same ↦ inr (subst (λ (k : ℕ). Contains (node ∷ []) k) (sym same) (Contains-head node []))
            | inr other ↦ let differs : n ≢ node = other in inl (sym (get_or-set_other before node n true false differs) ∙ is)
          ];
    }

Marks-none : (marks : List Bool) → Marks marks marks []
Marks-none marks = record { kept = λ n is. is; there = λ n none. absurd (Contains-nil n none); only = λ n is. inl is }

Marks-join : (a b c : List Bool) (xs ys : List ℕ) → Marks a b xs → Marks b c ys → Marks a c (xs ++ ys)
Marks-join a b c xs ys first then_ = record {
  kept = λ n is. then_.kept n (first.kept n is);
  there = λ n among. elim (Contains-append_cases xs ys n among) as (λ _. IsMarked c n) [ inl early ↦ then_.kept n (first.there n early) | inr late ↦ then_.there n late ];
  only = λ n is.
      elim (then_.only n is) as (λ _. IsMarked a n ⊎ Contains (xs ++ ys) n) [
        | inl before ↦ elim (first.only n before) as (λ _. IsMarked a n ⊎ Contains (xs ++ ys) n) [ inl was ↦ inl was | inr early ↦ inr (Contains-append_left xs ys n early) ]
        | inr late ↦ inr (Contains-append_right xs ys n late)
      ];
}

-- the marking of the remaining nodes completes the marking of all nodes
pub record IsMarking {X : Type 0} (f : X → List ℕ) (xs : List X) (i : ℕ) (before now : List Bool) : Type 0 where
  pub size : length now ≡ 256
  pub rest : (after : List Bool) → Marks now after (flat_map f (drop i xs)) → Marks before after (flat_map f xs)

pub marking_begins : {X : Type 0} (f : X → List ℕ) (xs : List X) (marks : List Bool) → length marks ≡ 256 → IsMarking f xs 0 marks marks
marking_begins f xs marks size = record { size = size; rest = λ after all. all }

pub marking_more : {X : Type 0} (f : X → List ℕ) (xs : List X) (i : ℕ) (d : X) (before now next : List Bool) → i < length xs → length next ≡ 256 → IsMarking f xs i before now
    → Marks now next (f (get_or xs i d)) → IsMarking f xs (i + 1) before next
marking_more {X} f xs i d before now next inside size a step =
    let more = at_drop_more (flat_map f) xs i d inside in
    record {
      size = size;
      rest = λ after left. a.rest after (subst (Marks now after) (sym more) (Marks-join now next after (f (get_or xs i d)) (flat_map f (drop (i + 1) xs)) step left));
    }

pub marking_done : {X : Type 0} (f : X → List ℕ) (xs : List X) (i : ℕ) (before now : List Bool) → length xs ≤ i → IsMarking f xs i before now → Marks before now (flat_map f xs)
marking_done {X} f xs i before now past a =
    let none = at_drop_all (flat_map f) xs i past in
    a.rest now (subst (Marks now now) (sym none) (Marks-none now))

none_marked : (count n : ℕ) → IsMarked (replicate count false) n → ⊥
none_marked count n is =
    elim (cases_lt n count) [
      | inl inside ↦ let not : get_or (replicate count false) n false ≡ false = get_or-replicate count n false false inside in let never : false ≡ true = sym not ∙ is in absurd cc
      | inr past ↦
          let not : get_or (replicate count false) n false ≡ false = get_or_past (replicate count false) n false (omega (arith, past, length-replicate count false)) in
          let never : false ≡ true = sym not ∙ is in absurd cc
    ]

marked_are : (empty marks : List Bool) (nodes found : List ℕ) → ((n : ℕ) → IsMarked empty n → ⊥) → Marks empty marks nodes → AreMarked marks found → HasEachOnce nodes found
marked_are empty marks nodes found none a m = record {
  same = λ n. (
    λ among. (m.are n).0 (a.there n among),
    λ is. elim (a.only n ((m.are n).1 is)) as (λ _. Contains nodes n) [ inl was ↦ absurd (none n was) | inr among ↦ among ],
  );
  once = m.once;
}

-- the list of the nodes that were marked from nothing, if there was memory for it
pub marked_ok : {A E : Type 0} (marks : List Bool) (nodes : List ℕ) (made : Result (Vec ℕ A) E) → Marks (replicate 256 false) marks nodes
    → IfOk made (λ found. AreMarked marks found.items) → IfOk made (λ found. HasEachOnce nodes found.items)
marked_ok marks nodes made a are = if_ok made are (λ found is. marked_are (replicate 256 false) marks nodes found.items (none_marked 256) a is)

-- the marking of a list is that of one with the same members
pub marked_too : (before after : List Bool) (xs ys : List ℕ) → HaveSameMembers xs ys → Marks before after ys → Marks before after xs
marked_too before after xs ys same a = record {
  kept = a.kept;
  there = λ n among. a.there n ((same n).0 among);
  only = λ n is. elim (a.only n is) as (λ _. IsMarked before n ⊎ Contains xs n) [ inl was ↦ inl was | inr among ↦ inr ((same n).1 among) ];
}

-- the list has the marked nodes below a node, each once
pub record AreMarkedBelow (marks : List Bool) (node : ℕ) (nodes : List ℕ) : Type 0 where
  pub there : (n : ℕ) → n < node → IsMarked marks n → Contains nodes n
  pub only : (n : ℕ) → Contains nodes n → IsMarked marks n
  pub below : (n : ℕ) → Contains nodes n → n < node
  pub once : IsDistinct nodes

push_marked : (marks : List Bool) (node : ℕ) (nodes : List ℕ) → IsMarked marks node → AreMarkedBelow marks node nodes → AreMarkedBelow marks (node + 1) (nodes ++ node ∷ [])
push_marked marks node nodes is m = record {
  there = below_more _ _ (λ n less marked. Contains-append_left nodes (node ∷ []) n (m.there n less marked)) (λ _. Contains-push nodes node);
  only = λ n among.
      elim (Contains-push_cases nodes node n among) as (λ _. IsMarked marks n) [ inl early ↦ m.only n early | inr same ↦ subst (λ (k : ℕ). IsMarked marks k) same is ];
  below = λ n among.
      elim (Contains-push_cases nodes node n among) as (λ _. n < node + 1) [ inl early ↦ (let less = m.below n early in omega arith) | inr same ↦ omega arith ];
  once = IsDistinct-push nodes node m.once (λ among. let less = m.below node among in absurd (omega (arith, less)));
}

pub below_marked : (marks : List Bool) (node : ℕ) (nodes next : List ℕ) → IsMarked marks node → next ≡ nodes ++ node ∷ [] → AreMarkedBelow marks node nodes → AreMarkedBelow marks (node + 1) next
below_marked marks node nodes next is made m = subst (AreMarkedBelow marks (node + 1)) (sym made) (push_marked marks node nodes is m)

pub below_unmarked : (marks : List Bool) (node : ℕ) (nodes next : List ℕ) → get_or marks node false ≡ false → next ≡ nodes → AreMarkedBelow marks node nodes → AreMarkedBelow marks (node + 1) next
below_unmarked marks node nodes next not same m = subst (AreMarkedBelow marks (node + 1)) (sym same) (record {
  there = below_more _ _ m.there (λ is. let never : false ≡ true = sym not ∙ is in absurd cc);
  only = m.only;
  below = λ n among. let less = m.below n among in omega arith;
  once = m.once;
})
