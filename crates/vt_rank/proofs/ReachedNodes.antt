-- The nodes of some rows, gathered one row after the other.
use Rattle.std.proofs.Common.{◌≡◌, ℕ, ◌+◌, ◌<◌, ◌≤◌, ◌↔◌, ◌⊎◌, inl, inr, List, length, get_or, sym, subst, ◌∙◌, arith}
use Rattle.std.proofs.lemmas.Bool.{cases_eq}
use Rattle.std.proofs.lemmas.List.{get_or_default}
use Rattle.std.proofs.lemmas.List.Elements.{Contains-get_or}
use Rattle.std.specs.Prelude.{Contains}
use Rattle.vt_rank.specs.declared.node_set.NodeSet.{NodeSet}
use Rattle.vt_rank.specs.NodeSets.{IsIn, Adds, Reaches, row}

-- one of the nodes, or in the row of one of them
abbrev pub IsGathered : List NodeSet → List ℕ → ℕ → Type 0
IsGathered rows nodes n = Contains nodes n ⊎ ((m : ℕ) × Contains nodes m × Reaches rows m n)

-- the set has the nodes, and those of the rows of the nodes below an index
pub record IsGathering (rows : List NodeSet) (nodes : List ℕ) (i : ℕ) (set : NodeSet) : Type 0 where
  pub there : (n : ℕ) → Contains nodes n → IsIn set n
  pub done : (k n : ℕ) → k < i → Reaches rows (get_or nodes k 0) n → IsIn set n
  pub only : (n : ℕ) → IsIn set n → IsGathered rows nodes n

pub gathering_begins : (rows : List NodeSet) (nodes : List ℕ) (empty set : NodeSet) → ((n : ℕ) → IsIn empty n → ⊥) → Adds empty set nodes → IsGathering rows nodes 0 set
gathering_begins rows nodes empty set none a = record {
  there = a.there;
  done = λ k n below. absurd (omega (arith, below));
  only = λ n is. elim (a.only n is) as (λ _. IsGathered rows nodes n) [ inl was ↦ absurd (none n was) | inr among ↦ inl among ];
}

pub gathering_more : (rows : List NodeSet) (nodes : List ℕ) (i : ℕ) (before after others : NodeSet) → i < length nodes → others ≡ row rows (get_or nodes i 0) → IsGathering rows nodes i before
    → ((n : ℕ) → IsIn before n → IsIn after n) → ((n : ℕ) → IsIn others n → IsIn after n) → ((n : ℕ) → IsIn after n → IsIn before n ⊎ IsIn others n) → IsGathering rows nodes (i + 1) after
gathering_more rows nodes i before after others inside is g kept there only = record {
  there = λ n among. kept n (g.there n among);
  done = λ k n below reaches.
      elim (cases_eq k i) as (λ _. IsIn after n) [
        | inl same ↦ there n (subst (λ (s : NodeSet). IsIn s n) (sym is) (subst (λ (j : ℕ). Reaches rows (get_or nodes j 0) n) same reaches))
        | inr other ↦ kept n (g.done k n (omega (arith, below, other)) reaches)
      ];
  only = λ n now.
      elim (only n now) as (λ _. IsGathered rows nodes n) [
        | inl was ↦ g.only n was
        | inr new ↦ inr (get_or nodes i 0, Contains-get_or nodes i 0 inside, subst (λ (s : NodeSet). IsIn s n) is new)
      ];
}

pub gathered : (rows : List NodeSet) (nodes : List ℕ) (i : ℕ) (set : NodeSet) → length nodes ≤ i → IsGathering rows nodes i set → (n : ℕ) → IsIn set n ↔ IsGathered rows nodes n
gathered rows nodes i set past g n = (
  g.only n,
  λ is. elim is as (λ _. IsIn set n) [
    | inl among ↦ g.there n among
    | inr through ↦
        let place = through.1 in
        g.done place.0 n (omega (arith, place.1, past)) (subst (λ (m : ℕ). Reaches rows m n) (sym (at_place nodes through.0 place)) through.2)
  ],
)
  where
    at_place : (nodes : List ℕ) (m : ℕ) (h : Contains nodes m) → get_or nodes h.0 0 ≡ m
    at_place nodes m h = get_or_default nodes h.0 0 m h.1 ∙ h.2
