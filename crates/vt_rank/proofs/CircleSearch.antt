-- The invariant of the search for a circle through a node.
use Rattle.std.proofs.Common.{◌≡◌, ◌≢◌, ℕ, ◌+◌, ◌*◌, ◌<◌, ◌≤◌, ◌⊎◌, inl, inr, List, [], ◌∷◌, ◌++◌, length, refl, sym, ◌∙◌, subst, ap, arith, slice_index, length-append}
use Rattle.std.specs.List.{Contains}
use Rattle.std.proofs.lemmas.List.{get_or_append_left}
use Rattle.std.proofs.lemmas.List.Elements.{Contains-append_left, Contains-push, Contains-push_cases}
use Rattle.vt_rank.specs.declared.graph.Graph.{Graph}
use Rattle.vt_rank.specs.declared.node_set.NodeSet.{NodeSet}
use Rattle.vt_rank.specs.Graphs.{triggered}
use Rattle.vt_rank.specs.NodeSets.{IsIn, Adds, absent}
use Rattle.vt_rank.specs.Paths.{Triggers, IsPath, IsCircle, IsDistinct}
use Rattle.vt_rank.proofs.Members.{Contains-nil, Contains-head, Contains-cons_cases, IsDistinct-push, IsDistinct-pop}
use Rattle.vt_rank.proofs.NodeInsertion.{marked_here, marked_before, absent-insert, absent-none, absent-some}
use Rattle.vt_rank.proofs.PathsAndCircles.{IsPath-front, IsPath-push}

-- The nodes triggered by the start or by a seen node are seen, unless that node is on the path. The nodes of the
-- path are distinct.
pub record IsQuest (g : Graph) (start : ℕ) (seen : NodeSet) (path : List ℕ) : Type 0 where
  pub closed : (m n : ℕ) → (start ≡ m) ⊎ IsIn seen m → Triggers (triggered g) m n → IsIn seen n ⊎ Contains path m
  pub unseen : IsIn seen start → ⊥
  pub walk : IsPath (triggered g) path
  pub on_path : (n : ℕ) → Contains path n → (start ≡ n) ⊎ IsIn seen n
  pub distinct : IsDistinct path
  pub first : 0 < length path → slice_index path 0 ≡ start
  pub bound : length path + absent seen ≤ 257

pub quest_begins : (g : Graph) (start : ℕ) (seen : NodeSet) → ((n : ℕ) → IsIn seen n → ⊥) → IsQuest g start seen (start ∷ [])
quest_begins g start seen none = record {
  closed = λ m n known t. elim known as (λ _. IsIn seen n ⊎ Contains (start ∷ []) m) [
    | inl same ↦ inr (subst (λ (k : ℕ). Contains (start ∷ []) k) same (Contains-head start []))
    | inr marked ↦ absurd (none m marked)
  ];
  unseen = none start;
  walk = tt;
  on_path = λ n among. elim (Contains-cons_cases start n [] among) as (λ _. (start ≡ n) ⊎ IsIn seen n) [ inl same ↦ inl same | inr none_left ↦ absurd (Contains-nil n none_left) ];
  distinct = (Contains-nil start, tt);
  first = λ _. refl;
  bound = omega (arith, absent-none seen none);
}

pub quest_pushed : (g : Graph) (start : ℕ) (seen : NodeSet) (path : List ℕ) (next : ℕ) (more : NodeSet) → IsQuest g start seen path → IsPath (triggered g) (path ++ next ∷ []) → 0 < length path → (IsIn seen next → ⊥) → next ≢ start → next < 256 → Adds seen more (next ∷ []) → IsQuest g start more (path ++ next ∷ [])
quest_pushed g start seen path next more q longer some unseen other small a = record {
  closed = λ m n known t.
      let kept = λ (old : (start ≡ m) ⊎ IsIn seen m). elim (q.closed m n old t) as (λ _. IsIn more n ⊎ Contains (path ++ next ∷ []) m) [ inl marked ↦ inl (a.kept n marked) | inr on_path ↦ inr (Contains-append_left path (next ∷ []) m on_path) ] in
      elim known as (λ _. IsIn more n ⊎ Contains (path ++ next ∷ []) m) [
        | inl same ↦ kept (inl same)
        | inr marked ↦
            elim (marked_before seen more next m a marked) as (λ _. IsIn more n ⊎ Contains (path ++ next ∷ []) m) [
              | inl before ↦ kept (inr before)
              | inr same ↦ inr (subst (λ (k : ℕ). Contains (path ++ next ∷ []) k) same (Contains-push path next))
            ]
      ];
  unseen = λ marked. elim (marked_before seen more next start a marked) as (λ _. ⊥) [ inl before ↦ q.unseen before | inr same ↦ other same ];
  walk = longer;
  on_path = λ n among.
      elim (Contains-push_cases path next n among) as (λ _. (start ≡ n) ⊎ IsIn more n) [
        | inl before ↦ elim (q.on_path n before) as (λ _. (start ≡ n) ⊎ IsIn more n) [ inl same ↦ inl same | inr marked ↦ inr (a.kept n marked) ]
        | inr same ↦ inr (subst (λ (k : ℕ). IsIn more k) same (marked_here seen more next a))
      ];
  distinct = IsDistinct-push path next q.distinct (λ among. elim (q.on_path next among) as (λ _. ⊥) [ inl same ↦ other (sym same) | inr marked ↦ unseen marked ]);
  first = λ _. get_or_append_left path (next ∷ []) 0 0 some ∙ q.first some;
  bound = simp length-append (omega (arith, q.bound, absent-insert seen more next a small unseen));
}

pub quest_popped : (g : Graph) (start : ℕ) (seen : NodeSet) (front : List ℕ) (node : ℕ) → IsQuest g start seen (front ++ node ∷ []) → ((n : ℕ) → Triggers (triggered g) node n → IsIn seen n) → IsQuest g start seen front
quest_popped g start seen front node q all = record {
  closed = λ m n known t.
      elim (q.closed m n known t) as (λ _. IsIn seen n ⊎ Contains front m) [
        | inl marked ↦ inl marked
        | inr on_path ↦
            elim (Contains-push_cases front node m on_path) as (λ _. IsIn seen n ⊎ Contains front m) [
              | inl still ↦ inr still
              | inr same ↦ inl (all n (subst (λ (k : ℕ). Triggers (triggered g) k n) (sym same) t))
            ]
      ];
  unseen = q.unseen;
  walk = IsPath-front g front (node ∷ []) q.walk;
  on_path = λ n still. q.on_path n (Contains-append_left front (node ∷ []) n still);
  distinct = (IsDistinct-pop front node q.distinct).0;
  first = λ some. sym (get_or_append_left front (node ∷ []) 0 0 some) ∙ q.first (simp length-append (omega arith));
  bound = omega (arith, q.bound, length-append front (node ∷ []));
}

-- the path has spare capacity for one more node, for the start is not seen
pub quest_short : (g : Graph) (start : ℕ) (seen : NodeSet) (path : List ℕ) (next : ℕ) (more : NodeSet) → IsQuest g start seen path → (IsIn seen next → ⊥) → next ≢ start → next < 256 → start < 256 → Adds seen more (next ∷ []) → length path < 256
quest_short g start seen path next more q unseen other small also a =
    let still = λ (marked : IsIn more start). elim (marked_before seen more next start a marked) as (λ _. ⊥) [ inl before ↦ q.unseen before | inr same ↦ other same ] in
    omega (arith, q.bound, absent-insert seen more next a small unseen, absent-some more start also still)

from_first : (g : Graph) (start : ℕ) (path : List ℕ) → 0 < length path → slice_index path 0 ≡ start → IsPath (triggered g) (path ++ start ∷ []) → IsCircle (triggered g) path
from_first g start [] some first h = absurd (omega arith)
from_first g start (x ∷ xs) some first h = subst (λ (k : ℕ). IsPath (triggered g) ((x ∷ xs) ++ k ∷ [])) (sym first) h

pub quest_found : (g : Graph) (start : ℕ) (seen : NodeSet) (front : List ℕ) (node : ℕ) → IsQuest g start seen (front ++ node ∷ []) → Triggers (triggered g) node start → IsCircle (triggered g) (front ++ node ∷ [])
quest_found g start seen front node q t =
    let some : 0 < length (front ++ node ∷ []) = simp length-append (omega arith) in
    from_first g start (front ++ node ∷ []) some (q.first some) (IsPath-push g front node start q.walk t)

marked_along : (g : Graph) (start : ℕ) (seen : NodeSet) → IsQuest g start seen [] → (x : ℕ) (xs : List ℕ) (y : ℕ) → IsIn seen x → IsPath (triggered g) ((x ∷ xs) ++ y ∷ []) → IsIn seen y
marked_along g start seen q x [] y marked h = elim (q.closed x y (inr marked) h.0) as (λ _. IsIn seen y) [ inl is ↦ is | inr none ↦ absurd (Contains-nil x none) ]
marked_along g start seen q x (z ∷ zs) y marked h =
    elim (q.closed x z (inr marked) h.0) as (λ _. IsIn seen y) [ inl is ↦ marked_along g start seen q z zs y is h.1 | inr none ↦ absurd (Contains-nil x none) ]

pub quest_ends : (g : Graph) (start : ℕ) (seen : NodeSet) → IsQuest g start seen [] → (rest : List ℕ) → IsCircle (triggered g) (start ∷ rest) → ⊥
quest_ends g start seen q [] h = elim (q.closed start start (inl refl) h.0) as (λ _. ⊥) [ inl is ↦ q.unseen is | inr none ↦ Contains-nil start none ]
quest_ends g start seen q (z ∷ zs) h =
    elim (q.closed start z (inl refl) h.0) as (λ _. ⊥) [ inl is ↦ q.unseen (marked_along g start seen q z zs start is h.1) | inr none ↦ Contains-nil start none ]

-- ---- the steps of the search, by the contracts of its calls

pub next_pushed : (g : Graph) (start : ℕ) (seen : NodeSet) (path front : List ℕ) (node next : ℕ) (more : NodeSet) (after later : List ℕ)
    → IsQuest g start seen path → path ≡ front ++ node ∷ [] → Triggers (triggered g) node next → (IsIn seen next → ⊥) → (next ≡ start → ⊥) → next < 256 → Adds seen more (next ∷ []) → after ≡ front ++ node ∷ [] → later ≡ after ++ next ∷ []
    → IsQuest g start more later
next_pushed g start seen path front node next more after later quest parts t unseen other small a is_after is_later =
    let q = subst (λ (p : List ℕ). IsQuest g start seen p) (parts ∙ sym is_after) quest in
    let longer : IsPath (triggered g) (after ++ next ∷ []) = subst (λ (p : List ℕ). IsPath (triggered g) (p ++ next ∷ [])) (sym is_after) (IsPath-push g front node next (subst (λ (p : List ℕ). IsPath (triggered g) p) is_after q.walk) t) in
    let some : 0 < length after = rw is_after (simp length-append (omega arith)) in
    let pushed = quest_pushed g start seen after next more q longer some unseen other small a in
    subst (λ (p : List ℕ). IsQuest g start more p) (sym is_later) pushed

pub next_short : (g : Graph) (start : ℕ) (seen : NodeSet) (path front : List ℕ) (node next : ℕ) (more : NodeSet) (after : List ℕ)
    → IsQuest g start seen path → path ≡ front ++ node ∷ [] → (IsIn seen next → ⊥) → (next ≡ start → ⊥) → next < 256 → start < 256 → Adds seen more (next ∷ []) → after ≡ front ++ node ∷ [] → length after < 256
next_short g start seen path front node next more after quest parts unseen other small also a is_after =
    let q = subst (λ (p : List ℕ). IsQuest g start seen p) (parts ∙ sym is_after) quest in
    quest_short g start seen after next more q unseen other small also a

-- the measure of the search: twice the number of nodes not seen, plus the length of the path
abbrev pub work : NodeSet → List ℕ → ℕ
work seen path = 2 * absent seen + length path

pub next_smaller : (seen : NodeSet) (path front : List ℕ) (node next : ℕ) (more : NodeSet) (after later : List ℕ)
    → path ≡ front ++ node ∷ [] → (IsIn seen next → ⊥) → next < 256 → Adds seen more (next ∷ []) → after ≡ front ++ node ∷ [] → later ≡ after ++ next ∷ []
    → work more later < work seen path
next_smaller seen path front node next more after later parts unseen small a is_after is_later =
    let fewer = absent-insert seen more next a small unseen in
    let same : length after ≡ length path = ap length (is_after ∙ sym parts) in
    let longer : length later ≡ length after + 1 = rw is_later (length-append after (next ∷ [])) in
    omega (arith, fewer, same, longer)

pub next_found : (g : Graph) (start : ℕ) (seen : NodeSet) (path front : List ℕ) (node next : ℕ) (after : List ℕ)
    → IsQuest g start seen path → path ≡ front ++ node ∷ [] → Triggers (triggered g) node next → next ≡ start → after ≡ front ++ node ∷ [] → IsCircle (triggered g) after × IsDistinct after × (slice_index after 0 ≡ start)
next_found g start seen path front node next after quest parts t same is_after =
    let q = subst (λ (p : List ℕ). IsQuest g start seen p) parts quest in
    let circle = quest_found g start seen front node q (subst (λ (k : ℕ). Triggers (triggered g) node k) same t) in
    let some : 0 < length (front ++ node ∷ []) = simp length-append (omega arith) in
    (subst (IsCircle (triggered g)) (sym is_after) circle, subst IsDistinct (sym is_after) q.distinct, subst (λ (p : List ℕ). slice_index p 0 ≡ start) (sym is_after) (q.first some))

pub last_popped : (g : Graph) (start : ℕ) (seen : NodeSet) (path front : List ℕ) (node : ℕ)
    → IsQuest g start seen path → path ≡ front ++ node ∷ [] → ((n : ℕ) → Triggers (triggered g) node n → IsIn seen n) → IsQuest g start seen front
last_popped g start seen path front node quest parts all =
    quest_popped g start seen front node (subst (λ (p : List ℕ). IsQuest g start seen p) parts quest) all

pub back_short : (g : Graph) (start : ℕ) (seen : NodeSet) (path front : List ℕ) (node : ℕ) → IsQuest g start seen path → path ≡ front ++ node ∷ [] → start < 256 → length front < 256
back_short g start seen path front node quest parts small =
    let longer : length path ≡ length front + 1 = rw parts (length-append front (node ∷ [])) in
    omega (arith, longer, quest.bound, absent-some seen start small quest.unseen)

pub last_smaller : (seen : NodeSet) (path front : List ℕ) (node : ℕ) → path ≡ front ++ node ∷ [] → work seen front < work seen path
last_smaller seen path front node parts =
    let longer : length path ≡ length front + 1 = rw parts (length-append front (node ∷ [])) in
    omega (arith, longer)
