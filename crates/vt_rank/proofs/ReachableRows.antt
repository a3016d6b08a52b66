-- Rows joined at one node after the other, until each row has all nodes that its node leads to.
use Rattle.std.proofs.Common.{◌≡◌, ℕ, ◌+◌, ◌%◌, ◌<◌, ◌≤◌, ◌↔◌, inl, inr, List, [], ◌∷◌, ◌++◌, length, set, sym, ◌∙◌, subst, ap, append_assoc, arith, get_or-set_same, get_or-set_other}
use Rattle.std.proofs.lemmas.Bool.{cases_lt, cases_eq}
use Rattle.std.proofs.lemmas.Nat.Bits.{bit_at-zero}
use Rattle.std.proofs.lemmas.List.{get_or_past, length-set}
use Rattle.vt_rank.specs.declared.graph.Graph.{Graph}
use Rattle.vt_rank.specs.declared.node_set.NodeSet.{NodeSet}
use Rattle.vt_rank.specs.Graphs.{triggered}
use Rattle.vt_rank.specs.Paths.{Triggers, IsPath}
use Rattle.vt_rank.specs.NodeSets.{bit_of, IsIn, IsSetOf, IsJoined, row, Reaches, Leads}
use Rattle.vt_rank.proofs.PathsAndCircles.{IsPath-join}
use Rattle.vt_rank.proofs.RankSearch.{none_past}

-- a missing row has no nodes
pub row_past : (rows : List NodeSet) (m n : ℕ) → length rows ≤ m → IsIn (row rows m) n → ⊥
row_past rows m n past is =
    let none : row rows m ≡ record { words = [] } = get_or_past rows m (record { words = [] }) past in
    let zero : bit_of (row rows m) n ≡ 0 = ap (λ (s : NodeSet). bit_of s n) none ∙ bit_at-zero (n % 64) in
    omega (arith, is, zero)

-- ---- the rows one after another

pub record IsWriting (g : Graph) (rows : List NodeSet) (node : ℕ) : Type 0 where
  pub size : length rows ≡ 256
  pub done : (m : ℕ) → m < node → IsSetOf (row rows m) (triggered g m)

pub row_written : (g : Graph) (rows : List NodeSet) (node : ℕ) (new : NodeSet) → node < 256 → IsWriting g rows node → IsSetOf new (triggered g node) → IsWriting g (set rows node new) (node + 1)
row_written g rows node new small w is = record {
  size = length-set rows node new ∙ w.size;
  done = λ m less.
      elim (cases_eq m node) as (λ _. IsSetOf (row (set rows node new) m) (triggered g m)) [
        | inl same ↦
            let here : row (set rows node new) node ≡ new = get_or-set_same rows node new (record { words = [] }) (omega (arith, small, w.size)) in
            subst (λ (k : ℕ). IsSetOf (row (set rows node new) k) (triggered g k)) (sym same) (subst (λ (s : NodeSet). IsSetOf s (triggered g node)) (sym here) is)
        | inr other ↦
            let kept : row (set rows node new) m ≡ row rows m = get_or-set_other rows node m new (record { words = [] }) other in
            subst (λ (s : NodeSet). IsSetOf s (triggered g m)) (sym kept) (w.done m (omega (arith, less, other)))
      ];
}

pub rows_written : (g : Graph) (rows : List NodeSet) (node : ℕ) → 256 ≤ node → IsWriting g rows node → (m : ℕ) → IsSetOf (row rows m) (triggered g m)
rows_written g rows node all w m =
    elim (cases_lt m node) as (λ _. IsSetOf (row rows m) (triggered g m)) [
      | inl less ↦ w.done m less
      | inr past ↦ λ n. (λ is. absurd (row_past rows m n (omega (arith, w.size, all, past)) is), λ t. absurd (none_past g m n (omega (arith, all, past)) t))
    ]

pub record IsJoining (before now : List NodeSet) (via node : ℕ) : Type 0 where
  pub size : length now ≡ 256
  pub done : (m : ℕ) → m < node → IsJoined (row before m) (row now m) (row before via) via
  pub left : (m : ℕ) → node ≤ m → row now m ≡ row before m

pub row_joined : (before now : List NodeSet) (via node : ℕ) (new : NodeSet) → node < 256 → IsJoining before now via node → IsJoined (row now node) new (row before via) via → IsJoining before (set now node new) via (node + 1)
row_joined before now via node new small j is = record {
  size = length-set now node new ∙ j.size;
  done = λ m less.
      elim (cases_eq m node) as (λ _. IsJoined (row before m) (row (set now node new) m) (row before via) via) [
        | inl same ↦
            let here : row (set now node new) node ≡ new = get_or-set_same now node new (record { words = [] }) (omega (arith, small, j.size)) in
            let from_now = subst (λ (s : NodeSet). IsJoined (row now node) s (row before via) via) (sym here) is in
            let from_before = subst (λ (s : NodeSet). IsJoined s (row (set now node new) node) (row before via) via) (j.left node (omega arith)) from_now in
            subst (λ (k : ℕ). IsJoined (row before k) (row (set now node new) k) (row before via) via) (sym same) from_before
        | inr other ↦
            let kept : row (set now node new) m ≡ row now m = get_or-set_other now node m new (record { words = [] }) other in
            subst (λ (s : NodeSet). IsJoined (row before m) s (row before via) via) (sym kept) (j.done m (omega (arith, less, other)))
      ];
  left = λ m past. get_or-set_other now node m new (record { words = [] }) (λ (e : m ≡ node). omega (arith, past, e)) ∙ j.left m (omega (arith, past));
}

pub rows_joined : (before now : List NodeSet) (via node : ℕ) → length before ≡ 256 → 256 ≤ node → IsJoining before now via node → (m : ℕ) → IsJoined (row before m) (row now m) (row before via) via
rows_joined before now via node size all j m =
    elim (cases_lt m node) as (λ _. IsJoined (row before m) (row now m) (row before via) via) [
      | inl less ↦ j.done m less
      | inr past ↦
          let none_before = λ (n : ℕ) (is : IsIn (row before m) n). row_past before m n (omega (arith, size, all, past)) is in
          record {
            kept = λ n is. absurd (none_before n is);
            joined = λ n is _. absurd (none_before via is);
            only = λ n is. absurd (row_past now m n (omega (arith, j.size, all, past)) is);
          }
    ]

-- ---- joins at one node after the other

pub record IsClosing (g : Graph) (rows : List NodeSet) (via : ℕ) : Type 0 where
  pub sound : (m n : ℕ) → Reaches rows m n → Leads g m n
  pub direct : (m n : ℕ) → Triggers (triggered g) m n → Reaches rows m n
  pub through : (m v n : ℕ) → v < via → Reaches rows m v → Reaches rows v n → Reaches rows m n

pub closing_begins : (g : Graph) (rows : List NodeSet) → ((m : ℕ) → IsSetOf (row rows m) (triggered g m)) → IsClosing g rows 0
closing_begins g rows are = record {
  sound = λ m n is. ([], ((are m n).0 is, tt));
  direct = λ m n t. (are m n).1 t;
  through = λ m v n none. absurd (omega (arith, none));
}

pub leads_on : (g : Graph) (m v n : ℕ) → Leads g m v → Leads g v n → Leads g m n
leads_on g m v n first then_ =
    (first.0 ++ v ∷ then_.0, subst (IsPath (triggered g)) (sym (append_assoc (m ∷ first.0) (v ∷ then_.0) (n ∷ []))) (IsPath-join g (m ∷ first.0) v (then_.0 ++ n ∷ []) first.1 then_.1))

pub closing_more : (g : Graph) (before now : List NodeSet) (via : ℕ) → IsClosing g before via → ((m : ℕ) → IsJoined (row before m) (row now m) (row before via) via) → IsClosing g now (via + 1)
closing_more g before now via c are =
    let same = λ (m : ℕ) (is : Reaches now m via). elim ((are m).only via is) as (λ _. Reaches before m via) [ inl was ↦ was | inr joined ↦ joined.0 ] in
    let after = λ (n : ℕ) (is : Reaches now via n). elim ((are via).only n is) as (λ _. Reaches before via n) [ inl was ↦ was | inr joined ↦ joined.1 ] in
    record {
      sound = λ m n is. elim ((are m).only n is) as (λ _. Leads g m n) [ inl was ↦ c.sound m n was | inr joined ↦ leads_on g m via n (c.sound m via joined.0) (c.sound via n joined.1) ];
      direct = λ m n t. (are m).kept n (c.direct m n t);
      through = λ m v n less one other.
          elim (cases_eq v via) as (λ _. Reaches now m n) [
            | inl here ↦ (are m).joined n (same m (subst (λ (k : ℕ). Reaches now m k) here one)) (after n (subst (λ (k : ℕ). Reaches now k n) here other))
            | inr apart ↦
                let below : v < via = omega (arith, less, apart) in
                elim ((are m).only v one) as (λ _. Reaches now m n) [
                  | inl to_v ↦
                      elim ((are v).only n other) as (λ _. Reaches now m n) [
                        | inl to_n ↦ (are m).kept n (c.through m v n below to_v to_n)
                        | inr joined ↦ (are m).joined n (c.through m v via below to_v joined.0) joined.1
                      ]
                  | inr to_v ↦
                      elim ((are v).only n other) as (λ _. Reaches now m n) [
                        | inl to_n ↦ (are m).joined n to_v.0 (c.through via v n below to_v.1 to_n)
                        | inr joined ↦ (are m).joined n to_v.0 joined.1
                      ]
                ]
          ];
    }

ends : (g : Graph) (z : ℕ) (zs : List ℕ) (n : ℕ) → 256 ≤ z → IsPath (triggered g) (z ∷ zs ++ n ∷ []) → ⊥
ends g z [] n past h = none_past g z n past h.0
ends g z (y ∷ ys) n past h = none_past g z y past h.0

along : (g : Graph) (rows : List NodeSet) (via : ℕ) → 256 ≤ via → IsClosing g rows via → (m : ℕ) (between : List ℕ) (n : ℕ) → IsPath (triggered g) (m ∷ between ++ n ∷ []) → Reaches rows m n
along g rows via all c m [] n h = c.direct m n h.0
along g rows via all c m (z ∷ zs) n h =
    let rest = along g rows via all c z zs n h.1 in
    elim (cases_lt z via) as (λ _. Reaches rows m n) [
      | inl less ↦ c.through m z n less (c.direct m z h.0) rest
      | inr past ↦ absurd (ends g z zs n (omega (arith, all, past)) h.1)
    ]

pub closed : (g : Graph) (rows : List NodeSet) (via : ℕ) → 256 ≤ via → IsClosing g rows via → (m n : ℕ) → Reaches rows m n ↔ Leads g m n
closed g rows via all c m n = (λ is. c.sound m n is, λ path. along g rows via all c m path.0 n path.1)
