-- The first time of one of two things, and of an overdue session.
use Rattle.std.proofs.Common.{◌≡◌, ℕ, ◌+◌, ◌<◌, ◌≤◌, ◌⊎◌, inl, inr, min, Option, Some, None, List, length, get_or, true, subst, sym, ap, ◌∙◌, arith}
use Rattle.std.proofs.lemmas.Bool.{cases_lt, false≢true}
use Rattle.std.proofs.Math.ListN.{get_or-eq_default}
use Rattle.vt_can.specs.declared.transport.sessions.Timed.{Timed}
use Rattle.vt_can.specs.transport.FirstTimes.{IsFirstTime, earlier}
use Rattle.vt_can.specs.transport.Sessions.{SessionTable, table_of_places, is_overdue, SomeOverdue}
use Rattle.vt_can.proofs.lemmas.transport.Places.{overdue_in}

-- two properties that hold at the same times have the same first time
pub first_same : (P Q : ℕ → Type 0) (time : Option ℕ) → ((now : ℕ) → P now → Q now) → ((now : ℕ) → Q now → P now) → IsFirstTime P time → IsFirstTime Q time
first_same P Q None to from first = λ now small q. first now small (from now q)
first_same P Q (Some time) to from first = (first.0, (to time first.1.0, λ now less q. first.1.1 now less (from now q)))

pub first_never : (P : ℕ → Type 0) → ((now : ℕ) → P now → ⊥) → IsFirstTime P None
first_never P never = λ now small p. never now p

either_at : (P Q : ℕ → Type 0) (a b m : ℕ) → m ≡ min a b → P a → Q b → P m ⊎ Q m
either_at P Q a b m is p q =
    elim (cases_lt b a) as (λ _. P m ⊎ Q m) [
      | inl less ↦ inr (let same : b ≡ m = omega (arith, is, less) in subst Q same q)
      | inr more ↦ inl (let same : a ≡ m = omega (arith, is, more) in subst P same p)
    ]

neither : (P Q : ℕ → Type 0) (now : ℕ) → (P now → ⊥) → (Q now → ⊥) → P now ⊎ Q now → ⊥
neither P Q now p q (inl is) = p is
neither P Q now p q (inr is) = q is

-- the first time of one of two things is the earlier of their first times
pub first_either : (P Q : ℕ → Type 0) (a b : Option ℕ) → IsFirstTime P a → IsFirstTime Q b → IsFirstTime (λ now. P now ⊎ Q now) (earlier a b)
first_either P Q None None p q = λ now small. neither P Q now (p now small) (q now small)
first_either P Q None (Some b) p q = (q.0, (inr q.1.0, λ now less. neither P Q now (let small = q.0 in p now (omega (arith, less, small))) (q.1.1 now less)))
first_either P Q (Some a) None p q = (p.0, (inl p.1.0, λ now less. neither P Q now (p.1.1 now less) (let small = p.0 in q now (omega (arith, less, small)))))
first_either P Q (Some a) (Some b) p q = (
  let small = p.0 in omega (arith, small),
  (
    either_at P Q a b (min a b) (omega arith) p.1.0 q.1.0,
    λ now less. neither P Q now (p.1.1 now (omega (arith, less))) (q.1.1 now (omega (arith, less))),
  ),
)

module _ {T : Type 0} (timeout : ℕ) where
  -- some session in the first n entries is overdue
  abbrev pub SomeOverdueBelow : List (Option (Timed T)) → ℕ → ℕ → Type 0
  SomeOverdueBelow places n now = (q : ℕ) × ((q < n) × (is_overdue timeout now (get_or places q None) ≡ true))

  pub first_none : (places : List (Option (Timed T))) → IsFirstTime (SomeOverdueBelow places 0) None
  first_none places = first_never (SomeOverdueBelow places 0) (λ now some. let less = some.1.0 in omega (arith, less))

  last_or_before : (places : List (Option (Timed T))) (n now : ℕ) → SomeOverdueBelow places (n + 1) now
      → SomeOverdueBelow places n now ⊎ (is_overdue timeout now (get_or places n None) ≡ true)
  last_or_before places n now some =
      elim (cases_lt some.0 n) as (λ _. SomeOverdueBelow places n now ⊎ (is_overdue timeout now (get_or places n None) ≡ true)) [
        | inl less ↦ inl (some.0, (less, some.1.1))
        | inr more ↦
            let within = some.1.0 in
            let same : some.0 ≡ n = omega (arith, within, more) in
            inr (subst (λ (k : ℕ). is_overdue timeout now (get_or places k None) ≡ true) same some.1.1)
      ]

  one_of : (places : List (Option (Timed T))) (n now : ℕ) → SomeOverdueBelow places n now ⊎ (is_overdue timeout now (get_or places n None) ≡ true)
      → SomeOverdueBelow places (n + 1) now
  one_of places n now (inl some) = (some.0, ((let less = some.1.0 in omega (arith, less)), some.1.1))
  one_of places n now (inr is) = (n, (omega arith, is))

  pub first_more : (places : List (Option (Timed T))) (n : ℕ) (x : Option (Timed T)) (a b : Option ℕ) → x ≡ get_or places n None
      → IsFirstTime (SomeOverdueBelow places n) a → IsFirstTime (λ now. is_overdue timeout now x ≡ true) b → IsFirstTime (SomeOverdueBelow places (n + 1)) (earlier a b)
  first_more places n x a b read before here =
      let at = subst (λ (y : Option (Timed T)). IsFirstTime (λ now. is_overdue timeout now y ≡ true) b) read here in
      first_same (λ now. SomeOverdueBelow places n now ⊎ (is_overdue timeout now (get_or places n None) ≡ true)) (SomeOverdueBelow places (n + 1)) (earlier a b)
      (one_of places n) (last_or_before places n)
      (first_either (SomeOverdueBelow places n) (λ now. is_overdue timeout now (get_or places n None) ≡ true) a b before at)

  below_all : (places : List (Option (Timed T))) (n q now : ℕ) → length places ≤ n → is_overdue timeout now (get_or places q None) ≡ true → q < n
  below_all places n q now all is =
      elim (cases_lt q n) as (λ _. q < n) [
        | inl less ↦ less
        | inr more ↦ absurd (false≢true (sym (ap (is_overdue timeout now) (get_or-eq_default places None {n = q} (omega (arith, all, more)))) ∙ is))
      ]

  pub first_of_all : (places : List (Option (Timed T))) (n : ℕ) (time : Option ℕ) (table : SessionTable T) → length places ≤ n → table_of_places timeout places ≡ table
      → IsFirstTime (SomeOverdueBelow places n) time → IsFirstTime (SomeOverdue table.timeout table.sessions) time
  first_of_all places n time table all is =
      first_same (SomeOverdueBelow places n) (SomeOverdue table.timeout table.sessions) time
      (λ now some. (some.0, overdue_in timeout places now some.0 table is ∙ some.1.1))
      (λ now some. let late = sym (overdue_in timeout places now some.0 table is) ∙ some.1 in (some.0, (below_all places n some.0 now all late, late)))
