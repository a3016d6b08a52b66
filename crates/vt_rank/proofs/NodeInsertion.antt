-- The insertion of a node into a set, and the number of nodes not in the set.
use Rattle.std.proofs.Common.{◌≡◌, ◌==◌, ◌≢◌, ℕ, zero, suc, ◌+◌, ◌<◌, ◌≤◌, Bool, true, false, ◌⊎◌, inl, inr, [], ◌∷◌, refl, sym, ◌∙◌, subst, arith, eq-eqb, eqb-true}
use Rattle.std.proofs.lemmas.Bool.{cases_eq}
use Rattle.std.proofs.lemmas.Nat.Bits.{bit_at-lt}
use Rattle.vt_rank.specs.declared.node_set.NodeSet.{NodeSet}
use Rattle.vt_rank.specs.NodeSets.{bit_of, IsIn, Adds, absent_below, absent}
use Rattle.vt_rank.proofs.Members.{Contains-nil, Contains-head, Contains-cons_cases}

pub marked_here : (before after : NodeSet) (i : ℕ) → Adds before after (i ∷ []) → IsIn after i
marked_here before after i a = a.there i (Contains-head i [])

pub marked_before : (before after : NodeSet) (i n : ℕ) → Adds before after (i ∷ []) → IsIn after n → IsIn before n ⊎ (i ≡ n)
marked_before before after i n a marked =
    elim (a.only n marked) as (λ _. IsIn before n ⊎ (i ≡ n)) [
      | inl was ↦ inl was
      | inr among ↦ elim (Contains-cons_cases i n [] among) as (λ _. IsIn before n ⊎ (i ≡ n)) [ inl same ↦ inr same | inr none ↦ absurd (Contains-nil n none) ]
    ]

pub marked_is : (set : NodeSet) (n : ℕ) (there : Bool) → there ≡ (bit_of set n == 1) → there ≡ true → IsIn set n
marked_is set n there is is_true = eqb-true _ _ (sym is ∙ is_true)

pub unmarked_is : (set : NodeSet) (n : ℕ) (there : Bool) → there ≡ (bit_of set n == 1) → there ≡ false → IsIn set n → ⊥
unmarked_is set n there is is_false marked = let now = eq-eqb (bit_of set n) 1 marked in cc

-- ---- the number of nodes not in a set

absent_all : (set : NodeSet) (k : ℕ) → ((n : ℕ) → IsIn set n → ⊥) → absent_below set k ≡ k
absent_all set zero none = refl
absent_all set (suc k) none =
    let rest = absent_all set k none in
    let small : bit_of set k < 2 = bit_at-lt _ _ in
    elim (cases_eq (bit_of set k) 1) as (λ _. absent_below set (suc k) ≡ suc k) [
      | inl one ↦ absurd (none k one)
      | inr other ↦ omega (arith, rest, small, other)
    ]

pub absent-none : (set : NodeSet) → ((n : ℕ) → IsIn set n → ⊥) → absent set ≡ 256
unfolding absent
absent-none set none = absent_all set 256 none

same_bit : (before after : NodeSet) (i n : ℕ) → Adds before after (i ∷ []) → n ≢ i → bit_of after n ≡ bit_of before n
same_bit before after i n a differs =
    let was_small : bit_of before n < 2 = bit_at-lt _ _ in
    let is_small : bit_of after n < 2 = bit_at-lt _ _ in
    elim (cases_eq (bit_of before n) 1) as (λ _. bit_of after n ≡ bit_of before n) [
      | inl was ↦ a.kept n was ∙ sym was
      | inr was_not ↦
          elim (cases_eq (bit_of after n) 1) as (λ _. bit_of after n ≡ bit_of before n) [
            | inl is ↦ elim (marked_before before after i n a is) as (λ _. bit_of after n ≡ bit_of before n) [ inl was ↦ absurd (was_not was) | inr same ↦ absurd (differs (sym same)) ]
            | inr is_not ↦ omega (arith, was_small, is_small, was_not, is_not)
          ]
    ]

absent_one : (before after : NodeSet) (i k : ℕ) → Adds before after (i ∷ []) → (IsIn before i → ⊥) → (i < k → absent_below after k + 1 ≡ absent_below before k) × (k ≤ i → absent_below after k ≡ absent_below before k)
absent_one before after i zero a unmarked = (λ less. absurd (omega (arith, less)), λ _. refl)
absent_one before after i (suc k) a unmarked =
    let rest = absent_one before after i k a unmarked in
    elim (cases_eq k i) as (λ _. (i < suc k → absent_below after (suc k) + 1 ≡ absent_below before (suc k)) × (suc k ≤ i → absent_below after (suc k) ≡ absent_below before (suc k))) [
      | inl same ↦
          let small : bit_of before k < 2 = bit_at-lt _ _ in
          let was_not : bit_of before k ≢ 1 = λ (was : bit_of before k ≡ 1). unmarked (subst (λ (n : ℕ). IsIn before n) same was) in
          let is : bit_of after k ≡ 1 = subst (λ (n : ℕ). IsIn after n) (sym same) (marked_here before after i a) in
          (λ _. omega (arith, rest.1 (omega (arith, same)), small, was_not, is), λ past. absurd (omega (arith, past, same)))
      | inr other ↦
          let kept : bit_of after k ≡ bit_of before k = same_bit before after i k a other in
          (λ less. omega (arith, rest.0 (omega (arith, less, other)), kept), λ past. omega (arith, rest.1 (omega (arith, past)), kept))
    ]

-- the insertion of a node lowers the number of nodes not in the set by one
pub absent-insert : (before after : NodeSet) (i : ℕ) → Adds before after (i ∷ []) → i < 256 → (IsIn before i → ⊥) → absent after + 1 ≡ absent before
unfolding absent
absent-insert before after i a small unmarked = (absent_one before after i 256 a unmarked).0 small

absent_below_some : (set : NodeSet) (i k : ℕ) → i < k → (IsIn set i → ⊥) → 0 < absent_below set k
absent_below_some set i zero less unmarked = absurd (omega (arith, less))
absent_below_some set i (suc k) less unmarked =
    elim (cases_eq i k) as (λ _. 0 < absent_below set (suc k)) [
      | inl same ↦
          let small : bit_of set k < 2 = bit_at-lt _ _ in
          let not_one : bit_of set k ≢ 1 = λ (is : bit_of set k ≡ 1). unmarked (subst (λ (n : ℕ). IsIn set n) (sym same) is) in
          omega (arith, small, not_one)
      | inr other ↦ omega (arith, absent_below_some set i k (omega (arith, less, other)) unmarked)
    ]

pub absent-some : (set : NodeSet) (i : ℕ) → i < 256 → (IsIn set i → ⊥) → 0 < absent set
unfolding absent
absent-some set i small unmarked = absent_below_some set i 256 small unmarked
