-- The list of overdue sessions after the removal of one.
use Rattle.std.proofs.Common.{◌≡◌, ◌≢◌, ℕ, zero, suc, ◌-◌, ◌<◌, Bool, true, false, cond, List, [], ◌∷◌, ◌++◌, is_some, refl, sym, ap, ap₂, ◌∙◌, arith, inl, inr}
use Rattle.std.proofs.lemmas.Bool.{cases_lt}
use Rattle.std.specs.Cmp.{nat_cmp_total}
use Rattle.std.specs.FinMap as finite
use Rattle.vt_can.specs.transport.Sessions.{ByAddress, each_below, is_overdue, Expires, TheFirstExpires, IsRemoved}
use Rattle.vt_can.proofs.lemmas.transport.ByAddress.{get-removed, get-removed_other}
use Rattle.vt_can.proofs.lemmas.transport.SessionsAfterAborts.{not_empty}

module _ {X : Type 0} (what : X) where
  abbrev chosen : ℕ → Bool → List (ℕ × X)
  chosen n b = cond b ((n, what) ∷ []) []

  each-none : (passes : ℕ → Bool) (n : ℕ) → ((q : ℕ) → q < n → passes q ≡ false) → each_below passes what n ≡ []
  unfolding each_below
  each-none passes zero none = refl
  each-none passes (suc n) none =
      ap₂ (λ (xs : List (ℕ × X)) (b : Bool). xs ++ chosen n b) (each-none passes n (λ q h. none q (omega arith))) (none n (omega arith))

  -- the list of numbers that pass a test, without the first of them
  pub each-tail : (passes left : ℕ → Bool) (a n : ℕ) → passes a ≡ true → ((q : ℕ) → q < a → passes q ≡ false) → left a ≡ false
      → ((q : ℕ) → q ≢ a → left q ≡ passes q) → a < n → each_below passes what n ≡ (a, what) ∷ each_below left what n
  unfolding each_below
  each-tail passes left a zero here first gone others h = absurd (omega arith)
  each-tail passes left a (suc n) here first gone others h = elim (cases_lt a n) [
    | inl k ↦ ap₂ (λ (xs : List (ℕ × X)) (b : Bool). xs ++ chosen n b)
        (each-tail passes left a n here first gone others k) (sym (others n (λ same. omega arith)))
    | inr k ↦ (
        let same : a ≡ n = omega arith in
        ap₂ (λ (xs : List (ℕ × X)) (b : Bool). xs ++ chosen n b)
        (each-none passes n (λ q i. first q (omega arith))) (ap passes (sym same) ∙ here)
        ∙ ap (λ (k : ℕ). (k, what) ∷ []) (sym same)
        ∙ ap (λ (xs : List (ℕ × X)). (a, what) ∷ xs)
        (sym (ap₂ (λ (xs : List (ℕ × X)) (b : Bool). xs ++ chosen n b)
        (each-none left n (λ q i. others q (λ e. omega arith) ∙ first q (omega arith))) (ap left (sym same) ∙ gone))))
  ]

module _ {T : Type 0} where
  pub session_removed : (sessions : ByAddress T) (address : ℕ) → IsRemoved sessions address
  session_removed sessions address = record {
    gone = get-removed sessions address;
    others = λ other apart. get-removed_other sessions address other apart;
    fewer = λ timed found.
        let there : is_some (finite.get sessions address) ≡ true = ap is_some found in
        let less : finite.len (finite.remove sessions address) ≡ finite.len sessions - 1 =
        finite.len-remove nat_cmp_total sessions address
        ∙ ap (λ (b : Bool). cond b (finite.len sessions - 1) (finite.len sessions)) there in
        let some : finite.len sessions ≡ 0 → ⊥ = not_empty sessions address timed found in
        omega (arith, some);
  }

module _ {T : Type 0} (timeout : ℕ) where
  expired_others : (old new : ByAddress T) (now address : ℕ) (session : T) → Expires timeout old new now address session
      → (q : ℕ) → q ≢ address → is_overdue timeout now (finite.get new q) ≡ is_overdue timeout now (finite.get old q)
  expired_others old new now address session expired q apart =
      ap (λ (m : ByAddress T). is_overdue timeout now (finite.get m q)) expired.removed ∙ ap (is_overdue timeout now) (get-removed_other old address q apart)

  expired_gone : (old new : ByAddress T) (now address : ℕ) (session : T) → Expires timeout old new now address session
      → is_overdue timeout now (finite.get new address) ≡ false
  expired_gone old new now address session expired =
      ap (λ (m : ByAddress T). is_overdue timeout now (finite.get m address)) expired.removed ∙ ap (is_overdue timeout now) (get-removed old address)

pub first_expires : (T X : Type 0) → TheFirstExpires T X
first_expires T X = record {
  some = λ timeout old new now address session what expired.
      each-tail what (λ q. is_overdue timeout now (finite.get old q)) (λ q. is_overdue timeout now (finite.get new q)) address 256
      expired.first.overdue expired.first.least (expired_gone timeout old new now address session expired)
      (expired_others timeout old new now address session expired) expired.small;
  none = λ timeout old new now what none. each-none what (λ q. is_overdue timeout now (finite.get old q)) 256 (λ q h. none.none q);
}
