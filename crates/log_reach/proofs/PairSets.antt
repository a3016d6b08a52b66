-- Sets of pairs of numbers.
use Rattle.std.proofs.Common.{◌≡◌, ◌↔◌, ◌⊎◌, ◌&&◌, ℕ, nat_eq, Bool, true, false, cond, Option, Some, sym, ap, subst, ◌∙◌, inl, inr, refl}
use Rattle.std.proofs.lemmas.Bool.{eqb-true, true≢false}
use Rattle.std.specs.BTreeSet.{BTreeSet, Updates}
use Rattle.std.specs.Ordering.{nat_cmp, is_eq}
use Rattle.std.specs.Prelude.{IfSome, IsTrue}
use Rattle.std.specs.declared.cmp.Ordering.{Ordering}
use Rattle.std.specs.declared.cmp.Ordering.TheVariants.{Less, Equal, Greater}
use Rattle.std.proofs.lemmas.Map.Lookups.{CmpEqualImpliesEq, exact_pairs, exact_unsigned}
use Rattle.log_reach.specs.PairSets.{pair_cmp, has_pair}

exact : CmpEqualImpliesEq pair_cmp
exact = exact_pairs nat_cmp nat_cmp exact_unsigned exact_unsigned

was_or_is : (own pair : ℕ × ℕ) (order : Ordering) → pair_cmp own pair ≡ order → (was : Bool) → cond (is_eq order) true was ≡ true → (was ≡ true) ⊎ (pair ≡ own)
was_or_is own pair Less e was h = inl h
was_or_is own pair Equal e was h = inr (sym (exact own pair e))
was_or_is own pair Greater e was h = inl h

stays : (order : Ordering) (was : Bool) → was ≡ true → cond (is_eq order) true was ≡ true
stays Less was h = h
stays Equal was h = refl
stays Greater was h = h

-- a pair joins a set: the others stay, and no other joins
pub joins : (old new : BTreeSet (ℕ × ℕ)) (own : ℕ × ℕ) → Updates pair_cmp old new own true
    → (pair : ℕ × ℕ) → IsTrue (has_pair new pair) ↔ (IsTrue (has_pair old pair) ⊎ (pair ≡ own))
joins old new own updates pair = (
  (λ has. was_or_is own pair (pair_cmp own pair) refl (has_pair old pair) (sym (updates.0 pair) ∙ has)),
  λ side. elim side [
    | inl had ↦ updates.0 pair ∙ stays (pair_cmp own pair) (has_pair old pair) had
    | inr is ↦ subst (λ (p : ℕ × ℕ). IsTrue (has_pair new p)) (sym is) updates.1
  ],
)

-- the same by the parts of the pair
pub by_parts : (old new : BTreeSet (ℕ × ℕ)) (own pair : ℕ × ℕ) → (IsTrue (has_pair new pair) ↔ (IsTrue (has_pair old pair) ⊎ (pair ≡ own)))
    → IsTrue (has_pair new pair) ↔ (IsTrue (has_pair old pair) ⊎ ((pair.0 ≡ own.0) × (pair.1 ≡ own.1)))
by_parts old new own pair whole = (
  (λ has. elim (whole.0 has) [ inl had ↦ inl had | inr is ↦ inr (ap (λ (p : ℕ × ℕ). p.0) is, ap (λ (p : ℕ × ℕ). p.1) is) ]),
  λ side. elim side [ inl had ↦ whole.1 (inl had) | inr parts ↦ whole.1 (inr (λ i. (parts.0 i, parts.1 i))) ],
)

-- a pair of a set joins it without a change
pub joins_again : (pairs : BTreeSet (ℕ × ℕ)) (own : ℕ × ℕ) → IsTrue (has_pair pairs own) → (other : ℕ × ℕ) → IsTrue (has_pair pairs other) ↔ (IsTrue (has_pair pairs other) ⊎ (other ≡ own))
joins_again pairs own has other = (
  (λ had. inl had),
  λ side. elim side [ inl had ↦ had | inr is ↦ subst (λ (p : ℕ × ℕ). IsTrue (has_pair pairs p)) (sym is) has ],
)

both : (a b : Bool) → true ≡ (a && b) → (a ≡ true) × (b ≡ true)
both true b are = (refl, sym are)
both false b are = absurd (true≢false are)

-- the last pair of a set, under whose parts another pair is the same
pub last_is_in : (pairs : BTreeSet (ℕ × ℕ)) (last : Option (ℕ × ℕ)) (found own : ℕ × ℕ) → last ≡ Some found → IfSome last (λ pair. IsTrue (has_pair pairs pair))
    → true ≡ (nat_eq found.0 own.0 && nat_eq found.1 own.1) → IsTrue (has_pair pairs own)
last_is_in pairs last found own is has same =
    let parts = both (nat_eq found.0 own.0) (nat_eq found.1 own.1) same in
    let first : found.0 ≡ own.0 = eqb-true found.0 own.0 parts.0 in
    let second : found.1 ≡ own.1 = eqb-true found.1 own.1 parts.1 in
    subst (λ (pair : ℕ × ℕ). IsTrue (has_pair pairs pair)) (λ i. (first i, second i)) (subst (λ (l : Option (ℕ × ℕ)). IfSome l (λ pair. IsTrue (has_pair pairs pair))) is has)
