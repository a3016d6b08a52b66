-- Lookups in a map by address after a change at one address.
use Rattle.std.proofs.Common.{◌≡◌, ◌≢◌, ℕ, cond, Some, None, ap, sym, ◌∙◌, refl, eq-eqb, ne_eqb}
use Rattle.std.specs.Ordering.{nat_cmp}
use Rattle.std.specs.Cmp.{unsigned_tied, nat_cmp_total}
use Rattle.vt_can.specs.transport.Sessions.{SessionTable}
use Rattle.std.specs.FinMap as finite

-- equal tables have equal sessions
pub same_sessions : {T : Type 0} {a b : SessionTable T} → a ≡ b → a.sessions ≡ b.sessions
same_sessions {T} is = ap (λ (t : SessionTable T). t.sessions) is

module _ {X : Type 0} where
  pub get-put : (m : finite.FinMap nat_cmp X) (a : ℕ) (x : X) → finite.get (finite.insert m a x) a ≡ Some x
  get-put m a x =
      finite.get-insert nat_cmp_total m a x a
      ∙ ap (λ b. cond b (Some x) (finite.get m a)) (unsigned_tied a a ∙ eq-eqb a a refl)

  pub get-put_other : (m : finite.FinMap nat_cmp X) (a q : ℕ) (x : X) → q ≢ a → finite.get (finite.insert m a x) q ≡ finite.get m q
  get-put_other m a q x other =
      finite.get-insert nat_cmp_total m a x q
      ∙ ap (λ b. cond b (Some x) (finite.get m q)) (unsigned_tied q a ∙ ne_eqb q a other)

  pub get-removed : (m : finite.FinMap nat_cmp X) (a : ℕ) → finite.get (finite.remove m a) a ≡ None
  get-removed m a =
      finite.get-remove nat_cmp_total m a a
      ∙ ap (λ b. cond b None (finite.get m a)) (unsigned_tied a a ∙ eq-eqb a a refl)

  pub get-removed_other : (m : finite.FinMap nat_cmp X) (a q : ℕ) → q ≢ a → finite.get (finite.remove m a) q ≡ finite.get m q
  get-removed_other m a q other =
      finite.get-remove nat_cmp_total m a q
      ∙ ap (λ b. cond b None (finite.get m q)) (unsigned_tied q a ∙ ne_eqb q a other)

  -- lookups at other addresses after an insertion, a removal, or both

  pub put_others : (old new : finite.FinMap nat_cmp X) (address : ℕ) (x : X) (m : finite.FinMap nat_cmp X) → old ≡ m → new ≡ finite.insert m address x
      → (other : ℕ) → (other ≡ address → ⊥) → finite.get new other ≡ finite.get old other
  put_others old new address x m was is other apart =
      ap (λ (n : finite.FinMap nat_cmp X). finite.get n other) is ∙ get-put_other m address other x apart
      ∙ ap (λ (n : finite.FinMap nat_cmp X). finite.get n other) (sym was)

  pub removed_others : (old new : finite.FinMap nat_cmp X) (address : ℕ) (m : finite.FinMap nat_cmp X) → old ≡ m → new ≡ finite.remove m address
      → (other : ℕ) → (other ≡ address → ⊥) → finite.get new other ≡ finite.get old other
  removed_others old new address m was is other apart =
      ap (λ (n : finite.FinMap nat_cmp X). finite.get n other) is ∙ get-removed_other m address other apart
      ∙ ap (λ (n : finite.FinMap nat_cmp X). finite.get n other) (sym was)

  pub put_again_others : (old new : finite.FinMap nat_cmp X) (address : ℕ) (x : X) (m left : finite.FinMap nat_cmp X) → old ≡ m → left ≡ finite.remove m address
      → new ≡ finite.insert left address x → (other : ℕ) → (other ≡ address → ⊥) → finite.get new other ≡ finite.get old other
  put_again_others old new address x m left was removed is other apart =
      put_others left new address x left refl is other apart ∙ removed_others old left address m was removed other apart
