-- The changes of holders by a claim, at one address.
use Rattle.std.proofs.Common.{◌≡◌, ◌≢◌, ℕ, Bool, true, false, cond, eqb, List, [], ◌∷◌, ◌++◌, Option, Some, None, refl, sym, ap, ◌∙◌, eq-eqb, ne_eqb, nat_eq, append-nil}
use Rattle.std.proofs.lemmas.Option.{same_Some}
use Rattle.std.proofs.lemmas.Bool.{eqb-true, false≢true}
use Rattle.std.specs.Option.{option_eq}
use Rattle.vt_names.specs.Claims.{IsRisingByName, OtherHoldersStay, address_of}
use Rattle.vt_server.specs.state.AddressViews.{Act, Rebinds}
use Rattle.vt_server.specs.Steps.{before, rebind_acts, former_address, changes, changes_by}
use Rattle.vt_server.specs.Terminals.{State, holder, after_acts}
use Rattle.vt_node.specs.declared.bus.FrameMeaning.{FrameMeaning}
use Rattle.vt_node.specs.declared.bus.FrameMeaning.TheVariants.{Claim, ClaimRequest, Master, Member, Message, Tp, Etp, Nothing}
use Rattle.vt_server.proofs.lemmas.acts.ComposedActs.{beside}
use Rattle.vt_server.proofs.lemmas.acts.ActLists.{of, of-append}
use Rattle.vt_names.proofs.IndexAfterClaim.{option_same}
use Rattle.vt_names.proofs.AddressesAfterClaim.{by_eq, none-some}

-- ---- the same or another holder

pub option-true : (x y : Option ℕ) → option_eq eqb x y ≡ true → x ≡ y
option-true None None e = refl
option-true None (Some y) e = absurd (false≢true e)
option-true (Some x) None e = absurd (false≢true e)
option-true (Some x) (Some y) e = ap Some (eqb-true x y e)

-- ---- the changes of holders at one address

abbrev pub change : Option ℕ → Option ℕ → List Act
change was now = cond (option_eq nat_eq was now) [] (Rebinds ∷ [])

none-either : (b : Bool) → ◌≡◌ {A = List Act} [] (cond b [] [])
none-either true = refl
none-either false = refl

of-changed : (a b : ℕ) (was : Option ℕ) (t : State) → of a (rebind_acts was t b) ≡ cond (eqb b a) (change was (holder t b)) []
of-changed a b was t = cases (option_eq nat_eq was (holder t b))
  where
    cases : (x : Bool) → of a (cond x [] ((b, Rebinds) ∷ [])) ≡ cond (eqb b a) (cond x [] (Rebinds ∷ [])) []
    cases true = none-either (eqb b a)
    cases false = refl

of-changed_at : (a b : ℕ) (was : Option ℕ) (t : State) → b ≡ a → of a (rebind_acts was t b) ≡ change was (holder t b)
of-changed_at a b was t is = of-changed a b was t ∙ ap (λ c. cond c (change was (holder t b)) []) (eq-eqb b a is)

of-changed_other : (a b : ℕ) (was : Option ℕ) (t : State) → b ≢ a → of a (rebind_acts was t b) ≡ []
of-changed_other a b was t ne = of-changed a b was t ∙ ap (λ c. cond c (change was (holder t b)) []) (ne_eqb b a ne)

module _ (law : OtherHoldersStay) (s : State) (rising : IsRisingByName s.claims.addresses) (a source name : ℕ) where
  abbrev pub t : State
  t = before s source (Claim name)

  -- The holder of any other address is unchanged.
  unchanged : a ≢ source → address_of s.claims.addresses name ≢ Some a → [] ≡ change (holder s a) (holder t a)
  unchanged ne not =
      sym (ap (λ c. cond c [] (Rebinds ∷ []))
      (ap (option_eq nat_eq (holder s a)) (law.others s.claims.addresses source name a rising ne not) ∙ option_same (holder s a)))

  of-none : (a ≢ source → address_of s.claims.addresses name ≢ Some a) → of a (changes_by s t None source) ≡ change (holder s a) (holder t a)
  of-none not =
      by_eq source a
      (λ is. of-changed_at a source (holder s source) t is ∙ (λ i. change (holder s (is i)) (holder t (is i))))
      (λ ne. of-changed_other a source (holder s source) t ne ∙ unchanged (λ e. ne (sym e)) (not (λ e. ne (sym e))))

  of-some : (left : ℕ) → left ≢ source → address_of s.claims.addresses name ≡ Some left → of a (changes_by s t (Some left) source) ≡ change (holder s a) (holder t a)
  of-some left apart is-left =
      of-append a (rebind_acts (holder s left) t left) (rebind_acts (holder s source) t source)
      ∙ by_eq source a
      (λ is.
      (λ i. of-changed_other a left (holder s left) t (λ e. apart (e ∙ sym is)) i ++ of-changed_at a source (holder s source) t is i)
      ∙ (λ i. change (holder s (is i)) (holder t (is i))))
      (λ ne. ap (λ l. of a (rebind_acts (holder s left) t left) ++ l) (of-changed_other a source (holder s source) t ne)
      ∙ append-nil (of a (rebind_acts (holder s left) t left))
      ∙ by_eq left a
      (λ here. of-changed_at a left (holder s left) t here ∙ (λ i. change (holder s (here i)) (holder t (here i))))
      (λ other. of-changed_other a left (holder s left) t other
      ∙ unchanged (λ e. ne (sym e)) (λ e. other (same_Some left a (sym is-left ∙ e)))))

  of-left : (o : Option ℕ) → address_of s.claims.addresses name ≡ o → of a (changes_by s t (former_address source o) source) ≡ change (holder s a) (holder t a)
  of-left None e = of-none (λ _. λ h. none-some (sym e ∙ h))
  of-left (Some left) e =
      by_eq left source
      (λ is. ap (λ c. of a (changes_by s t (cond c None (Some left)) source)) (eq-eqb left source is)
      ∙ of-none (λ ne. λ h. ne (sym (same_Some left a (sym e ∙ h)) ∙ is)))
      (λ ne. ap (λ c. of a (changes_by s t (cond c None (Some left)) source)) (ne_eqb left source ne) ∙ of-some left ne e)

  of-claim-changes : of a (changes s source (Claim name)) ≡ change (holder s a) (holder t a)
  of-claim-changes = of-left (address_of s.claims.addresses name) refl

-- The changes of holders at one address by any frame: one act if its holder changes, else none.
pub of-changes : OtherHoldersStay → (s : State) → IsRisingByName s.claims.addresses → (a source : ℕ) (n : FrameMeaning)
    → of a (changes s source n) ≡ change (holder s a) (holder (before s source n) a)
of-changes law s rising a source (Claim name) = of-claim-changes law s rising a source name
of-changes law s rising a source ClaimRequest = sym (ap (λ c. cond c [] (Rebinds ∷ [])) (option_same (holder s a)))
of-changes law s rising a source (Master count) = sym (ap (λ c. cond c [] (Rebinds ∷ [])) (option_same (holder s a)))
of-changes law s rising a source (Member name) = sym (ap (λ c. cond c [] (Rebinds ∷ [])) (option_same (holder s a)))
of-changes law s rising a source Message = sym (ap (λ c. cond c [] (Rebinds ∷ [])) (option_same (holder s a)))
of-changes law s rising a source Tp = sym (ap (λ c. cond c [] (Rebinds ∷ [])) (option_same (holder s a)))
of-changes law s rising a source Etp = sym (ap (λ c. cond c [] (Rebinds ∷ [])) (option_same (holder s a)))
of-changes law s rising a source Nothing = sym (ap (λ c. cond c [] (Rebinds ∷ [])) (option_same (holder s a)))

pub own-before : (s : State) (source : ℕ) (n : FrameMeaning) → (before s source n).claims.own ≡ s.claims.own
own-before s source (Claim name) = refl
own-before s source ClaimRequest = refl
own-before s source (Master count) = refl
own-before s source (Member name) = refl
own-before s source Message = refl
own-before s source Tp = refl
own-before s source Etp = refl
own-before s source Nothing = refl

-- Acts leave the address claims, the loss and the shown set unchanged.
pub claims-acts : (s : State) (hs : List (ℕ × Act)) → (after_acts s hs).claims ≡ s.claims
claims-acts s hs = beside (λ (t : State). t.claims) (λ a o t. refl) s hs

pub shown-acts : (s : State) (hs : List (ℕ × Act)) → (after_acts s hs).shown ≡ s.shown
shown-acts s hs = beside (λ (t : State). t.shown) (λ a o t. refl) s hs
