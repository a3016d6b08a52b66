-- The recorded addresses and holders after all claims received.
use Rattle.std.proofs.Common.{◌≡◌, ◌≢◌, ℕ, Bool, true, false, cond, eqb, List, [], ◌∷◌, Option, Some, None, refl, sym, ap, ◌∙◌, eq-eqb, ne_eqb}
use Rattle.std.proofs.lemmas.Option.{same_Some}
use Rattle.vt_names.specs.Claims.{Addresses, IsRisingByName, Claim, AddressesAreLast, HoldersAreLeast, OtherHoldersStay, IsHolder, after_claims, with_address, claimed_address, address_of, holder_of}
use Rattle.vt_names.proofs.AddressesAfterClaim.{by_eq, none-some, Rising-insert, Rising-remove, address-inserted, address-inserted_other, address-removed, address-removed_other, holder-address, holder-inserted_other, holder-removed_other, no-holder, least-holder}

pub Rising-with : (es : Addresses) (n : ℕ) (o : Option ℕ) → IsRisingByName es → IsRisingByName (with_address es n o)
Rising-with es n None rising = Rising-remove n es rising
Rising-with es n (Some a) rising = Rising-insert n a es rising

pub Rising-claims : (claims : List Claim) → IsRisingByName (after_claims claims)
Rising-claims [] = tt
Rising-claims (c ∷ earlier) = Rising-with (after_claims earlier) c.name (claimed_address c.address) (Rising-claims earlier)

pub address-with : (es : Addresses) (n : ℕ) (o : Option ℕ) (m : ℕ) → IsRisingByName es → address_of (with_address es n o) m ≡ cond (eqb m n) o (address_of es m)
address-with es n None m rising =
    by_eq m n
    (λ is. ap (address_of (with_address es n None)) is ∙ address-removed n es rising ∙ sym (ap (λ b. cond b None (address_of es m)) (eq-eqb m n is)))
    (λ ne. address-removed_other n m es ne ∙ sym (ap (λ b. cond b None (address_of es m)) (ne_eqb m n ne)))
address-with es n (Some a) m rising =
    by_eq m n
    (λ is. ap (address_of (with_address es n (Some a))) is ∙ address-inserted n a es ∙ sym (ap (λ b. cond b (Some a) (address_of es m)) (eq-eqb m n is)))
    (λ ne. address-inserted_other n a m es ne ∙ sym (ap (λ b. cond b (Some a) (address_of es m)) (ne_eqb m n ne)))

pub last : AddressesAreLast
last [] name = refl
last (c ∷ earlier) name =
    address-with (after_claims earlier) c.name (claimed_address c.address) name (Rising-claims earlier)
    ∙ ap (cond (eqb name c.name) (claimed_address c.address)) (last earlier name)

holder-is : (claims : List Claim) (address : ℕ) (o : Option ℕ) → holder_of (after_claims claims) address ≡ o → IsHolder claims address o
holder-is claims address None is = λ name. λ e. no-holder address (after_claims claims) is name (last claims name ∙ e)
holder-is claims address (Some h) is = (
  sym (last claims h) ∙ holder-address address h (after_claims claims) (Rising-claims claims) is,
  λ name e. least-holder address h (after_claims claims) (Rising-claims claims) is name (last claims name ∙ e),
)

pub least : HoldersAreLeast
least claims address = holder-is claims address (holder_of (after_claims claims) address) refl

pub stays-with : (es : Addresses) (n : ℕ) (o : Option ℕ) (q : ℕ) → o ≢ Some q → holder_of es q ≢ Some n → holder_of (with_address es n o) q ≡ holder_of es q
stays-with es n None q ne not = holder-removed_other n q es not
stays-with es n (Some a) q ne not = holder-inserted_other n a q es (λ is. ne (ap Some (sym is))) not

claims-other : (address q : ℕ) (b : Bool) → q ≢ address → cond b None (Some address) ≢ Some q
claims-other address q true ne = λ e. none-some e
claims-other address q false ne = λ e. ne (sym (same_Some address q e))

pub stay : OtherHoldersStay
stay = record {
  rising = λ es address name. Rising-with es name (claimed_address address);
  others = λ es address name other rising ne not.
      stays-with es name (claimed_address address) other (claims-other address other (eqb address 254) ne)
      (λ h. not (holder-address other name es rising h));
}
