-- The packets of a transfer at their places.
use Rattle.std.proofs.Common.{◌≡◌, ◌≤◌, ◌<◌, ℕ, zero, suc, ◌+◌, eqb, true, Option, Some, None, IsSome, is_some, List, [], ◌∷◌, length, refl, sym, ap, ◌∙◌, ⊎_elim, arith}
use Rattle.std.proofs.lemmas.Bool.{cases_eq, cases_order, cond_both}
use Rattle.log_listen.specs.declared.part.Part.{Part}
use Rattle.log_listen.specs.declared.part.Part.TheVariants.{Request, Packet, Offset, Abort}
use Rattle.log_listen.specs.Transfers.{packet_count, offset_after, packet_at, AreAtPlaces, HasAll}
use Rattle.log_listen.specs.Listeners.{IsFirstMissing}

abbrev IsThere : Option (List ℕ) → Type 0
IsThere o = IsSome o

pub still_there : (place : ℕ) (part : Part) (parts : List Part) → IsSome (packet_at place parts) → IsSome (packet_at place (part ∷ parts))
still_there place (Packet number bytes) parts there =
    cond_both (eqb place (offset_after parts + number)) (Some bytes) (packet_at place parts) IsThere (λ _. refl) (λ _. there)
still_there place (Offset packets) parts there = there
still_there place (Request size pgn) parts there = there
still_there place (Abort pgn) parts there = there

value_of : (o : Option (List ℕ)) → IsSome o → (bytes : List ℕ) × (o ≡ Some bytes)
value_of None there = absurd (let e = there in cc)
value_of (Some bytes) there = (bytes, refl)

pub all_from_places : (parts : List Part) (n : ℕ) → ((place : ℕ) → 1 ≤ place → place ≤ n → IsSome (packet_at place parts))
    → (packets : List (List ℕ)) × (AreAtPlaces parts packets × (length packets ≡ n))
all_from_places parts zero there = ([], (tt, refl))
all_from_places parts (suc n) there =
    let rest = all_from_places parts n (λ place from upto. there place from (omega arith)) in
    let here = value_of (packet_at (suc n) parts) (there (suc n) (omega arith) (omega arith)) in
    let count = rest.1.1 in
    let place : length rest.0 + 1 ≡ suc n = omega arith in
    (here.0 ∷ rest.0, ((ap (λ place. packet_at place parts) place ∙ here.1, rest.1.0), ap suc count))

pub there_from_places : (parts : List Part) (packets : List (List ℕ)) → AreAtPlaces parts packets
    → (place : ℕ) → 1 ≤ place → place ≤ length packets → IsSome (packet_at place parts)
there_from_places parts [] places place from upto = absurd (omega arith)
there_from_places parts (packet ∷ packets) places place from upto =
    ⊎_elim
    (λ (here : place ≡ length packets + 1). ap (λ place. is_some (packet_at place parts)) here ∙ ap is_some places.0)
    (λ (other : place ≡ length packets + 1 → ⊥). there_from_places parts packets places.1 place from (omega arith))
    (cases_eq place (length packets + 1))

-- all packets stay
pub all_stay : (part : Part) (since : List Part) (size : ℕ) (packets : List (List ℕ)) → HasAll since size packets
    → (more : List (List ℕ)) × HasAll (part ∷ since) size more
all_stay part since size packets has =
    let made = all_from_places (part ∷ since) (packet_count size) (λ place from upto.
    still_there place part since (there_from_places since packets has.places place from (let n = has.all in omega arith))) in
    (made.0, record { places = made.1.0; all = made.1.1 })

none_there : (o : Option (List ℕ)) → IsSome o → o ≡ None → ⊥
none_there o there none = let e : is_some {T = List ℕ} None ≡ true = ap is_some (sym none) ∙ there in cc

pub lacks_from_missing : (since : List Part) (size place : ℕ) → 1 ≤ place → place ≤ packet_count size → packet_at place since ≡ None
    → (packets : List (List ℕ)) → HasAll since size packets → ⊥
lacks_from_missing since size place from upto none packets has =
    none_there (packet_at place since) (there_from_places since packets has.places place from (let n = has.all in omega arith)) none

-- there is one first missing packet
pub first_missing_once : (since : List Part) (size a b : ℕ) → IsFirstMissing since size a → IsFirstMissing since size b → a ≡ b
first_missing_once since size a b at_a at_b =
    ⊎_elim
    (λ (same : a ≡ b). same)
    (λ apart. ⊎_elim
    (λ (less : a < b). absurd (none_there (packet_at a since) (at_b.before a at_a.within.0 less) at_a.missing))
    (λ (more : b < a). absurd (none_there (packet_at b since) (at_a.before b at_b.within.0 more) at_b.missing))
    apart)
    (cases_order a b)
