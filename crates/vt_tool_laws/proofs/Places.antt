-- Packets at the first places of a transfer, and none after them. Every list of parts and of packets has the latest first.
use Rattle.std.proofs.Common.{◌≡◌, ◌≤◌, ◌<◌, ℕ, ◌+◌, cond, Some, None, List, [], ◌∷◌, ◌++◌, length, refl, sym, ap, ◌∙◌, append_assoc, append-nil, arith}
use Rattle.std.proofs.lemmas.Bool.{eq-eqb, ne_eqb}
use Rattle.vt_can.specs.transport.Messages.{joined}
use Rattle.log_listen.specs.declared.part.Part.{Part}
use Rattle.log_listen.specs.declared.part.Part.TheVariants.{Packet, Offset}
use Rattle.log_listen.specs.Transfers.{offset_after, packet_at, AreAtPlaces}
use Rattle.vt_tool_laws.proofs.Parts.{kept, packet_kept}

-- the parts bring exactly these packets, in their order
pub record Holds (parts : List Part) (packets : List (List ℕ)) : Type 0 where
  pub places : AreAtPlaces parts packets
  pub above : (place : ℕ) → length packets < place → packet_at place parts ≡ None

pub holds_none : Holds [] []
holds_none = record { places = tt; above = λ place past. refl }

at_places_as : (parts parts' : List Part) (packets : List (List ℕ)) → ((place : ℕ) → place ≤ length packets → packet_at place parts ≡ packet_at place parts')
    → AreAtPlaces parts packets → AreAtPlaces parts' packets
at_places_as parts parts' [] same places = tt
at_places_as parts parts' (packet ∷ packets) same places =
    (sym (same (length packets + 1) (omega arith)) ∙ places.0, at_places_as parts parts' packets (λ place upto. same place (omega arith)) places.1)

pub at_places_kept : (parts : List Part) (packets : List (List ℕ)) → AreAtPlaces (kept parts) packets → AreAtPlaces parts packets
at_places_kept parts packets places = at_places_as (kept parts) parts packets (λ place _. packet_kept place parts) places

skipped : (place number : ℕ) (bytes : List ℕ) (parts : List Part) → (place ≡ offset_after parts + number → ⊥) → packet_at place parts ≡ packet_at place (Packet number bytes ∷ parts)
skipped place number bytes parts apart =
    sym (ap (λ b. cond b (Some bytes) (packet_at place parts)) (ne_eqb place (offset_after parts + number) apart))

-- the next packet
pub holds_more : (parts : List Part) (packets : List (List ℕ)) (number : ℕ) (bytes : List ℕ) → offset_after parts + number ≡ length packets + 1 → Holds parts packets
    → Holds (Packet number bytes ∷ parts) (bytes ∷ packets)
holds_more parts packets number bytes next holds = record {
  places = (
    ap (λ b. cond b (Some bytes) (packet_at (length packets + 1) parts)) (eq-eqb (length packets + 1) (offset_after parts + number) (sym next)),
    at_places_as parts (Packet number bytes ∷ parts) packets (λ place upto. skipped place number bytes parts (λ here. absurd (omega arith))) holds.places,
  );
  above = λ place past. sym (skipped place number bytes parts (λ here. absurd (omega arith))) ∙ holds.above place (omega arith);
}

-- an offset holds no packet
pub holds_offset : (parts : List Part) (packets : List (List ℕ)) (offset : ℕ) → Holds parts packets → Holds (Offset offset ∷ parts) packets
holds_offset parts packets offset holds = record { places = at_places_as parts (Offset offset ∷ parts) packets (λ place _. refl) holds.places; above = holds.above }

pub joined-append : (packets before : List (List ℕ)) → joined (packets ++ before) ≡ joined before ++ joined packets
joined-append [] before = sym (append-nil (joined before))
joined-append (packet ∷ packets) before =
    ap (λ l. l ++ packet) (joined-append packets before) ∙ append_assoc (joined before) (joined packets) packet
