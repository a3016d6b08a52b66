-- Parts without the aborts of the other end. Every list of parts has the latest first.
use Rattle.std.proofs.Common.{◌≡◌, ℕ, ◌+◌, eqb, cond, Option, Some, List, [], ◌∷◌, refl, ap, ◌∙◌}
use Rattle.log_listen.specs.declared.part.Part.{Part}
use Rattle.log_listen.specs.declared.part.Part.TheVariants.{Request, Packet, Offset, Abort}
use Rattle.log_listen.specs.Transfers.{offset_after, packet_at}

-- a packet, or the number of packets before those that come next
abbrev pub IsData : Part → Type 0
IsData (Request size pgn) = ⊥
IsData (Packet number bytes) = Unit {0}
IsData (Offset packets) = Unit {0}
IsData (Abort pgn) = ⊥

-- the parts without the aborts
abbrev pub kept : List Part → List Part
kept [] = []
kept (Request size pgn ∷ parts) = Request size pgn ∷ kept parts
kept (Packet number bytes ∷ parts) = Packet number bytes ∷ kept parts
kept (Offset packets ∷ parts) = Offset packets ∷ kept parts
kept (Abort pgn ∷ parts) = kept parts

pub kept_data : (part : Part) (parts : List Part) → IsData part → kept (part ∷ parts) ≡ part ∷ kept parts
kept_data (Request size pgn) parts data' = absurd data'
kept_data (Packet number bytes) parts data' = refl
kept_data (Offset packets) parts data' = refl
kept_data (Abort pgn) parts data' = absurd data'

pub offset_kept : (parts : List Part) → offset_after (kept parts) ≡ offset_after parts
offset_kept [] = refl
offset_kept (Request size pgn ∷ parts) = offset_kept parts
offset_kept (Packet number bytes ∷ parts) = offset_kept parts
offset_kept (Offset packets ∷ parts) = refl
offset_kept (Abort pgn ∷ parts) = offset_kept parts

pub packet_kept : (place : ℕ) (parts : List Part) → packet_at place (kept parts) ≡ packet_at place parts
packet_kept place [] = refl
packet_kept place (Request size pgn ∷ parts) = packet_kept place parts
packet_kept place (Packet number bytes ∷ parts) =
    ap (λ offset. cond (eqb place (offset + number)) (Some bytes) (packet_at place (kept parts))) (offset_kept parts)
    ∙ ap (λ (o : Option (List ℕ)). cond (eqb place (offset_after parts + number)) (Some bytes) o) (packet_kept place parts)
packet_kept place (Offset packets ∷ parts) = packet_kept place parts
packet_kept place (Abort pgn ∷ parts) = packet_kept place parts
