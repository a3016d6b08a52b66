-- A frame makes at most one message whole, in one channel.
use Rattle.std.proofs.Common.{◌≡◌, ℕ, ◌+◌, ◌/◌, Bool, true, false, cond, eqb, List, [], ◌∷◌, length, take, Option, Some, None, refl, sym, ap, ap₂, subst, ◌∙◌, arith}
use Rattle.std.proofs.lemmas.Bool.{eqb-true}
use Rattle.vt_can.specs.declared.frames.frame.Frame.{Frame}
use Rattle.vt_can.specs.frames.Identifier.{parts_of, destination_of}
use Rattle.vt_can.specs.transport.Messages.{Message, joined}
use Rattle.vt_chains.proofs.Elements.{unsome}
use Rattle.log_listen.specs.declared.part.Part.{Part}
use Rattle.log_listen.specs.declared.part.Part.TheVariants.{Request, Packet, Offset, Abort}
use Rattle.log_listen.specs.Channels.{own_channel, other_channel, sent, refused, said_to, said, parts_in}
use Rattle.log_listen.specs.Listeners.{CompletesAt}
use Rattle.log_listen.specs.Parts.{part_in}
use Rattle.log_listen.specs.Transfers.{packet_at, packet_count, AreAtPlaces, HasAll, MakesWhole, Completes}
use Rattle.log_listen.proofs.Requests.{requested_once}
use Rattle.vt_tool_laws.specs.ListenLaws.{MessagesAreOne}

-- ---- the channel

-- a packet is in the channel of its frame
record IsOwn (channel : ℕ) (frame : Frame) (destination : Option ℕ) : Type 0 where
  place : ℕ
  there : destination ≡ Some place
  own : channel ≡ own_channel frame place

no_refusal : (part : Option Part) (parts : List Part) (message : Message) → Completes parts (refused part) message → ⊥
no_refusal None parts message is = is
no_refusal (Some (Request size pgn)) parts message is = is
no_refusal (Some (Packet number bytes)) parts message is = is
no_refusal (Some (Offset packets)) parts message is = is
no_refusal (Some (Abort pgn)) parts message is = is.packet

other_case : (b : Bool) (part : Option Part) (parts : List Part) (message : Message) → Completes parts (cond b (refused part) None) message → ⊥
other_case true part parts message is = no_refusal part parts message is
other_case false part parts message is = is

own_case : (b : Bool) (channel place : ℕ) (frame : Frame) (parts : List Part) (message : Message) → eqb channel (own_channel frame place) ≡ b
    → Completes parts (cond b (sent (part_in frame)) (cond (eqb channel (other_channel frame place)) (refused (part_in frame)) None)) message
    → IsOwn channel frame (Some place)
own_case true channel place frame parts message test is = record { place = place; there = refl; own = eqb-true channel (own_channel frame place) test }
own_case false channel place frame parts message test is = absurd (other_case (eqb channel (other_channel frame place)) (part_in frame) parts message is)

in_own : (channel : ℕ) (frame : Frame) (destination : Option ℕ) (parts : List Part) (message : Message) → Completes parts (said_to channel frame destination) message
    → IsOwn channel frame destination
in_own channel frame None parts message is = absurd is
in_own channel frame (Some place) parts message is = own_case (eqb channel (own_channel frame place)) channel place frame parts message refl is

one_channel : (channel other : ℕ) (frame : Frame) (destination : Option ℕ) → IsOwn channel frame destination → IsOwn other frame destination → channel ≡ other
one_channel channel other frame destination a b =
    let same : a.place ≡ b.place = ap (unsome a.place) (sym a.there ∙ b.there) in
    a.own ∙ ap (own_channel frame) same ∙ sym b.own

-- ---- the message

one_list : (parts : List Part) (a b : List (List ℕ)) → AreAtPlaces parts a → AreAtPlaces parts b → length a ≡ length b → a ≡ b
one_list parts [] [] first second long = refl
one_list parts [] (y ∷ b) first second long = absurd (omega (arith, long))
one_list parts (x ∷ a) [] first second long = absurd (omega (arith, long))
one_list parts (x ∷ a) (y ∷ b) first second long =
    let shorter : length a ≡ length b = omega (arith, long) in
    let same : Some x ≡ Some y = sym first.0 ∙ ap (λ (n : ℕ). packet_at (n + 1) parts) shorter ∙ second.0 in
    ap₂ (λ (p : List ℕ) (ps : List (List ℕ)). p ∷ ps) (ap (unsome x) same) (one_list parts a b first.1 second.1 shorter)

message_is : (m n : Message) → m.pgn ≡ n.pgn → m.bytes ≡ n.bytes → m ≡ n
message_is m n pgn bytes = ap₂ (λ (p : ℕ) (bs : List ℕ). let made : Message = record { pgn = p; bytes = bs } in made) pgn bytes

one_message : (parts : List Part) (part : Part) (m n : Message) → MakesWhole parts part m → MakesWhole parts part n → m ≡ n
one_message parts part m n a b =
    let same = requested_once parts a.size m.pgn b.size n.pgn a.since b.since a.transfer.requested b.transfer.requested in
    let moved = subst (λ (since : List Part). HasAll (part ∷ since) b.size b.packets) (sym same.since_is) b.all in
    let long : length a.packets ≡ length b.packets = a.all.all ∙ ap packet_count same.size_is ∙ sym b.all.all in
    let packets = one_list (part ∷ a.since) a.packets b.packets a.all.places moved.places long in
    message_is m n same.pgn_is (a.bytes ∙ ap₂ (λ (size : ℕ) (ps : List (List ℕ)). take size (joined ps)) same.size_is packets ∙ sym b.bytes)

one_said : (parts : List Part) (part : Option Part) (m n : Message) → Completes parts part m → Completes parts part n → m ≡ n
one_said parts None m n a b = absurd a
one_said parts (Some part) m n a b = one_message parts part m n a b

pub messages_one : MessagesAreOne
messages_one frames frame channel other m n a b =
    let destination = destination_of (parts_of frame.id) in
    let same = one_channel channel other frame destination (in_own channel frame destination (parts_in channel frames) m a)
    (in_own other frame destination (parts_in other frames) n b) in
    (same, one_said (parts_in channel frames) (said channel frame) m n a (subst (λ (c : ℕ). CompletesAt frames frame c n) (sym same) b))
