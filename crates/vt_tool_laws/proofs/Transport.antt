-- The frames of the transport protocol, for a receiver and for a listener. Every list has the latest first.
use Rattle.std.proofs.Common.{◌≡◌, ◌<◌, ℕ, ◌+◌, ◌/◌, ◌^◌, eqb, cond, Bool, true, false, Option, Some, None, List, [], ◌∷◌, length, drop, slice_index, add-one, refl, sym, ap, ◌∙◌, subst, ◌⊎◌, inl, inr, ⊎_elim, arith}
use Rattle.std.specs.List.{cons_option}
use Rattle.std.proofs.lemmas.Bool.{cond_both, eqb-true, eq-eqb, and_parts}
use Rattle.byteorder.specs.Endian.{little_number}
use Rattle.vt_can.specs.Assigned.{ABORT, TP_CM, TP_CTS, TP_DT, TP_END, TP_RTS, VT_TO_ECU}
use Rattle.vt_can.specs.declared.frames.frame.Frame.{Frame}
use Rattle.vt_can.specs.frames.Frame.{source_of}
use Rattle.vt_can.specs.transport.Messages.{joined}
use Rattle.vt_can.specs.transport.Histories.{Came, AreQuiet}
use Rattle.vt_transport.specs.Messages.{SessionEvent, IsQuiet, packets_in, numbered, spelling}
use Rattle.vt_transport.specs.Protocol.{protocol}
use Rattle.vt_transport.specs.Wire.{connection_management, tp_frame}
use Rattle.log_listen.specs.declared.part.Part.{Part}
use Rattle.log_listen.specs.declared.part.Part.TheVariants.{Request, Packet, Abort}
use Rattle.log_listen.specs.Parts.{managed}
use Rattle.log_listen.specs.Channels.{channel_of, sent, said, parts_in}
use Rattle.log_listen.specs.Transfers.{packet_count, offset_after}
use Rattle.vt_tool_laws.proofs.Parts.{IsData}
use Rattle.vt_tool_laws.proofs.Places.{Holds, holds_none, holds_more}
use Rattle.vt_tool_laws.proofs.Histories.{FrameOf, RequestOf, Reading, IsDecoded, AreDecoded, IsLastOf}
use Rattle.vt_tool_laws.proofs.Wire.{is_read, says_by_group, transport_unread}

-- the decoded frames, and the requests
abbrev TpFrame : Type 0
TpFrame = FrameOf spelling

abbrev Opening : Type 0
Opening = RequestOf spelling

abbrev control : List ℕ → ℕ
control bytes = slice_index bytes 0

abbrev managed_by : Bool → Bool → List ℕ → Option Part
managed_by r a bytes = cond r (Some (Request (little_number 2 (drop 1 bytes)) (little_number 3 (drop 5 bytes)))) (cond a (Some (Abort (little_number 3 (drop 5 bytes)))) None)

managed_is : (bytes : List ℕ) (r a : Bool) → eqb (control bytes) TP_RTS ≡ r → eqb (control bytes) ABORT ≡ a → managed bytes ≡ managed_by r a bytes
managed_is bytes r a is is' = ap (λ v. managed_by v (eqb (control bytes) ABORT) bytes) is ∙ ap (λ v. managed_by r v bytes) is'

-- a frame of connection management that asks
cm_asks : (bytes : List ℕ) (o : Opening) → connection_management bytes ≡ spelling.request o → managed bytes ≡ Some (Request (spelling.size o) (spelling.pgn o))
cm_asks bytes o =
    cond_both (eqb (control bytes) TP_RTS) _ _ (λ f. f ≡ spelling.request o → managed bytes ≡ Some (Request (spelling.size o) (spelling.pgn o)))
    (λ asks is. ap (λ v. managed_by v (eqb (control bytes) ABORT) bytes) asks ∙ (let e = is in cc))
    (λ _. cond_both (eqb (control bytes) TP_CTS) _ _ (λ f. f ≡ spelling.request o → managed bytes ≡ Some (Request (spelling.size o) (spelling.pgn o)))
    (λ _ is. absurd (let e = is in cc))
    (λ _. cond_both (eqb (control bytes) TP_END) _ _ (λ f. f ≡ spelling.request o → managed bytes ≡ Some (Request (spelling.size o) (spelling.pgn o)))
    (λ _ is. absurd (let e = is in cc))
    (λ _. cond_both (eqb (control bytes) ABORT) _ _ (λ f. f ≡ spelling.request o → managed bytes ≡ Some (Request (spelling.size o) (spelling.pgn o)))
    (λ _ is. absurd (let e = is in cc))
    (λ _ is. absurd (let e = is in cc)))))

-- a quiet frame of connection management says nothing, and brings no packet
cm_quiet : (bytes : List ℕ) (hs : List SessionEvent) → IsQuiet (Came (connection_management bytes))
    → (sent (managed bytes) ≡ None) × (packets_in (Came (connection_management bytes) ∷ hs) ≡ packets_in hs)
cm_quiet bytes hs =
    cond_both (eqb (control bytes) TP_RTS) _ _ (λ f. IsQuiet (Came f) → (sent (managed bytes) ≡ None) × (packets_in (Came f ∷ hs) ≡ packets_in hs))
    (λ _ quiet. absurd quiet)
    (λ r. cond_both (eqb (control bytes) TP_CTS) _ _ (λ f. IsQuiet (Came f) → (sent (managed bytes) ≡ None) × (packets_in (Came f ∷ hs) ≡ packets_in hs))
    (λ c _. (ap sent (managed_is bytes false false r (ap (λ k. eqb k ABORT) (eqb-true (control bytes) TP_CTS c))), refl))
    (λ _. cond_both (eqb (control bytes) TP_END) _ _ (λ f. IsQuiet (Came f) → (sent (managed bytes) ≡ None) × (packets_in (Came f ∷ hs) ≡ packets_in hs))
    (λ c _. (ap sent (managed_is bytes false false r (ap (λ k. eqb k ABORT) (eqb-true (control bytes) TP_END c))), refl))
    (λ _. cond_both (eqb (control bytes) ABORT) _ _ (λ f. IsQuiet (Came f) → (sent (managed bytes) ≡ None) × (packets_in (Came f ∷ hs) ≡ packets_in hs))
    (λ a quiet. (
      ap sent (managed_is bytes false true r a)
          ∙ ap (λ v. cond v None (Some (Abort (little_number 3 (drop 5 bytes))))) (eq-eqb (little_number 3 (drop 5 bytes)) VT_TO_ECU quiet),
      refl,
    ))
    (λ a _. (ap sent (managed_is bytes false false r a), refl)))))

asks : (own : ℕ) (frame : Frame) (o : Opening) → tp_frame own frame ≡ Some (spelling.request o)
    → said (channel_of false (source_of frame) own) frame ≡ Some (Request (spelling.size o) (spelling.pgn o))
asks own frame o is =
    let read = is_read TP_CM TP_DT own frame _ _ (spelling.request o) is in
    ⊎_elim
    (λ management. says_by_group false TP_CM own frame read.to read.eight management.0 refl ∙ ap sent (cm_asks frame.bytes.items o (sym management.1)))
    (λ transfer. absurd (let e = transfer.1 in cc))
    read.by

-- A quiet frame says nothing and brings no packet, or it is a packet.
pub record IsPacketOf (channel : ℕ) (frame : Frame) (h : SessionEvent) (hs : List SessionEvent) : Type 0 where
  pub number : ℕ
  pub bytes : List ℕ
  pub says : said channel frame ≡ Some (Packet number bytes)
  pub brings : packets_in (h ∷ hs) ≡ (number, bytes) ∷ packets_in hs

pub record SaysNothing (channel : ℕ) (frame : Frame) (h : SessionEvent) (hs : List SessionEvent) : Type 0 where
  pub says : said channel frame ≡ None
  pub brings : packets_in (h ∷ hs) ≡ packets_in hs

step_of : (own : ℕ) (frame : Frame) (f : TpFrame) (hs : List SessionEvent) → tp_frame own frame ≡ Some f → IsQuiet (Came f)
    → SaysNothing (channel_of false (source_of frame) own) frame (Came f) hs ⊎ IsPacketOf (channel_of false (source_of frame) own) frame (Came f) hs
step_of own frame f hs is quiet =
    let read = is_read TP_CM TP_DT own frame _ _ f is in
    let channel = channel_of false (source_of frame) own in
    let bytes = frame.bytes.items in
    ⊎_elim
    (λ management.
    let calm = cm_quiet bytes hs (subst (λ f. IsQuiet (Came f)) management.1 quiet) in
    inl (record {
      says = says_by_group false TP_CM own frame read.to read.eight management.0 refl ∙ calm.0;
      brings = ap (λ f. packets_in (Came f ∷ hs)) management.1 ∙ calm.1;
    }))
    (λ transfer. inr (record {
      number = slice_index bytes 0;
      bytes = drop 1 bytes;
      says = says_by_group false TP_DT own frame read.to read.eight transfer.0 refl;
      brings = ap (λ f. packets_in (Came f ∷ hs)) transfer.1;
    }))
    read.by

quiet_data : (own : ℕ) (frame : Frame) (f : TpFrame) (part : Part) → tp_frame own frame ≡ Some f → IsQuiet (Came f)
    → said (channel_of false (source_of frame) own) frame ≡ Some part → IsData part
quiet_data own frame f part is quiet says =
    ⊎_elim
    (λ (nothing : SaysNothing (channel_of false (source_of frame) own) frame (Came f) []). absurd (let e = sym nothing.says ∙ says in cc))
    (λ (packet : IsPacketOf (channel_of false (source_of frame) own) frame (Came f) []).
    let same : Packet packet.number packet.bytes ≡ part = let e = sym packet.says ∙ says in cc in
    subst IsData same tt)
    (step_of own frame f [] is quiet)

pub reading : Reading protocol spelling false
reading = record {
  loud = λ quiet. quiet;
  no_packet = λ o packet. let e = packet.2 in cc;
  asks = asks;
  quiet = quiet_data;
  unread = λ own frame small is. transport_unread own frame _ _ small is;
}

module _ (own source : ℕ) where
  decoded_step : (frame : Frame) (h : SessionEvent) (hs : List SessionEvent) → IsDecoded protocol own source frame h → IsQuiet h
      → SaysNothing (channel_of false source own) frame h hs ⊎ IsPacketOf (channel_of false source own) frame h hs
  decoded_step frame h hs decoded quiet =
      subst (λ s. SaysNothing (channel_of false s own) frame h hs ⊎ IsPacketOf (channel_of false s own) frame h hs) decoded.from
      (subst (λ h. SaysNothing (channel_of false (source_of frame) own) frame h hs ⊎ IsPacketOf (channel_of false (source_of frame) own) frame h hs) (sym decoded.is)
      (step_of own frame decoded.f hs decoded.decodes (subst IsQuiet decoded.is quiet)))

  -- the frames hold the packets that they bring
  pub record IsHeld (came : List Frame) (packets : List (List ℕ)) : Type 0 where
    pub holds : Holds (parts_in (channel_of false source own) came) packets
    pub offset : offset_after (parts_in (channel_of false source own) came) ≡ 0

  held_more : (frame : Frame) (came : List Frame) (number : ℕ) (bytes : List ℕ) (packets : List (List ℕ)) → said (channel_of false source own) frame ≡ Some (Packet number bytes)
      → number ≡ length packets + 1 → IsHeld came packets → IsHeld (frame ∷ came) (bytes ∷ packets)
  held_more frame came number bytes packets says next held =
      let parts = parts_in (channel_of false source own) came in
      let offset = held.offset in
      record {
        holds = subst (λ o. Holds (cons_option o parts) (bytes ∷ packets)) (sym says) (holds_more parts packets number bytes (omega arith) held.holds);
        offset = ap (λ o. offset_after (cons_option o parts)) says ∙ held.offset;
      }

  held_same : (frame : Frame) (came : List Frame) (packets : List (List ℕ)) → said (channel_of false source own) frame ≡ None → IsHeld came packets → IsHeld (frame ∷ came) packets
  held_same frame came packets says held =
      let parts = parts_in (channel_of false source own) came in
      record {
        holds = subst (λ o. Holds (cons_option o parts) packets) (sym says) held.holds;
        offset = ap (λ o. offset_after (cons_option o parts)) says ∙ held.offset;
      }

  held_at_packet : (frame : Frame) (came : List Frame) (h : SessionEvent) (later : List SessionEvent) (packets : List (List ℕ))
      → IsPacketOf (channel_of false source own) frame h later → ((rest : List (List ℕ)) → packets_in later ≡ numbered rest → IsHeld came rest)
      → packets_in (h ∷ later) ≡ numbered packets → IsHeld (frame ∷ came) packets
  held_at_packet frame came h later [] packet before is = absurd (let e = sym packet.brings ∙ is in cc)
  held_at_packet frame came h later (last ∷ rest) packet before is =
      let e = sym packet.brings ∙ is in
      let pair : ◌≡◌ {A = ℕ × List ℕ} (packet.number, packet.bytes) (length rest + 1, last) = cc in
      let same : packet.bytes ≡ last = ap (λ (p : ℕ × List ℕ). p.1) pair in
      let next : packet.number ≡ length rest + 1 = ap (λ (p : ℕ × List ℕ). p.0) pair in
      let tail : packets_in later ≡ numbered rest = cc in
      subst (λ b. IsHeld (frame ∷ came) (b ∷ rest)) same (held_more frame came packet.number packet.bytes rest packet.says next (before rest tail))

  pub held : (came : List Frame) (later : List SessionEvent) (packets : List (List ℕ)) → AreDecoded protocol own source came later → AreQuiet spelling later
      → packets_in later ≡ numbered packets → IsHeld came packets
  held [] [] [] decoded quiet is = record { holds = holds_none; offset = refl }
  held [] [] (packet ∷ packets) decoded quiet is = absurd (let e = is in cc)
  held [] (h ∷ later) packets decoded quiet is = absurd decoded
  held (frame ∷ came) [] packets decoded quiet is = absurd decoded
  held (frame ∷ came) (h ∷ later) packets decoded quiet is =
      ⊎_elim
      (λ (nothing : SaysNothing (channel_of false source own) frame h later).
      held_same frame came packets nothing.says (held came later packets decoded.1 quiet.1 (sym nothing.brings ∙ is)))
      (λ (packet : IsPacketOf (channel_of false source own) frame h later).
      held_at_packet frame came h later packets packet (λ rest. held came later rest decoded.1 quiet.1) is)
      (decoded_step frame h later decoded.0 quiet.0)

-- the last packet of a message
module _ (own source : ℕ) (small : own < 2 ^ 8) (small' : source < 2 ^ 8) (reading : Reading protocol spelling false) (o : Opening) where
  total_is : spelling.opens o ≡ true → spelling.total o ≡ packet_count (spelling.size o)
  total_is opened = eqb-true (spelling.total o) ((spelling.size o + 6) / 7) (and_parts _ _ opened).1

  last_packet : (packets : List (List ℕ)) (frame : Frame) (came : List Frame) (h : SessionEvent) (later : List SessionEvent)
      → IsPacketOf (channel_of false source own) frame h later → ((rest : List (List ℕ)) → packets_in later ≡ numbered rest → IsHeld own source came rest)
      → packets_in (h ∷ later) ≡ numbered packets → length packets ≡ packet_count (spelling.size o)
      → IsLastOf protocol spelling false reading own source small small' o came packets frame
  last_packet [] frame came h later packet before is all = absurd (let e = sym packet.brings ∙ is in cc)
  last_packet (last ∷ rest) frame came h later packet before is all =
      let e = sym packet.brings ∙ is in
      let pair : ◌≡◌ {A = ℕ × List ℕ} (packet.number, packet.bytes) (length rest + 1, last) = cc in
      let same : packet.bytes ≡ last = ap (λ (p : ℕ × List ℕ). p.1) pair in
      let next : packet.number ≡ length rest + 1 = ap (λ (p : ℕ × List ℕ). p.0) pair in
      let tail : packets_in later ≡ numbered rest = cc in
      let held_before = before rest tail in
      let offset = held_before.offset in
      record {
        number = packet.number;
        bytes = packet.bytes;
        says = packet.says;
        before = rest;
        holds = held_before.holds;
        next = omega arith;
        all = add-one (length rest) ∙ all;
        bytes_are = ap (λ (b : List ℕ). joined (b ∷ rest)) (sym same);
      }

  no_packet_brought : (h : SessionEvent) → packets_in (h ∷ []) ≡ [] → spelling.IsPacket h → ⊥
  no_packet_brought h none packet = let e = sym (ap (λ h. packets_in (h ∷ [])) packet.2) ∙ none in cc

  pub last : (packets : List (List ℕ)) (frame : Frame) (came : List Frame) (h : SessionEvent) (later : List SessionEvent) → IsDecoded protocol own source frame h
      → AreDecoded protocol own source came later → spelling.opens o ≡ true → AreQuiet spelling (h ∷ later) → spelling.Brings o (h ∷ later) packets
      → spelling.count packets ≡ spelling.total o → spelling.IsPacket h → IsLastOf protocol spelling false reading own source small small' o came packets frame
  last packets frame came h later decoded before opened quiet brought count packet =
      ⊎_elim
      (λ (nothing : SaysNothing (channel_of false source own) frame h []). absurd (no_packet_brought h nothing.brings packet))
      (λ (is : IsPacketOf (channel_of false source own) frame h []). ⊎_elim
      (λ (nothing : SaysNothing (channel_of false source own) frame h later). absurd (let e = sym is.says ∙ nothing.says in cc))
      (λ (is' : IsPacketOf (channel_of false source own) frame h later).
      last_packet packets frame came h later is' (λ rest. held own source came later rest before quiet.1) brought (count ∙ total_is opened))
      (decoded_step own source frame h later decoded quiet.0))
      (decoded_step own source frame h [] decoded quiet.0)
