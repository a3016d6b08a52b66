-- The frames of the extended transport protocol, for a receiver and for a listener. Every list has the latest first.
use Rattle.std.proofs.Common.{◌≡◌, ◌<◌, ℕ, ◌+◌, ◌^◌, eqb, cond, Bool, true, false, Option, Some, None, List, [], ◌∷◌, ◌++◌, length, drop, slice_index, add-one, refl, sym, ap, ◌∙◌, subst, ◌⊎◌, inl, inr, ⊎_elim, length-append, arith}
use Rattle.std.specs.List.{cons_option}
use Rattle.std.proofs.lemmas.Bool.{cond_both}
use Rattle.byteorder.specs.Endian.{little_number}
use Rattle.vt_can.specs.Assigned.{ABORT, ETP_CM, ETP_DPO, ETP_DT, ETP_RTS}
use Rattle.vt_can.specs.declared.frames.frame.Frame.{Frame}
use Rattle.vt_can.specs.frames.Frame.{source_of}
use Rattle.vt_can.specs.transport.Messages.{joined}
use Rattle.vt_can.specs.transport.Histories.{Came, AreQuiet}
use Rattle.vt_extended.specs.Messages.{SessionEvent, IsQuiet, Group, Announced, received, parts_in, parts_of, bytes_of, part_reply, spelling}
use Rattle.vt_extended.specs.Protocol.{protocol}
use Rattle.vt_extended.specs.Wire.{connection_management, etp_frame}
use Rattle.log_listen.specs.declared.part.Part.{Part}
use Rattle.log_listen.specs.declared.part.Part.TheVariants.{Request, Packet, Offset, Abort}
use Rattle.log_listen.specs.Parts.{extended_managed}
use Rattle.log_listen.specs.Channels as channels
use Rattle.log_listen.specs.Channels.{channel_of, sent, said}
use Rattle.log_listen.specs.Transfers.{packet_count, offset_after}
use Rattle.vt_tool_laws.proofs.Parts.{IsData}
use Rattle.vt_tool_laws.proofs.Places.{Holds, holds_none, holds_more, holds_offset, joined-append}
use Rattle.vt_tool_laws.proofs.Histories.{FrameOf, RequestOf, Reading, IsDecoded, AreDecoded, IsLastOf}
use Rattle.vt_tool_laws.proofs.Wire.{is_read, says_by_group, extended_unread}

-- the decoded frames, and the requests
abbrev EtpFrame : Type 0
EtpFrame = FrameOf spelling

abbrev Opening : Type 0
Opening = RequestOf spelling

abbrev control : List ℕ → ℕ
control bytes = slice_index bytes 0

abbrev managed_by : Bool → Bool → Bool → List ℕ → Option Part
managed_by r d a bytes =
    cond r (Some (Request (little_number 4 (drop 1 bytes)) (little_number 3 (drop 5 bytes))))
    (cond d (Some (Offset (little_number 3 (drop 2 bytes)))) (cond a (Some (Abort (little_number 3 (drop 5 bytes)))) None))

managed_is : (bytes : List ℕ) (r d a : Bool) → eqb (control bytes) ETP_RTS ≡ r → eqb (control bytes) ETP_DPO ≡ d → eqb (control bytes) ABORT ≡ a
    → extended_managed bytes ≡ managed_by r d a bytes
managed_is bytes r d a is is' is'' =
    ap (λ v. managed_by v (eqb (control bytes) ETP_DPO) (eqb (control bytes) ABORT) bytes) is
    ∙ ap (λ v. managed_by r v (eqb (control bytes) ABORT) bytes) is' ∙ ap (λ v. managed_by r d v bytes) is''

-- a frame of connection management that asks
cm_asks : (bytes : List ℕ) (o : Opening) → connection_management bytes ≡ spelling.request o → extended_managed bytes ≡ Some (Request (spelling.size o) (spelling.pgn o))
cm_asks bytes o =
    cond_both (eqb (control bytes) ETP_RTS) _ _ (λ f. f ≡ spelling.request o → extended_managed bytes ≡ Some (Request (spelling.size o) (spelling.pgn o)))
    (λ asks is. ap (λ v. managed_by v (eqb (control bytes) ETP_DPO) (eqb (control bytes) ABORT) bytes) asks ∙ (let e = is in cc))
    (λ _. cond_both (eqb (control bytes) ETP_DPO) _ _ (λ f. f ≡ spelling.request o → extended_managed bytes ≡ Some (Request (spelling.size o) (spelling.pgn o)))
    (λ _ is. absurd (let e = is in cc))
    (λ _. cond_both (eqb (control bytes) ABORT) _ _ (λ f. f ≡ spelling.request o → extended_managed bytes ≡ Some (Request (spelling.size o) (spelling.pgn o)))
    (λ _ is. absurd (let e = is in cc))
    (λ _ is. absurd (let e = is in cc))))

-- the last group has begun with an offset
pub record IsAnnounced (offset : ℕ) (hs : List SessionEvent) (groups : List Group) : Type 0 where
  pub count : ℕ
  pub before : List Group
  pub groups_are : groups ≡ Announced count [] ∷ before
  pub next : offset ≡ received before
  pub rest : parts_in hs ≡ parts_of before

-- the last group has one more packet
pub record IsLonger (number : ℕ) (bytes : List ℕ) (hs : List SessionEvent) (groups : List Group) : Type 0 where
  pub count : ℕ
  pub packets : List (List ℕ)
  pub before : List Group
  pub groups_are : groups ≡ Announced count (bytes ∷ packets) ∷ before
  pub next : number ≡ length packets + 1
  pub rest : parts_in hs ≡ parts_of (Announced count packets ∷ before)

-- a DPO or a DT
abbrev PartOf : {A B X C : Type 0} → (A → B → X → C) → Type 0
PartOf {A} {B} {X} {C} reply = X

abbrev EtpPart : Type 0
EtpPart = PartOf part_reply

-- a part that begins groups as an offset does
announced : (x : EtpPart) (offset : ℕ) (hs : List SessionEvent)
    → ((count : ℕ) (before : List Group) → x ∷ parts_in hs ≡ parts_of (Announced count [] ∷ before) → (offset ≡ received before) × (parts_in hs ≡ parts_of before))
    → ((count : ℕ) (packet : List ℕ) (packets : List (List ℕ)) (before : List Group) → x ∷ parts_in hs ≡ parts_of (Announced count (packet ∷ packets) ∷ before) → ⊥)
    → (groups : List Group) → x ∷ parts_in hs ≡ parts_of groups → IsAnnounced offset hs groups
announced x offset hs begins apart [] is = absurd (let e = is in cc)
announced x offset hs begins apart (Announced count [] ∷ before) is =
    let both = begins count before is in
    record { count = count; before = before; groups_are = refl; next = both.0; rest = both.1 }
announced x offset hs begins apart (Announced count (packet ∷ packets) ∷ before) is = absurd (apart count packet packets before is)

-- a part that begins groups as a packet does
longer : (x : EtpPart) (number : ℕ) (bytes : List ℕ) (hs : List SessionEvent)
    → ((count : ℕ) (before : List Group) → x ∷ parts_in hs ≡ parts_of (Announced count [] ∷ before) → ⊥)
    → ((count : ℕ) (packet : List ℕ) (packets : List (List ℕ)) (before : List Group) → x ∷ parts_in hs ≡ parts_of (Announced count (packet ∷ packets) ∷ before)
    → (packet ≡ bytes) × ((number ≡ length packets + 1) × (parts_in hs ≡ parts_of (Announced count packets ∷ before))))
    → (groups : List Group) → x ∷ parts_in hs ≡ parts_of groups → IsLonger number bytes hs groups
longer x number bytes hs apart begins [] is = absurd (let e = is in cc)
longer x number bytes hs apart begins (Announced count [] ∷ before) is = absurd (apart count before is)
longer x number bytes hs apart begins (Announced count (packet ∷ packets) ∷ before) is =
    let both = begins count packet packets before is in
    record {
      count = count;
      packets = packets;
      before = before;
      groups_are = ap (λ (p : List ℕ). Announced count (p ∷ packets) ∷ before) both.0;
      next = both.1.0;
      rest = both.1.1;
    }

-- A quiet frame says nothing and brings no part, or it is an offset, or a packet.
pub record SaysNothing (channel : ℕ) (frame : Frame) (h : SessionEvent) (hs : List SessionEvent) : Type 0 where
  pub says : said channel frame ≡ None
  pub brings : parts_in (h ∷ hs) ≡ parts_in hs

pub record IsOffsetOf (channel : ℕ) (frame : Frame) (h : SessionEvent) (hs : List SessionEvent) : Type 0 where
  pub packets : ℕ
  pub says : said channel frame ≡ Some (Offset packets)
  pub brings : (groups : List Group) → parts_in (h ∷ hs) ≡ parts_of groups → IsAnnounced packets hs groups

pub record IsPacketOf (channel : ℕ) (frame : Frame) (h : SessionEvent) (hs : List SessionEvent) : Type 0 where
  pub number : ℕ
  pub bytes : List ℕ
  pub says : said channel frame ≡ Some (Packet number bytes)
  pub brings : (groups : List Group) → parts_in (h ∷ hs) ≡ parts_of groups → IsLonger number bytes hs groups

abbrev Says : ℕ → Frame → SessionEvent → List SessionEvent → Type 0
Says channel frame h hs = SaysNothing channel frame h hs ⊎ (IsOffsetOf channel frame h hs ⊎ IsPacketOf channel frame h hs)

-- what a quiet frame of connection management says
cm_quiet : (channel : ℕ) (frame : Frame) (bytes : List ℕ) (hs : List SessionEvent) → said channel frame ≡ sent (extended_managed bytes) → IsQuiet (Came (connection_management bytes))
    → Says channel frame (Came (connection_management bytes)) hs
cm_quiet channel frame bytes hs says =
    cond_both (eqb (control bytes) ETP_RTS) _ _ (λ f. IsQuiet (Came f) → Says channel frame (Came f) hs)
    (λ _ quiet. absurd quiet)
    (λ r. cond_both (eqb (control bytes) ETP_DPO) _ _ (λ f. IsQuiet (Came f) → Says channel frame (Came f) hs)
    (λ d _. inr (inl (record {
      packets = little_number 3 (drop 2 bytes);
      says = says ∙ ap (λ v. sent (managed_by v (eqb (control bytes) ETP_DPO) (eqb (control bytes) ABORT) bytes)) r
          ∙ ap (λ v. sent (managed_by false v (eqb (control bytes) ABORT) bytes)) d;
      brings = announced _ (little_number 3 (drop 2 bytes)) hs (λ count before e. (cc, cc)) (λ count packet packets before e. cc);
    })))
    (λ d. cond_both (eqb (control bytes) ABORT) _ _ (λ f. IsQuiet (Came f) → Says channel frame (Came f) hs)
    (λ _ quiet. absurd quiet)
    (λ a _. inl (record { says = says ∙ ap sent (managed_is bytes false false false r d a); brings = refl }))))

asks : (own : ℕ) (frame : Frame) (o : Opening) → etp_frame own frame ≡ Some (spelling.request o)
    → said (channel_of true (source_of frame) own) frame ≡ Some (Request (spelling.size o) (spelling.pgn o))
asks own frame o is =
    let read = is_read ETP_CM ETP_DT own frame _ _ (spelling.request o) is in
    ⊎_elim
    (λ management. says_by_group true ETP_CM own frame read.to read.eight management.0 refl ∙ ap sent (cm_asks frame.bytes.items o (sym management.1)))
    (λ transfer. absurd (let e = transfer.1 in cc))
    read.by

step_of : (own : ℕ) (frame : Frame) (f : EtpFrame) (hs : List SessionEvent) → etp_frame own frame ≡ Some f → IsQuiet (Came f)
    → Says (channel_of true (source_of frame) own) frame (Came f) hs
step_of own frame f hs is quiet =
    let read = is_read ETP_CM ETP_DT own frame _ _ f is in
    let channel = channel_of true (source_of frame) own in
    let bytes = frame.bytes.items in
    ⊎_elim
    (λ management.
    subst (λ f. Says channel frame (Came f) hs) (sym management.1)
    (cm_quiet channel frame bytes hs (says_by_group true ETP_CM own frame read.to read.eight management.0 refl) (subst (λ f. IsQuiet (Came f)) management.1 quiet)))
    (λ transfer.
    subst (λ f. Says channel frame (Came f) hs) (sym transfer.1)
    (inr (inr (record {
      number = slice_index bytes 0;
      bytes = drop 1 bytes;
      says = says_by_group true ETP_DT own frame read.to read.eight transfer.0 refl;
      brings = longer _ (slice_index bytes 0) (drop 1 bytes) hs (λ count before e. cc) (λ count packet packets before e. (cc, (cc, cc)));
    }))))
    read.by

quiet_data : (own : ℕ) (frame : Frame) (f : EtpFrame) (part : Part) → etp_frame own frame ≡ Some f → IsQuiet (Came f)
    → said (channel_of true (source_of frame) own) frame ≡ Some part → IsData part
quiet_data own frame f part is quiet says =
    let channel = channel_of true (source_of frame) own in
    ⊎_elim
    (λ (nothing : SaysNothing channel frame (Came f) []). absurd (let e = sym nothing.says ∙ says in cc))
    (λ some. ⊎_elim
    (λ (offset : IsOffsetOf channel frame (Came f) []).
    let same : Offset offset.packets ≡ part = let e = sym offset.says ∙ says in cc in
    subst IsData same tt)
    (λ (packet : IsPacketOf channel frame (Came f) []).
    let same : Packet packet.number packet.bytes ≡ part = let e = sym packet.says ∙ says in cc in
    subst IsData same tt)
    some)
    (step_of own frame f [] is quiet)

pub reading : Reading protocol spelling true
reading = record {
  loud = λ quiet. quiet;
  no_packet = λ o packet. let e = packet.2 in cc;
  asks = asks;
  quiet = quiet_data;
  unread = λ own frame small is. extended_unread own frame _ _ small is;
}

-- the packets of groups, and the number of packets before the last group
abbrev pub flat : List Group → List (List ℕ)
flat [] = []
flat (Announced count packets ∷ groups) = packets ++ flat groups

abbrev pub base : List Group → ℕ
base [] = 0
base (Announced count packets ∷ groups) = received groups

length_flat : (groups : List Group) → length (flat groups) ≡ received groups
length_flat [] = refl
length_flat (Announced count packets ∷ groups) =
    let before = length_flat groups in
    let both = length-append packets (flat groups) in
    omega arith

bytes_flat : (groups : List Group) → bytes_of groups ≡ joined (flat groups)
bytes_flat [] = refl
bytes_flat (Announced count packets ∷ groups) = ap (λ l. l ++ joined packets) (bytes_flat groups) ∙ sym (joined-append packets (flat groups))

module _ (own source : ℕ) where
  abbrev parts_of_frames : List Frame → List Part
  parts_of_frames came = channels.parts_in (channel_of true source own) came

  decoded_step : (frame : Frame) (h : SessionEvent) (hs : List SessionEvent) → IsDecoded protocol own source frame h → IsQuiet h → Says (channel_of true source own) frame h hs
  decoded_step frame h hs decoded quiet =
      subst (λ s. Says (channel_of true s own) frame h hs) decoded.from
      (subst (λ h. Says (channel_of true (source_of frame) own) frame h hs) (sym decoded.is)
      (step_of own frame decoded.f hs decoded.decodes (subst IsQuiet decoded.is quiet)))

  -- the frames hold the packets of the groups that they bring
  pub record IsHeld (came : List Frame) (groups : List Group) : Type 0 where
    pub holds : Holds (parts_of_frames came) (flat groups)
    pub offset : offset_after (parts_of_frames came) ≡ base groups

  held_same : (frame : Frame) (came : List Frame) (groups : List Group) → said (channel_of true source own) frame ≡ None → IsHeld came groups → IsHeld (frame ∷ came) groups
  held_same frame came groups says held =
      let parts = parts_of_frames came in
      record {
        holds = subst (λ o. Holds (cons_option o parts) (flat groups)) (sym says) held.holds;
        offset = ap (λ o. offset_after (cons_option o parts)) says ∙ held.offset;
      }

  held_packet : (frame : Frame) (came : List Frame) (number : ℕ) (bytes : List ℕ) (count : ℕ) (packets : List (List ℕ)) (before : List Group)
      → said (channel_of true source own) frame ≡ Some (Packet number bytes) → number ≡ length packets + 1 → IsHeld came (Announced count packets ∷ before)
      → IsHeld (frame ∷ came) (Announced count (bytes ∷ packets) ∷ before)
  held_packet frame came number bytes count packets before says next held =
      let parts = parts_of_frames came in
      let offset = held.offset in
      let flat_before = length_flat before in
      let both = length-append packets (flat before) in
      record {
        holds = subst (λ o. Holds (cons_option o parts) (bytes ∷ (packets ++ flat before))) (sym says) (holds_more parts (packets ++ flat before) number bytes (omega arith) held.holds);
        offset = ap (λ o. offset_after (cons_option o parts)) says ∙ held.offset;
      }

  held_offset : (frame : Frame) (came : List Frame) (offset count : ℕ) (before : List Group) → said (channel_of true source own) frame ≡ Some (Offset offset)
      → offset ≡ received before → IsHeld came before → IsHeld (frame ∷ came) (Announced count [] ∷ before)
  held_offset frame came offset count before says next held =
      let parts = parts_of_frames came in
      record {
        holds = subst (λ o. Holds (cons_option o parts) (flat before)) (sym says) (holds_offset parts (flat before) offset held.holds);
        offset = ap (λ o. offset_after (cons_option o parts)) says ∙ next;
      }

  pub held : (came : List Frame) (later : List SessionEvent) (groups : List Group) → AreDecoded protocol own source came later → AreQuiet spelling later
      → parts_in later ≡ parts_of groups → IsHeld came groups
  held [] [] [] decoded quiet is = record { holds = holds_none; offset = refl }
  held [] [] (Announced count [] ∷ groups) decoded quiet is = absurd (let e = is in cc)
  held [] [] (Announced count (packet ∷ packets) ∷ groups) decoded quiet is = absurd (let e = is in cc)
  held [] (h ∷ later) groups decoded quiet is = absurd decoded
  held (frame ∷ came) [] groups decoded quiet is = absurd decoded
  held (frame ∷ came) (h ∷ later) groups decoded quiet is =
      let channel = channel_of true source own in
      ⊎_elim
      (λ (nothing : SaysNothing channel frame h later).
      held_same frame came groups nothing.says (held came later groups decoded.1 quiet.1 (sym nothing.brings ∙ is)))
      (λ some. ⊎_elim
      (λ (offset : IsOffsetOf channel frame h later).
      let first = offset.brings groups is in
      subst (IsHeld (frame ∷ came)) (sym first.groups_are)
      (held_offset frame came offset.packets first.count first.before offset.says first.next (held came later first.before decoded.1 quiet.1 first.rest)))
      (λ (packet : IsPacketOf channel frame h later).
      let more = packet.brings groups is in
      subst (IsHeld (frame ∷ came)) (sym more.groups_are)
      (held_packet frame came packet.number packet.bytes more.count more.packets more.before packet.says more.next
      (held came later (Announced more.count more.packets ∷ more.before) decoded.1 quiet.1 more.rest)))
      some)
      (decoded_step frame h later decoded.0 quiet.0)

longer_list : {X : Type 0} (x : X) (xs : List X) → x ∷ xs ≡ xs → ⊥
longer_list x xs is = let e = ap length is in absurd (omega arith)

-- the last packet of a message
module _ (own source : ℕ) (small : own < 2 ^ 8) (small' : source < 2 ^ 8) (reading : Reading protocol spelling true) (o : Opening) where
  last_packet : (groups : List Group) (frame : Frame) (came : List Frame) (h : SessionEvent) (later : List SessionEvent) (packet : IsPacketOf (channel_of true source own) frame h later)
      → IsLonger packet.number packet.bytes later groups → AreDecoded protocol own source came later → AreQuiet spelling later → received groups ≡ packet_count (spelling.size o)
      → IsLastOf protocol spelling true reading own source small small' o came groups frame
  last_packet groups frame came h later packet more before quiet all =
      let held_before = held own source came later (Announced more.count more.packets ∷ more.before) before quiet more.rest in
      let offset = held_before.offset in
      let next = more.next in
      let flat_before = length_flat more.before in
      let both = length-append more.packets (flat more.before) in
      let count : received more.before + (length more.packets + 1) ≡ packet_count (spelling.size o) =
      ap (λ n. received more.before + n) (add-one (length more.packets)) ∙ sym (ap received more.groups_are) ∙ all in
      record {
        number = packet.number;
        bytes = packet.bytes;
        says = packet.says;
        before = more.packets ++ flat more.before;
        holds = held_before.holds;
        next = omega arith;
        all = omega arith;
        bytes_are = bytes_flat groups ∙ ap (λ g. joined (flat g)) more.groups_are;
      }

  pub last : (groups : List Group) (frame : Frame) (came : List Frame) (h : SessionEvent) (later : List SessionEvent) → IsDecoded protocol own source frame h
      → AreDecoded protocol own source came later → spelling.opens o ≡ true → AreQuiet spelling (h ∷ later) → spelling.Brings o (h ∷ later) groups
      → spelling.count groups ≡ spelling.total o → spelling.IsPacket h → IsLastOf protocol spelling true reading own source small small' o came groups frame
  last groups frame came h later decoded before opened quiet brought count packet =
      let channel = channel_of true source own in
      ⊎_elim
      (λ (nothing : SaysNothing channel frame h later). absurd (let e = sym (ap (λ h. parts_in (h ∷ later)) packet.2) ∙ nothing.brings in longer_list _ (parts_in later) e))
      (λ some. ⊎_elim
      (λ (offset : IsOffsetOf channel frame h later).
      let first = offset.brings groups brought.in_order in
      let e = sym (ap (λ h. parts_in (h ∷ later)) packet.2) ∙ brought.in_order ∙ ap parts_of first.groups_are in
      absurd (cc))
      (λ (is : IsPacketOf channel frame h later).
      last_packet groups frame came h later is (is.brings groups brought.in_order) before quiet.1 count)
      some)
      (decoded_step own source frame h later decoded quiet.0)
