-- The ETP steps on the session of a source assemble the messages sent by it.
use Rattle.std.proofs.Common.{◌≡◌, ℕ, ◌+◌, ◌<◌, Bool, true, false, ◌&&◌, cond, eqb, ltb, List, [], ◌∷◌, ◌++◌, length, take, Option, Some, None, ap, ap₂, sym, subst, ◌∙◌, refl, arith, eq-eqb, eqb-true}
use Rattle.std.proofs.lemmas.Bool.{false≢true}
use Rattle.vt_can.specs.declared.transport.sessions.Timed.{Timed}
use Rattle.vt_can.specs.declared.transport.wire.Reason.TheVariants.{Disorder}
use Rattle.vt_can.specs.transport.Messages.{Message}
use Rattle.vt_can.specs.transport.Histories.{Came, TimedOut, HasBrought, untimed}
use Rattle.vt_can.specs.transport.Steps.{event_step, session_after}
use Rattle.vt_can.proofs.lemmas.transport.Booleans.{both_of}
use Rattle.vt_can.proofs.lemmas.transport.OpenSessions.{last_of}
use Rattle.vt_extended.specs.declared.messages.Opening.{Opening}
use Rattle.vt_extended.specs.declared.messages.Part.{Part}
use Rattle.vt_extended.specs.declared.messages.Part.TheVariants.{Offset, Packet}
use Rattle.vt_extended.specs.declared.messages.EtpFrame.TheVariants as etp
use Rattle.vt_extended.specs.declared.messages.Reply.TheVariants.{Abort}
use Rattle.vt_extended.specs.Messages.{SessionEvent, Group, Announced, packet_count_of, received, bytes_of, spelling, IsOpen, IsWhole, IsAnswered, reply_to, offset_reply, packet_reply, part_reply}
use Rattle.vt_extended.specs.SessionState.{SessionState}
use Rattle.vt_extended.specs.Steps.{SessionOutcome, is_open, after_offset, is_next, after_packet, after_part, HasGroups, HasPackets}
use Rattle.vt_extended.specs.Protocol.{protocol, StepsAssembleMessages}
use Rattle.vt_extended.proofs.Histories.{sent_packet, IsNext, packet_last}
use Rattle.vt_extended.proofs.DpoAndDtSteps.{offset_right, offset_wrong, grown_reply, packet_more, packet_whole, packet_wrong, is_open_as, is_next_as, is_next_true, grown_bytes}
use Rattle.vt_extended.proofs.SessionOfHistory.{Matches, matches, IsStanding, Next, InGroup, next_in}

-- the message of a step is whole in the history

abbrev whole_message : Timed SessionState → List ℕ → Message
whole_message current packet =
    record { pgn = current.session.opening.pgn; bytes = take current.session.opening.size (current.session.bytes ++ packet) }

whole_of_groups : (hs : List SessionEvent) (number : ℕ) (packet : List ℕ) (current : Timed SessionState) (message : Message) (groups : List Group)
    → Next current number current.session.opening groups → IsOpen hs current.session.opening groups
    → current.session.received + 1 ≡ packet_count_of current.session.opening → whole_message current packet ≡ message
    → IsWhole hs (Came (etp.Part (Packet number packet))) message
whole_of_groups hs number packet current message groups (InGroup count packets before next within h) stands all is =
    let was = h.received_is in
    record {
      opening = current.session.opening;
      packets = Announced count (packet ∷ packets) ∷ before;
      sent = sent_packet hs number packet current.session.opening count packets before next within stands.sent;
      all = omega arith;
      packet = (number, packet, refl);
      pgn = ap (λ (m : Message). m.pgn) (sym is);
      bytes = ap (λ (m : Message). m.bytes) (sym is) ∙ grown_bytes current.session packet current.session.opening count packets before h;
    }

whole_at : (now number : ℕ) (packet : List ℕ) (hs : List SessionEvent) (current : Timed SessionState) (message : Message) (whole : Bool)
    → eqb (current.session.received + 1) (packet_count_of current.session.opening) ≡ whole → is_next current.session number ≡ true → IsStanding hs current
    → (after_packet now current number packet).message ≡ Some message → IsWhole hs (Came (etp.Part (Packet number packet))) message
whole_at now number packet hs current message true all next k is =
    let some : Some (whole_message current packet) ≡ Some message =
    sym (ap (λ (out : SessionOutcome). out.message) (packet_whole now number packet current next (eqb-true _ _ all))) ∙ is in
    whole_of_groups hs number packet current message k.0 (next_in current number current.session.opening k.0 next k.2) k.1 (eqb-true _ _ all) (cc)
whole_at now number packet hs current message false all next k is =
    let none = ap (λ (out : SessionOutcome). out.message) (packet_more now number packet current next (λ e. false≢true (sym all ∙ eq-eqb _ _ e))) in absurd cc

whole_number : (now number : ℕ) (packet : List ℕ) (hs : List SessionEvent) (current : Timed SessionState) (message : Message) (next : Bool)
    → is_next current.session number ≡ next → IsStanding hs current
    → (after_packet now current number packet).message ≡ Some message → IsWhole hs (Came (etp.Part (Packet number packet))) message
whole_number now number packet hs current message true next k is = whole_at now number packet hs current message _ refl next k is
whole_number now number packet hs current message false next k is =
    let none = ap (λ (out : SessionOutcome). out.message) (packet_wrong now number packet current next) in absurd cc

no_message : (now count offset : ℕ) (current : Timed SessionState) (right : Bool) → is_open current.session count offset ≡ right
    → (after_offset now current count offset).message ≡ None
no_message now count offset current true right = ap (λ (out : SessionOutcome). out.message) (offset_right now count offset current right)
no_message now count offset current false wrong = ap (λ (out : SessionOutcome). out.message) (offset_wrong now count offset current wrong)

whole_part : (now : ℕ) (part : Part) (hs : List SessionEvent) (session : Option (Timed SessionState)) (message : Message) → Matches hs session
    → (after_part now session part).message ≡ Some message → IsWhole hs (Came (etp.Part part)) message
whole_part now part hs None message m is = absurd cc
whole_part now (Offset count offset) hs (Some current) message m is =
    let none = no_message now count offset current _ refl in absurd cc
whole_part now (Packet number packet) hs (Some current) message m is = whole_number now number packet hs current message _ refl (m.only current refl) is

whole_step : (now : ℕ) (hs : List SessionEvent) (session : Option (Timed SessionState)) (x : SessionEvent) (message : Message) → Matches hs session
    → (event_step protocol now session x).message ≡ Some message → IsWhole hs x message
whole_step now hs session TimedOut message m is = absurd cc
whole_step now hs session (Came (etp.Rts o)) message m is = absurd cc
whole_step now hs session (Came (etp.Part part)) message m is = whole_part now part hs session message m is
whole_step now hs session (Came etp.Aborted) message m is = absurd cc
whole_step now hs session (Came etp.Other) message m is = absurd cc

-- a whole message in the history is that of the step

message_of : (now number : ℕ) (packet : List ℕ) (session : Option (Timed SessionState)) (o : Opening) (count : ℕ) (packets : List (List ℕ)) (groups : List Group)
    (message : Message) → HasPackets session o (Announced count packets ∷ groups) → number ≡ length packets + 1 → length packets < count
    → received groups + length packets + 1 ≡ packet_count_of o → message.pgn ≡ o.pgn
    → message.bytes ≡ take o.size (bytes_of (Announced count (packet ∷ packets) ∷ groups))
    → (after_part now session (Packet number packet)).message ≡ Some message
message_of now number packet None o count packets groups message h next within all pgn bytes = absurd h
message_of now number packet (Some current) o count packets groups message h next within all pgn bytes =
    let was = h.received_is in
    let every : packet_count_of current.session.opening ≡ packet_count_of o = ap packet_count_of h.opening in
    ap (λ (out : SessionOutcome). out.message)
    (packet_whole now number packet current (is_next_true current.session count (length packets) number h.last.0 h.last.1 within next) (omega arith))
    ∙ ap₂ (λ (p : ℕ) (bs : List ℕ). Some (record { pgn = p; bytes = bs })) (ap (λ (q : Opening). q.pgn) h.opening ∙ sym pgn)
    (grown_bytes current.session packet o count packets groups h ∙ sym bytes)

message_next : (now number : ℕ) (packet : List ℕ) (hs : List SessionEvent) (session : Option (Timed SessionState)) (o : Opening) (groups : List Group) (message : Message)
    → Matches hs session → IsNext hs number packet o groups → received groups ≡ packet_count_of o → message.pgn ≡ o.pgn
    → message.bytes ≡ take o.size (bytes_of groups) → (after_part now session (Packet number packet)).message ≡ Some message
message_next now number packet hs session o groups message m n all pgn bytes =
    let count : received groups ≡ received (Announced n.count (packet ∷ n.packets) ∷ n.before) = ap received n.all in
    message_of now number packet session o n.count n.packets n.before message
    (m.stands o (Announced n.count n.packets ∷ n.before) (record { sent = n.sent; more = omega arith })) n.next n.more (omega arith) pgn
    (bytes ∙ ap (λ (gs : List Group). take o.size (bytes_of gs)) n.all)

message_step : (now : ℕ) (hs : List SessionEvent) (session : Option (Timed SessionState)) (x : SessionEvent) (message : Message) → Matches hs session
    → IsWhole hs x message → (event_step protocol now session x).message ≡ Some message
message_step now hs session x message m whole =
    let number = whole.packet.0 in
    let packet = whole.packet.1 in
    let sent : HasBrought spelling (Came (etp.Part (Packet number packet)) ∷ hs) whole.opening whole.packets =
    subst (λ (y : SessionEvent). HasBrought spelling (y ∷ hs) whole.opening whole.packets) whole.packet.2 whole.sent in
    subst (λ (y : SessionEvent). (event_step protocol now session y).message ≡ Some message) (sym whole.packet.2)
    (message_next now number packet hs session whole.opening whole.packets message m
    (packet_last hs number packet whole.opening whole.packets (last_of spelling _ hs whole.opening whole.packets sent)) whole.all whole.pgn whole.bytes)

-- the reply to a DPO

reply_offset : (now count offset : ℕ) (current : Timed SessionState) (o : Opening) (groups : List Group) (right : Bool) → is_open current.session count offset ≡ right
    → HasGroups current.session o groups → (after_offset now current count offset).reply ≡ offset_reply o groups count offset
reply_offset now count offset current o groups true right h =
    let tests = sym (is_open_as current.session o groups count offset h) ∙ right in
    ap (λ (out : SessionOutcome). out.reply) (offset_right now count offset current right)
    ∙ sym (ap (λ (b : Bool). cond b None (Some (Abort Disorder o.pgn))) tests)
reply_offset now count offset current o groups false wrong h =
    let tests = sym (is_open_as current.session o groups count offset h) ∙ wrong in
    ap (λ (out : SessionOutcome). out.reply) (offset_wrong now count offset current wrong)
    ∙ ap (λ (q : Opening). Some (Abort Disorder q.pgn)) h.opening
    ∙ sym (ap (λ (b : Bool). cond b None (Some (Abort Disorder o.pgn))) tests)

-- the reply to a packet

reply_whole : (now number : ℕ) (packet : List ℕ) (current : Timed SessionState) (whole : Bool)
    → eqb (current.session.received + 1) (packet_count_of current.session.opening) ≡ whole → is_next current.session number ≡ true
    → (after_packet now current number packet).reply ≡ grown_reply current
reply_whole now number packet current true all next =
    ap (λ (out : SessionOutcome). out.reply) (packet_whole now number packet current next (eqb-true _ _ all))
reply_whole now number packet current false all next =
    ap (λ (out : SessionOutcome). out.reply) (packet_more now number packet current next (λ e. false≢true (sym all ∙ eq-eqb _ _ e)))

reply_grown : (current : Timed SessionState) (o : Opening) (number count : ℕ) (packets : List (List ℕ)) (groups : List Group)
    → HasGroups current.session o (Announced count packets ∷ groups) → number ≡ length packets + 1
    → grown_reply current ≡ reply_to o (received groups + number) (eqb number count)
reply_grown current o number count packets groups h next =
    let was = h.received_is in
    let t = h.last.1 in
    let number_is : current.session.arrived + 1 ≡ number = omega arith in
    let so_far : current.session.received + 1 ≡ received groups + number = omega arith in
    ap (λ (q : Opening). reply_to q (current.session.received + 1) (eqb (current.session.arrived + 1) current.session.announced)) h.opening
    ∙ ap₂ (λ (j : ℕ) (b : Bool). reply_to o j b) so_far (ap₂ eqb number_is h.last.0)

reply_number : (now number : ℕ) (packet : List ℕ) (current : Timed SessionState) (o : Opening) (groups : List Group) (next : Bool)
    → is_next current.session number ≡ next → HasGroups current.session o groups
    → (after_packet now current number packet).reply ≡ packet_reply o groups number
reply_number now number packet current o [] true next h =
    let none : (ltb 0 0 && eqb number 1) ≡ true = sym (is_next_as current.session 0 0 number h.last.0 h.last.1) ∙ next in absurd cc
reply_number now number packet current o [] false next h =
    ap (λ (out : SessionOutcome). out.reply) (packet_wrong now number packet current next)
    ∙ ap (λ (q : Opening). Some (Abort Disorder q.pgn)) h.opening
reply_number now number packet current o (Announced count packets ∷ groups) true next h =
    let tests = sym (is_next_as current.session count (length packets) number h.last.0 h.last.1) ∙ next in
    let same = eqb-true _ _ (both_of (ltb (length packets) count) (eqb number (length packets + 1)) tests).second in
    reply_whole now number packet current _ refl next ∙ reply_grown current o number count packets groups h same
    ∙ sym (ap (λ (b : Bool). cond b (reply_to o (received groups + number) (eqb number count)) (Some (Abort Disorder o.pgn))) tests)
reply_number now number packet current o (Announced count packets ∷ groups) false next h =
    let tests = sym (is_next_as current.session count (length packets) number h.last.0 h.last.1) ∙ next in
    ap (λ (out : SessionOutcome). out.reply) (packet_wrong now number packet current next)
    ∙ ap (λ (q : Opening). Some (Abort Disorder q.pgn)) h.opening
    ∙ sym (ap (λ (b : Bool). cond b (reply_to o (received groups + number) (eqb number count)) (Some (Abort Disorder o.pgn))) tests)

-- the reply to each session event

reply_part : (now : ℕ) (part : Part) (session : Option (Timed SessionState)) (o : Opening) (groups : List Group) → HasPackets session o groups
    → (after_part now session part).reply ≡ part_reply o groups part
reply_part now part None o groups h = absurd h
reply_part now (Offset count offset) (Some current) o groups h = reply_offset now count offset current o groups _ refl h
reply_part now (Packet number packet) (Some current) o groups h = reply_number now number packet current o groups _ refl h

no_reply : (now : ℕ) (part : Part) (hs : List SessionEvent) (session : Option (Timed SessionState)) → Matches hs session
    → ((o : Opening) (groups : List Group) → IsOpen hs o groups → ⊥) → (after_part now session part).reply ≡ None
no_reply now part hs None m never = refl
no_reply now part hs (Some current) m never = let k = m.only current refl in absurd (never current.session.opening k.0 k.1)

reply_step : (now : ℕ) (hs : List SessionEvent) (session : Option (Timed SessionState)) (x : SessionEvent) → Matches hs session
    → IsAnswered hs x (event_step protocol now session x).reply
reply_step now hs session TimedOut m = refl
reply_step now hs session (Came (etp.Rts o)) m = refl
reply_step now hs session (Came (etp.Part part)) m =
    (λ o groups s. reply_part now part session o groups (m.stands o groups s), no_reply now part hs session m)
reply_step now hs session (Came etp.Aborted) m = refl
reply_step now hs session (Came etp.Other) m = refl

pub agrees : StepsAssembleMessages
agrees xs x =
    let m = matches xs in
    record {
      session = m;
      messages = λ message. (whole_step x.0 (untimed xs) (session_after protocol xs) x.1 message m, message_step x.0 (untimed xs) (session_after protocol xs) x.1 message m);
      replies = reply_step x.0 (untimed xs) (session_after protocol xs) x.1 m;
    }
