-- The messages and replies of the TP steps agree with the history if the session does.
use Rattle.std.proofs.Common.{◌≡◌, ℕ, suc, ◌+◌, Bool, true, false, cond, eqb, List, ◌∷◌, ◌++◌, length, take, Option, Some, None, ap, ap₂, sym, subst, ◌∙◌, refl, arith, eq-eqb, eqb-true}
use Rattle.std.proofs.lemmas.Bool.{false≢true}
use Rattle.vt_can.specs.declared.transport.sessions.Timed.{Timed}
use Rattle.vt_can.specs.declared.transport.wire.Reason.TheVariants.{Disorder}
use Rattle.vt_can.specs.transport.Messages.{Message, joined}
use Rattle.vt_can.specs.transport.Histories.{Came, TimedOut, HasBrought, untimed}
use Rattle.vt_can.specs.transport.Steps.{event_step, session_after}
use Rattle.vt_can.proofs.lemmas.transport.OpenSessions.{last_of}
use Rattle.vt_transport.specs.declared.messages.Opening.{Opening}
use Rattle.vt_transport.specs.declared.messages.TpFrame.TheVariants.{Rts, Cts, EndOfMessage, Aborted, Data, Other}
use Rattle.vt_transport.specs.declared.messages.Reply.TheVariants.{Abort}
use Rattle.vt_transport.specs.Messages.{SessionEvent, spelling, IsOpen, IsWhole, IsAnswered, reply_to, packet_reply}
use Rattle.vt_transport.specs.SessionState.{SessionState}
use Rattle.vt_transport.specs.Steps.{SessionOutcome, after_packet, HasPackets}
use Rattle.vt_transport.specs.Protocol.{protocol, StepsAssembleMessages}
use Rattle.vt_transport.proofs.Assembly.{packet_more, packet_whole, packet_wrong, IsNext, packet_last, sent_packet, Matches, IsStanding, grown_bytes, matches}

-- the message of a step is whole in the history

whole_of_packets : (hs : List SessionEvent) (number : ℕ) (packet : List ℕ) (current : Timed SessionState) (message : Message) → IsStanding hs current
    → number ≡ current.session.received + 1 → current.session.received + 1 ≡ current.session.opening.packets
    → record { pgn = current.session.opening.pgn; bytes = take current.session.opening.size (current.session.bytes ++ packet) } ≡ message
    → IsWhole hs (Came (Data number packet)) message
whole_of_packets hs number packet current message k next all is =
    let count = k.2.2 in
    record {
      opening = current.session.opening;
      packets = packet ∷ k.0;
      sent = sent_packet hs number packet current.session.opening k.0 (omega arith) k.1.sent;
      all = omega arith;
      packet = (number, packet, refl);
      pgn = ap (λ (m : Message). m.pgn) (sym is);
      bytes = ap (λ (m : Message). m.bytes) (sym is) ∙ grown_bytes current packet current.session.opening k.0 k.2;
    }

whole_at : (now number : ℕ) (packet : List ℕ) (hs : List SessionEvent) (current : Timed SessionState) (message : Message) (whole : Bool)
    → eqb (current.session.received + 1) current.session.opening.packets ≡ whole → number ≡ current.session.received + 1 → IsStanding hs current
    → (after_packet now (Some current) number packet).message ≡ Some message → IsWhole hs (Came (Data number packet)) message
whole_at now number packet hs current message true all next k is =
    let some : Some (record { pgn = current.session.opening.pgn; bytes = take current.session.opening.size (current.session.bytes ++ packet) }) ≡ Some message =
    sym (ap (λ (out : SessionOutcome). out.message) (packet_whole now number packet current next (eqb-true _ _ all))) ∙ is in
    whole_of_packets hs number packet current message k next (eqb-true _ _ all) cc
whole_at now number packet hs current message false all next k is =
    let none = ap (λ (out : SessionOutcome). out.message) (packet_more now number packet current next (λ e. false≢true (sym all ∙ eq-eqb _ _ e))) in absurd cc

whole_number : (now number : ℕ) (packet : List ℕ) (hs : List SessionEvent) (current : Timed SessionState) (message : Message) (next : Bool)
    → eqb number (current.session.received + 1) ≡ next → IsStanding hs current
    → (after_packet now (Some current) number packet).message ≡ Some message → IsWhole hs (Came (Data number packet)) message
whole_number now number packet hs current message true next k is = whole_at now number packet hs current message _ refl (eqb-true _ _ next) k is
whole_number now number packet hs current message false next k is =
    let none = ap (λ (out : SessionOutcome). out.message) (packet_wrong now number packet current (λ e. false≢true (sym next ∙ eq-eqb _ _ e))) in absurd cc

whole_packet : (now number : ℕ) (packet : List ℕ) (hs : List SessionEvent) (session : Option (Timed SessionState)) (message : Message) → Matches hs session
    → (after_packet now session number packet).message ≡ Some message → IsWhole hs (Came (Data number packet)) message
whole_packet now number packet hs None message m is = absurd cc
whole_packet now number packet hs (Some current) message m is = whole_number now number packet hs current message _ refl (m.only current refl) is

whole_step : (now : ℕ) (hs : List SessionEvent) (session : Option (Timed SessionState)) (x : SessionEvent) (message : Message) → Matches hs session
    → (event_step protocol now session x).message ≡ Some message → IsWhole hs x message
whole_step now hs session TimedOut message m is = absurd cc
whole_step now hs session (Came (Rts o)) message m is = absurd cc
whole_step now hs session (Came (Cts count next pgn)) message m is = absurd cc
whole_step now hs session (Came (EndOfMessage pgn)) message m is = absurd cc
whole_step now hs session (Came (Aborted pgn)) message m is = absurd cc
whole_step now hs session (Came (Data number packet)) message m is = whole_packet now number packet hs session message m is
whole_step now hs session (Came Other) message m is = absurd cc

-- a whole message in the history is that of the step

message_of : (now number : ℕ) (packet : List ℕ) (session : Option (Timed SessionState)) (o : Opening) (packets : List (List ℕ)) (message : Message) → HasPackets session o packets
    → number ≡ length packets + 1 → length packets + 1 ≡ o.packets → message.pgn ≡ o.pgn → message.bytes ≡ take o.size (joined (packet ∷ packets))
    → (after_packet now session number packet).message ≡ Some message
message_of now number packet None o packets message h next all pgn bytes = absurd h
message_of now number packet (Some current) o packets message h next all pgn bytes =
    let count = h.2 in
    let every : current.session.opening.packets ≡ o.packets = ap (λ (q : Opening). q.packets) h.0 in
    ap (λ (out : SessionOutcome). out.message) (packet_whole now number packet current (omega arith) (omega arith))
    ∙ ap₂ (λ (p : ℕ) (bs : List ℕ). Some (record { pgn = p; bytes = bs })) (ap (λ (q : Opening). q.pgn) h.0 ∙ sym pgn)
    (grown_bytes current packet o packets h ∙ sym bytes)

message_next : (now number : ℕ) (packet : List ℕ) (hs : List SessionEvent) (session : Option (Timed SessionState)) (o : Opening) (packets : List (List ℕ)) (message : Message)
    → Matches hs session → IsNext hs number packet o packets → length packets ≡ o.packets → message.pgn ≡ o.pgn → message.bytes ≡ take o.size (joined packets)
    → (after_packet now session number packet).message ≡ Some message
message_next now number packet hs session o packets message m n all pgn bytes =
    let count : length packets ≡ suc (length n.before) = ap length n.all in
    message_of now number packet session o n.before message
    (m.stands o n.before (record { sent = n.sent; more = omega arith })) n.next (omega arith) pgn
    (bytes ∙ ap (λ (ps : List (List ℕ)). take o.size (joined ps)) n.all)

message_step : (now : ℕ) (hs : List SessionEvent) (session : Option (Timed SessionState)) (x : SessionEvent) (message : Message) → Matches hs session
    → IsWhole hs x message → (event_step protocol now session x).message ≡ Some message
message_step now hs session x message m whole =
    let number = whole.packet.0 in
    let packet = whole.packet.1 in
    let sent : HasBrought spelling (Came (Data number packet) ∷ hs) whole.opening whole.packets =
    subst (λ (y : SessionEvent). HasBrought spelling (y ∷ hs) whole.opening whole.packets) whole.packet.2 whole.sent in
    subst (λ (y : SessionEvent). (event_step protocol now session y).message ≡ Some message) (sym whole.packet.2)
    (message_next now number packet hs session whole.opening whole.packets message m
    (packet_last hs number packet whole.opening whole.packets (last_of spelling _ hs whole.opening whole.packets sent)) whole.all whole.pgn whole.bytes)

-- the reply of a step is that of the history

reply_at : (now number : ℕ) (packet : List ℕ) (current : Timed SessionState) (whole : Bool) → eqb (current.session.received + 1) current.session.opening.packets ≡ whole
    → number ≡ current.session.received + 1 → (after_packet now (Some current) number packet).reply ≡ reply_to current.session.opening (current.session.received + 1)
reply_at now number packet current true all next = ap (λ (out : SessionOutcome). out.reply) (packet_whole now number packet current next (eqb-true _ _ all))
reply_at now number packet current false all next =
    ap (λ (out : SessionOutcome). out.reply) (packet_more now number packet current next (λ e. false≢true (sym all ∙ eq-eqb _ _ e)))

reply_number : (now number : ℕ) (packet : List ℕ) (current : Timed SessionState) (next : Bool) → eqb number (current.session.received + 1) ≡ next
    → (after_packet now (Some current) number packet).reply ≡ packet_reply current.session.opening current.session.received number
reply_number now number packet current true next =
    let same : number ≡ current.session.received + 1 = eqb-true _ _ next in
    reply_at now number packet current _ refl same ∙ ap (reply_to current.session.opening) (sym same)
    ∙ sym (ap (λ (b : Bool). cond b (reply_to current.session.opening number) (Some (Abort Disorder current.session.opening.pgn))) next)
reply_number now number packet current false next =
    ap (λ (out : SessionOutcome). out.reply) (packet_wrong now number packet current (λ e. false≢true (sym next ∙ eq-eqb _ _ e)))
    ∙ sym (ap (λ (b : Bool). cond b (reply_to current.session.opening number) (Some (Abort Disorder current.session.opening.pgn))) next)

reply_packet : (now number : ℕ) (packet : List ℕ) (session : Option (Timed SessionState)) (o : Opening) (packets : List (List ℕ)) → HasPackets session o packets
    → (after_packet now session number packet).reply ≡ packet_reply o (length packets) number
reply_packet now number packet None o packets h = absurd h
reply_packet now number packet (Some current) o packets h =
    reply_number now number packet current _ refl
    ∙ ap₂ (λ (q : Opening) (count : ℕ). packet_reply q count number) h.0 h.2

no_reply : (now number : ℕ) (packet : List ℕ) (hs : List SessionEvent) (session : Option (Timed SessionState)) → Matches hs session
    → ((o : Opening) (packets : List (List ℕ)) → IsOpen hs o packets → ⊥) → (after_packet now session number packet).reply ≡ None
no_reply now number packet hs None m never = refl
no_reply now number packet hs (Some current) m never = let k = m.only current refl in absurd (never current.session.opening k.0 k.1)

reply_step : (now : ℕ) (hs : List SessionEvent) (session : Option (Timed SessionState)) (x : SessionEvent) → Matches hs session
    → IsAnswered hs x (event_step protocol now session x).reply
reply_step now hs session TimedOut m = refl
reply_step now hs session (Came (Rts o)) m = refl
reply_step now hs session (Came (Cts count next pgn)) m = refl
reply_step now hs session (Came (EndOfMessage pgn)) m = refl
reply_step now hs session (Came (Aborted pgn)) m = refl
reply_step now hs session (Came (Data number packet)) m =
    (λ o packets s. reply_packet now number packet session o packets (m.stands o packets s), no_reply now number packet hs session m)
reply_step now hs session (Came Other) m = refl

pub agrees : StepsAssembleMessages
agrees xs x =
    let m = matches xs in
    record {
      session = m;
      messages = λ message. (whole_step x.0 (untimed xs) (session_after protocol xs) x.1 message m, message_step x.0 (untimed xs) (session_after protocol xs) x.1 message m);
      replies = reply_step x.0 (untimed xs) (session_after protocol xs) x.1 m;
    }
