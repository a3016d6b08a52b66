-- The TP steps on the session of a source assemble the messages sent by it.
use Rattle.std.proofs.Common.{◌≡◌, ℕ, suc, ◌+◌, ◌<◌, max, Bool, true, false, cond, eqb, List, [], ◌∷◌, ◌++◌, length, take, Option, Some, None, ap, ap₂, sym, subst, ◌∙◌, refl, arith, eq-eqb, eqb-true, ne_eqb}
use Rattle.std.proofs.lemmas.Bool.{false≢true}
use Rattle.vt_can.specs.Assigned.{VT_TO_ECU}
use Rattle.vt_can.specs.declared.transport.sessions.Timed.{Timed}
use Rattle.vt_can.specs.declared.transport.wire.Reason.TheVariants.{Disorder}
use Rattle.vt_can.specs.transport.Messages.{joined}
use Rattle.vt_can.specs.transport.Histories.{Came, TimedOut, HasBrought, AreQuiet, untimed}
use Rattle.vt_can.specs.transport.Protocols.{ended}
use Rattle.vt_can.specs.transport.Steps as steps
use Rattle.vt_can.specs.transport.Steps.{event_step, session_after}
use Rattle.vt_can.proofs.lemmas.transport.TruncatedBytes.{take_again, take_none}
use Rattle.vt_can.proofs.lemmas.transport.OpenSessions.{sent_more, Last, AtRequest, Later, last_of, matches_none, matches_quiet, matches_end, matches_request}
use Rattle.vt_transport.specs.declared.messages.Opening.{Opening}
use Rattle.vt_transport.specs.declared.messages.TpFrame.TheVariants.{Rts, Cts, EndOfMessage, Aborted, Data, Other}
use Rattle.vt_transport.specs.declared.messages.Reply.TheVariants.{Abort}
use Rattle.vt_transport.specs.Messages.{SessionEvent, opens, packets_in, numbered, spelling, reply_to}
use Rattle.vt_transport.specs.SessionState.{SessionState}
use Rattle.vt_transport.specs.Steps.{SessionOutcome, after_packet, HasPackets}
use Rattle.vt_transport.specs.Protocol.{protocol}
use Rattle.vt_transport.proofs.Openings.{opened_packets}

-- the session of the steps is the one open in the history
abbrev pub opening_of : SessionState → Opening
opening_of current = current.opening

abbrev pub Matches : List SessionEvent → Option (Timed SessionState) → Type 0
Matches = steps.Matches spelling opening_of HasPackets

abbrev pub IsStanding : List SessionEvent → Timed SessionState → Type 0
IsStanding = steps.IsStanding spelling opening_of HasPackets

-- the step of a packet, in its three cases

pub packet_more : (now number : ℕ) (packet : List ℕ) (current : Timed SessionState) → number ≡ current.session.received + 1
    → (current.session.received + 1 ≡ current.session.opening.packets → ⊥)
    → ◌≡◌ {A = SessionOutcome} (after_packet now (Some current) number packet) (record {
      session = Some (record { last = max now current.last; session = record { opening = current.session.opening; bytes = take current.session.opening.size (current.session.bytes ++ packet); received = current.session.received + 1 } });
      reply = reply_to current.session.opening (current.session.received + 1);
      message = None;
    })
packet_more now number packet current next more =
    let e : eqb number (current.session.received + 1) ≡ true = eq-eqb _ _ next in
    let f : eqb (current.session.received + 1) current.session.opening.packets ≡ false = ne_eqb _ _ more in
    rw (e, f)

pub packet_whole : (now number : ℕ) (packet : List ℕ) (current : Timed SessionState) → number ≡ current.session.received + 1
    → current.session.received + 1 ≡ current.session.opening.packets
    → ◌≡◌ {A = SessionOutcome} (after_packet now (Some current) number packet) (record {
      session = None;
      reply = reply_to current.session.opening (current.session.received + 1);
      message = Some (record { pgn = current.session.opening.pgn; bytes = take current.session.opening.size (current.session.bytes ++ packet) });
    })
packet_whole now number packet current next whole =
    let e : eqb number (current.session.received + 1) ≡ true = eq-eqb _ _ next in
    let f : eqb (current.session.received + 1) current.session.opening.packets ≡ true = eq-eqb _ _ whole in
    rw (e, f)

pub packet_wrong : (now number : ℕ) (packet : List ℕ) (current : Timed SessionState) → (number ≡ current.session.received + 1 → ⊥)
    → after_packet now (Some current) number packet ≡ ended (Abort Disorder current.session.opening.pgn)
packet_wrong now number packet current wrong =
    let e : eqb number (current.session.received + 1) ≡ false = ne_eqb _ _ wrong in
    rw e

-- a history that ends with a packet, and the packets before it
pub record IsNext (hs : List SessionEvent) (number : ℕ) (packet : List ℕ) (o : Opening) (packets : List (List ℕ)) : Type 0 where
  pub before : List (List ℕ)
  pub all : packets ≡ packet ∷ before
  pub next : number ≡ length before + 1
  pub sent : HasBrought spelling hs o before

next_of : (hs later earlier : List SessionEvent) (number : ℕ) (packet : List ℕ) (o : Opening) (packets : List (List ℕ))
    → hs ≡ later ++ Came (Rts o) ∷ earlier → opens o ≡ true → AreQuiet spelling later → (number, packet) ∷ packets_in later ≡ numbered packets
    → IsNext hs number packet o packets
next_of hs later earlier number packet o [] split opened quiet in_order = absurd cc
next_of hs later earlier number packet o (last ∷ before) split opened quiet in_order =
    let pair : ◌≡◌ {A = ℕ × List ℕ} (number, packet) (length before + 1, last) = cc in
    record {
      before = before;
      all = ap (λ (p : List ℕ). p ∷ before) (sym (ap (λ (d : ℕ × List ℕ). d.1) pair));
      next = ap (λ (d : ℕ × List ℕ). d.0) pair;
      sent = record { earlier = earlier; later = later; split = split; opened = opened; quiet = quiet; brought = cc };
    }

not_rts : (number : ℕ) (packet : List ℕ) (o : Opening) → Came (Data number packet) ≡ Came (Rts o) → ⊥
not_rts number packet o e = cc

-- the last packet of a history
pub packet_last : (hs : List SessionEvent) (number : ℕ) (packet : List ℕ) (o : Opening) (packets : List (List ℕ))
    → Last spelling (Came (Data number packet)) hs o packets → IsNext hs number packet o packets
packet_last hs number packet o packets (AtRequest is opened none) = absurd (not_rts number packet o is)
packet_last hs number packet o packets (Later later earlier split opened quiet rest in_order) =
    next_of hs later earlier number packet o packets split opened rest in_order

pub sent_packet : (hs : List SessionEvent) (number : ℕ) (packet : List ℕ) (o : Opening) (packets : List (List ℕ)) → number ≡ length packets + 1
    → HasBrought spelling hs o packets → HasBrought spelling (Came (Data number packet) ∷ hs) o (packet ∷ packets)
sent_packet hs number packet o packets next =
    sent_more spelling hs (Came (Data number packet)) o packets (packet ∷ packets) tt
    (λ later in_order. ap₂ (λ (n : ℕ) (ys : List (ℕ × List ℕ)). (n, packet) ∷ ys) next in_order)

-- the session after an RTS

abbrev fresh : ℕ → Opening → Timed SessionState
fresh now o = record { last = now; session = record { opening = o; bytes = []; received = 0 } }

has_fresh : (now : ℕ) (o : Opening) → HasPackets (Some (fresh now o)) o []
has_fresh now o = (refl, sym (take_none o.size), refl)

no_packets : (packets : List (List ℕ)) → [] ≡ numbered packets → packets ≡ []
no_packets [] e = refl
no_packets (packet ∷ packets) e = absurd cc

matches_rts : (now : ℕ) (hs : List SessionEvent) (o : Opening) → Matches (Came (Rts o) ∷ hs) (cond (opens o) (Some (fresh now o)) None)
matches_rts now hs o =
    matches_request spelling opening_of HasPackets o (fresh now o) [] refl (λ quiet. quiet) (λ o' e. cc) refl (opened_packets o)
    (λ packets none. subst (λ (ps : List (List ℕ)). HasPackets (Some (fresh now o)) o ps) (sym (no_packets packets none)) (has_fresh now o)) hs

-- the session after a packet

abbrev grown : ℕ → Timed SessionState → List ℕ → Timed SessionState
grown now current packet = record {
  last = max now current.last;
  session = record { opening = current.session.opening; bytes = take current.session.opening.size (current.session.bytes ++ packet); received = current.session.received + 1 };
}

-- the bytes of a session with one more packet
pub grown_bytes : (current : Timed SessionState) (packet : List ℕ) (o : Opening) (packets : List (List ℕ)) → HasPackets (Some current) o packets
    → take current.session.opening.size (current.session.bytes ++ packet) ≡ take o.size (joined (packet ∷ packets))
grown_bytes current packet o packets h =
    ap (λ (q : Opening). take q.size (current.session.bytes ++ packet)) h.0
    ∙ ap (λ (bytes : List ℕ). take o.size (bytes ++ packet)) h.1 ∙ take_again o.size (joined packets) packet

has_grown : (now : ℕ) (current : Timed SessionState) (packet : List ℕ) (o : Opening) (packets : List (List ℕ)) → HasPackets (Some current) o packets
    → HasPackets (Some (grown now current packet)) o (packet ∷ packets)
has_grown now current packet o packets h =
    let count = h.2 in
    (h.0, grown_bytes current packet o packets h, omega arith)

has_packet : (now number : ℕ) (packet : List ℕ) (session : Option (Timed SessionState)) (o : Opening) (packets : List (List ℕ)) → HasPackets session o packets
    → number ≡ length packets + 1 → length packets + 1 < o.packets → HasPackets (after_packet now session number packet).session o (packet ∷ packets)
has_packet now number packet None o packets h next more = absurd h
has_packet now number packet (Some current) o packets h next more =
    let count = h.2 in
    let all : current.session.opening.packets ≡ o.packets = ap (λ (q : Opening). q.packets) h.0 in
    subst (λ (out : SessionOutcome). HasPackets out.session o (packet ∷ packets)) (sym (packet_more now number packet current (omega arith) (λ e. omega arith)))
    (has_grown now current packet o packets h)

stands_packet : (now number : ℕ) (packet : List ℕ) (hs : List SessionEvent) (session : Option (Timed SessionState)) (o : Opening) (packets : List (List ℕ))
    → Matches hs session → IsNext hs number packet o packets → length packets < o.packets → HasPackets (after_packet now session number packet).session o packets
stands_packet now number packet hs session o packets m n more =
    let count : length packets ≡ suc (length n.before) = ap length n.all in
    subst (λ (ps : List (List ℕ)). HasPackets (after_packet now session number packet).session o ps) (sym n.all)
    (has_packet now number packet session o n.before (m.stands o n.before (record { sent = n.sent; more = omega arith })) n.next (omega arith))

-- an open session after its next packet
standing_grown : (now number : ℕ) (packet : List ℕ) (hs : List SessionEvent) (current : Timed SessionState) → IsStanding hs current → number ≡ current.session.received + 1
    → (current.session.received + 1 ≡ current.session.opening.packets → ⊥) → IsStanding (Came (Data number packet) ∷ hs) (grown now current packet)
standing_grown now number packet hs current k next more =
    let count = k.2.2 in
    let below = k.1.more in (
      packet ∷ k.0,
      record { sent = sent_packet hs number packet current.session.opening k.0 (omega arith) k.1.sent; more = omega (arith, more) },
      has_grown now current packet current.session.opening k.0 k.2,
    )

standing_at : (now number : ℕ) (packet : List ℕ) (hs : List SessionEvent) (current current' : Timed SessionState) (whole : Bool)
    → eqb (current.session.received + 1) current.session.opening.packets ≡ whole → number ≡ current.session.received + 1 → IsStanding hs current
    → (after_packet now (Some current) number packet).session ≡ Some current' → IsStanding (Came (Data number packet) ∷ hs) current'
standing_at now number packet hs current current' true all next k is =
    let none = ap (λ (out : SessionOutcome). out.session) (packet_whole now number packet current next (eqb-true _ _ all)) in absurd cc
standing_at now number packet hs current current' false all next k is =
    let more : current.session.received + 1 ≡ current.session.opening.packets → ⊥ = λ e. false≢true (sym all ∙ eq-eqb _ _ e) in
    let some : Some (grown now current packet) ≡ Some current' =
    sym (ap (λ (out : SessionOutcome). out.session) (packet_more now number packet current next more)) ∙ is in
    let same : grown now current packet ≡ current' = cc in
    subst (IsStanding (Came (Data number packet) ∷ hs)) same (standing_grown now number packet hs current k next more)

standing_number : (now number : ℕ) (packet : List ℕ) (hs : List SessionEvent) (current current' : Timed SessionState) (next : Bool) → eqb number (current.session.received + 1) ≡ next
    → IsStanding hs current → (after_packet now (Some current) number packet).session ≡ Some current' → IsStanding (Came (Data number packet) ∷ hs) current'
standing_number now number packet hs current current' true next k is =
    standing_at now number packet hs current current' _ refl (eqb-true _ _ next) k is
standing_number now number packet hs current current' false next k is =
    let none = ap (λ (out : SessionOutcome). out.session) (packet_wrong now number packet current (λ e. false≢true (sym next ∙ eq-eqb _ _ e))) in absurd cc

standing_packet : (now number : ℕ) (packet : List ℕ) (hs : List SessionEvent) (session : Option (Timed SessionState)) (current' : Timed SessionState) → Matches hs session
    → (after_packet now session number packet).session ≡ Some current' → IsStanding (Came (Data number packet) ∷ hs) current'
standing_packet now number packet hs None current' m is = absurd cc
standing_packet now number packet hs (Some current) current' m is = standing_number now number packet hs current current' _ refl (m.only current refl) is

matches_packet : (now number : ℕ) (packet : List ℕ) (hs : List SessionEvent) (session : Option (Timed SessionState)) → Matches hs session
    → Matches (Came (Data number packet) ∷ hs) (after_packet now session number packet).session
matches_packet now number packet hs session m = record {
  stands = λ o packets s. stands_packet now number packet hs session o packets m (packet_last hs number packet o packets (last_of spelling _ hs o packets s.sent)) s.more;
  only = λ current' is. standing_packet now number packet hs session current' m is;
}

-- the session after each session event

matches_abort : (hs : List SessionEvent) (session : Option (Timed SessionState)) (pgn : ℕ) (b : Bool) → eqb pgn VT_TO_ECU ≡ b → Matches hs session
    → Matches (Came (Aborted pgn) ∷ hs) (cond b session None)
matches_abort hs session pgn true is m =
    matches_quiet spelling opening_of HasPackets hs session (Came (Aborted pgn))
    (record { quiet = eqb-true _ _ is; other = λ o e. cc; more = λ o later packets brought. brought; less = λ o later packets brought. brought }) m
matches_abort hs session pgn false is m =
    matches_end spelling opening_of HasPackets hs (Came (Aborted pgn)) (record { loud = λ quiet. false≢true (sym is ∙ eq-eqb _ _ quiet); other = λ o e. cc })

matches_step : (now : ℕ) (hs : List SessionEvent) (session : Option (Timed SessionState)) (x : SessionEvent) → Matches hs session
    → Matches (x ∷ hs) (event_step protocol now session x).session
matches_step now hs session TimedOut m = matches_end spelling opening_of HasPackets hs TimedOut (record { loud = λ quiet. quiet; other = λ o e. cc })
matches_step now hs session (Came (Rts o)) m = matches_rts now hs o
matches_step now hs session (Came (Cts count next pgn)) m =
    matches_quiet spelling opening_of HasPackets hs session (Came (Cts count next pgn))
    (record { quiet = tt; other = λ o e. cc; more = λ o later packets brought. brought; less = λ o later packets brought. brought }) m
matches_step now hs session (Came (EndOfMessage pgn)) m =
    matches_quiet spelling opening_of HasPackets hs session (Came (EndOfMessage pgn))
    (record { quiet = tt; other = λ o e. cc; more = λ o later packets brought. brought; less = λ o later packets brought. brought }) m
matches_step now hs session (Came (Aborted pgn)) m = matches_abort hs session pgn _ refl m
matches_step now hs session (Came (Data number packet)) m = matches_packet now number packet hs session m
matches_step now hs session (Came Other) m =
    matches_quiet spelling opening_of HasPackets hs session (Came Other)
    (record { quiet = tt; other = λ o e. cc; more = λ o later packets brought. brought; less = λ o later packets brought. brought }) m

pub matches : (xs : List (ℕ × SessionEvent)) → Matches (untimed xs) (session_after protocol xs)
matches [] = matches_none spelling opening_of HasPackets
matches (x ∷ xs) = matches_step x.0 (untimed xs) (session_after protocol xs) x.1 (matches xs)
