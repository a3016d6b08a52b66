-- A sender's call that inserts or removes a session gives the answer of the specification.
use Rattle.std.proofs.Common.{◌≡◌, ℕ, ◌<◌, ◌≤◌, ◌+◌, ◌-◌, min, true, false, eqb, List, [], ◌∷◌, map, Option, Some, None, ap, sym, subst, ◌∙◌, refl, arith, eq-eqb, ne_eqb, lt-ltb, le-ltb, ltb}
use Rattle.std.specs.FinMap as finite
use Rattle.vt_can.specs.Assigned.{VT_TO_ECU}
use Rattle.vt_can.specs.declared.frames.frame.Frame.{Frame}
use Rattle.vt_can.specs.declared.transport.sessions.Timed.{Timed}
use Rattle.vt_can.specs.transport.Sessions.{ByAddress}
use Rattle.vt_can.specs.transport.Messages.{Message}
use Rattle.vt_transport.specs.declared.messages.TpFrame.{TpFrame}
use Rattle.vt_transport.specs.declared.messages.TpFrame.TheVariants.{Cts, EndOfMessage, Aborted}
use Rattle.vt_can.specs.declared.transport.wire.Reason.TheVariants.{Disorder}
use Rattle.vt_transport.specs.declared.messages.Reply.TheVariants.{Abort}
use Rattle.vt_transport.specs.Wire.{reply_frame, packet_frame}
use Rattle.vt_transport.specs.Senders.{SenderState, Answer, Answers, answer_of, answered, session_answer, unanswered, refreshed, packet_count_of, numbers_from, is_of_group}
use Rattle.vt_can.proofs.lemmas.transport.ByAddress.{get-put, get-removed, removed_others, put_again_others}

pub removed_answers : (old new : SenderState) (to : ℕ) (m : ByAddress Message) (given : Answer) (frames : List Frame) → old.sessions ≡ m → new.own_address ≡ old.own_address
    → new.sessions ≡ finite.remove m to → given.session ≡ None → frames ≡ given.frames → Answers old new to given frames
removed_answers old new to m given frames was own_address is none frames_are = record {
  own_address = own_address;
  session = ap (λ (n : ByAddress Message). finite.get n to) is ∙ get-removed m to ∙ sym none;
  frames_are = frames_are;
  others = removed_others old.sessions new.sessions to m was is;
}

pub put_answers : (old new : SenderState) (to : ℕ) (timed : Timed Message) (m left : ByAddress Message) (given : Answer) (frames : List Frame)
    → old.sessions ≡ m → left ≡ finite.remove m to → new.own_address ≡ old.own_address → new.sessions ≡ finite.insert left to timed → given.session ≡ Some timed
    → frames ≡ given.frames → Answers old new to given frames
put_answers old new to timed m left given frames was removed own_address is stays frames_are = record {
  own_address = own_address;
  session = ap (λ (n : ByAddress Message). finite.get n to) is ∙ get-put left to timed ∙ sym stays;
  frames_are = frames_are;
  others = put_again_others old.sessions new.sessions to timed m left was removed is;
}

-- the answer of the removed session, or without a session
pub answers_removed : (old new : SenderState) (to now : ℕ) (frame : TpFrame) (m : ByAddress Message) (removed : Option (Timed Message)) (timed : Timed Message)
    (given : Answer) (frames : List Frame) → old.sessions ≡ m → removed ≡ finite.get m to → removed ≡ Some timed
    → given ≡ session_answer old.own_address to now timed frame → Answers old new to given frames → Answers old new to (answer_of old to now (Some frame)) frames
answers_removed old new to now frame m removed timed given frames was found is given_is answers =
    let same_session : Some timed ≡ finite.get old.sessions to =
    sym is ∙ found ∙ ap (λ (n : ByAddress Message). finite.get n to) (sym was) in
    subst (λ (o : Answer). Answers old new to o frames)
    (given_is ∙ ap (λ (k : Option (Timed Message)). answered old.own_address to now k (Some frame)) same_session) answers

pub answers_absent : (old new : SenderState) (to now : ℕ) (frame : TpFrame) (m : ByAddress Message) (removed : Option (Timed Message)) (frames : List Frame)
    → old.sessions ≡ m → removed ≡ finite.get m to → removed ≡ None
    → Answers old new to (unanswered None) frames → Answers old new to (answer_of old to now (Some frame)) frames
answers_absent old new to now frame m removed frames was found is answers =
    let absent : ◌≡◌ {A = Option (Timed Message)} None (finite.get old.sessions to) =
    sym is ∙ found ∙ ap (λ (n : ByAddress Message). finite.get n to) (sym was) in
    subst (λ (o : Answer). Answers old new to o frames)
    (ap (λ (k : Option (Timed Message)). answered old.own_address to now k (Some frame)) absent) answers

pub answers_as : (old new : SenderState) (to : ℕ) (given given' : Answer) (frames : List Frame) → given ≡ given' → Answers old new to given frames
    → Answers old new to given' frames
answers_as old new to given given' frames is answers = subst (λ (o : Answer). Answers old new to o frames) is answers

-- the answers to a CTS

pub of_another_group : (own_address to now : ℕ) (current : Timed Message) (count next pgn : ℕ) → (pgn ≡ current.session.pgn → ⊥)
    → unanswered (Some current) ≡ session_answer own_address to now current (Cts count next pgn)
of_another_group own_address to now current count next pgn other =
    let e : eqb pgn current.session.pgn ≡ false = ne_eqb _ _ other in rw e

pub waiting : (own_address to now : ℕ) (current : Timed Message) (count next pgn : ℕ) → pgn ≡ current.session.pgn → count ≡ 0
    → unanswered (refreshed now current) ≡ session_answer own_address to now current (Cts count next pgn)
waiting own_address to now current count next pgn same none =
    let e : eqb pgn current.session.pgn ≡ true = eq-eqb _ _ same in
    let f : eqb count 0 ≡ true = eq-eqb _ _ none in
    rw (e, f)

abbrev pub refusal : ℕ → ℕ → Timed Message → Answer
refusal own_address to current = record { session = None; frames = reply_frame own_address to (Abort Disorder current.session.pgn) ∷ [] }

pub packet_zero : (own_address to now : ℕ) (current : Timed Message) (count next pgn : ℕ) → pgn ≡ current.session.pgn → (count ≡ 0 → ⊥) → next ≡ 0
    → refusal own_address to current ≡ session_answer own_address to now current (Cts count next pgn)
packet_zero own_address to now current count next pgn same some zeroth =
    let e : eqb pgn current.session.pgn ≡ true = eq-eqb _ _ same in
    let f : eqb count 0 ≡ false = ne_eqb _ _ some in
    let g : eqb next 0 ≡ true = eq-eqb _ _ zeroth in
    rw (e, f, g)

pub past_the_last : (own_address to now : ℕ) (current : Timed Message) (count next pgn : ℕ) → pgn ≡ current.session.pgn → (count ≡ 0 → ⊥) → (next ≡ 0 → ⊥)
    → packet_count_of current.session < next → refusal own_address to current ≡ session_answer own_address to now current (Cts count next pgn)
past_the_last own_address to now current count next pgn same some first past =
    let e : eqb pgn current.session.pgn ≡ true = eq-eqb _ _ same in
    let f : eqb count 0 ≡ false = ne_eqb _ _ some in
    let g : eqb next 0 ≡ false = ne_eqb _ _ first in
    let h : ltb (packet_count_of current.session) next ≡ true = lt-ltb _ _ past in
    rw (e, f, g, h)

abbrev pub packets_from : ℕ → ℕ → ℕ → Timed Message → ℕ → ℕ → Answer
packets_from own_address to now current count next = record {
  session = refreshed now current;
  frames = map (packet_frame own_address to current.session.bytes) (numbers_from next (min count (packet_count_of current.session + 1 - next)));
}

pub packets_sent : (own_address to now : ℕ) (current : Timed Message) (count next pgn : ℕ) → pgn ≡ current.session.pgn → (count ≡ 0 → ⊥) → (next ≡ 0 → ⊥)
    → next ≤ packet_count_of current.session → packets_from own_address to now current count next ≡ session_answer own_address to now current (Cts count next pgn)
packets_sent own_address to now current count next pgn same some first within =
    let e : eqb pgn current.session.pgn ≡ true = eq-eqb _ _ same in
    let f : eqb count 0 ≡ false = ne_eqb _ _ some in
    let g : eqb next 0 ≡ false = ne_eqb _ _ first in
    let h : ltb (packet_count_of current.session) next ≡ false = le-ltb _ _ within in
    rw (e, f, g, h)

-- the answers to an end of message and to an abort

pub ended_message : (own_address to now pgn : ℕ) (current : Option (Timed Message)) → is_of_group pgn current ≡ true
    → unanswered None ≡ answered own_address to now current (Some (EndOfMessage pgn))
ended_message own_address to now pgn None is = refl
ended_message own_address to now pgn (Some current) is = rw is

pub message_stays : (own_address to now pgn : ℕ) (current : Option (Timed Message)) → is_of_group pgn current ≡ false
    → unanswered current ≡ answered own_address to now current (Some (EndOfMessage pgn))
message_stays own_address to now pgn None is = refl
message_stays own_address to now pgn (Some current) is = rw is

pub aborted_message : (own_address to now pgn : ℕ) (current : Option (Timed Message)) → pgn ≡ VT_TO_ECU
    → unanswered None ≡ answered own_address to now current (Some (Aborted pgn))
aborted_message own_address to now pgn None is = refl
aborted_message own_address to now pgn (Some current) is =
    let e : eqb pgn VT_TO_ECU ≡ true = eq-eqb _ _ is in rw e

-- the frames of an answer, carried over equalities

pub refusal_frames : (own_address own_address' to pgn pgn' : ℕ) (frame : Frame) (frames : List Frame) → frames ≡ frame ∷ [] → frame ≡ reply_frame own_address to (Abort Disorder pgn)
    → own_address ≡ own_address' → pgn ≡ pgn' → frames ≡ reply_frame own_address' to (Abort Disorder pgn') ∷ []
refusal_frames own_address own_address' to pgn pgn' frame frames is frame_is address_is pgn_is =
    is ∙ ap (λ (f : Frame). f ∷ []) (frame_is ∙ ap (λ (k : ℕ). reply_frame k to (Abort Disorder pgn)) address_is
    ∙ ap (λ (k : ℕ). reply_frame own_address' to (Abort Disorder k)) pgn_is)

pub sent_frames : (own_address own_address' to : ℕ) (bytes numbers : List ℕ) (frames : List Frame) → frames ≡ map (packet_frame own_address to bytes) numbers → own_address ≡ own_address'
    → frames ≡ map (packet_frame own_address' to bytes) numbers
sent_frames own_address own_address' to bytes numbers frames is address_is =
    is ∙ ap (λ (k : ℕ). map (packet_frame k to bytes) numbers) address_is

pub count_below : (result packets next : ℕ) → result ≡ packets → result < next → packets < next
count_below result packets next is h = omega arith

pub count_within : (result packets next : ℕ) → result ≡ packets → next ≤ result → next ≤ packets
count_within result packets next is h = omega arith
