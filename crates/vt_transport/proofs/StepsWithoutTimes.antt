-- TP steps and answers without times, and frames of other parameter groups.
use Rattle.std.proofs.Common.{◌≡◌, ℕ, Bool, true, false, ◌||◌, cond, eqb, ltb, ◌+◌, [], Option, Some, None, refl, ap, ◌∙◌}
use Rattle.std.specs.FinMap as finite
use Rattle.vt_can.specs.Assigned.{TP_CM, TP_DT, VT_TO_ECU}
use Rattle.vt_can.specs.declared.transport.sessions.Timed.{Timed}
use Rattle.vt_can.specs.transport.Messages.{Message}
use Rattle.vt_can.specs.frames.Frame.{source_of}
use Rattle.vt_can.specs.transport.Sessions.{untimed_session}
use Rattle.vt_can.specs.transport.Steps.{stepped}
use Rattle.vt_can.proofs.lemmas.transport.UntimedOutcomes as can
use Rattle.vt_transport.specs.declared.messages.TpFrame.TheVariants.{Rts, Cts, EndOfMessage, Aborted, Data, Other}
use Rattle.vt_transport.specs.Messages.{opens, first_reply}
use Rattle.vt_transport.specs.Wire.{connection_management}
use Rattle.vt_transport.specs.SessionState.{SessionState}
use Rattle.vt_transport.specs.Protocol.{protocol, IsTimeless, OtherGroupsAreIgnored}
use Rattle.vt_transport.specs.Senders.{Answer, AnswersAreTimeless, OtherGroupsAreUnanswered, answered, unanswered, untimed_answer, packet_count_of}

-- the steps of a receiver

session_or_none : {T : Type 0} (b : Bool) (x : Option (Timed T)) → untimed_session (cond b x None) ≡ untimed_session (cond b (untimed_session x) None)
session_or_none true None = refl
session_or_none true (Some x) = refl
session_or_none false x = refl

none_or_session : {T : Type 0} (b : Bool) (x : Timed T) → untimed_session (cond b None (Some x))
    ≡ untimed_session (cond b None (Some (record { last = 0; session = x.session })))
none_or_session true x = refl
none_or_session false x = refl

pub timeless : IsTimeless
timeless now current (Rts o) =
    ap (λ (k : Option (Timed SessionState)). record { session = k; reply = Some (first_reply o); message = None }) (can.opened (opens o) _ _ refl)
timeless now None (Data number packet) = refl
timeless now (Some current) (Data number packet) =
    can.untimed_cond (eqb number (current.session.received + 1)) _ _ _ _
    (can.untimed_cond (eqb (current.session.received + 1) current.session.opening.packets) _ _ _ _ refl refl) refl
timeless now current (Aborted pgn) =
    ap (λ (k : Option (Timed SessionState)). record { session = k; reply = None; message = None }) (session_or_none (eqb pgn VT_TO_ECU) current)
timeless now None (Cts count next pgn) = refl
timeless now (Some current) (Cts count next pgn) = refl
timeless now None (EndOfMessage pgn) = refl
timeless now (Some current) (EndOfMessage pgn) = refl
timeless now None Other = refl
timeless now (Some current) Other = refl

-- the answers of a sender

answer_cond : (b : Bool) (x y x' y' : Answer) → untimed_answer x ≡ untimed_answer x' → untimed_answer y ≡ untimed_answer y'
    → untimed_answer (cond b x y) ≡ untimed_answer (cond b x' y')
answer_cond true x y x' y' e f = e
answer_cond false x y x' y' e f = f

pub timeless_answers : AnswersAreTimeless
timeless_answers own_address to now None frame = refl
timeless_answers own_address to now (Some current) None = refl
timeless_answers own_address to now (Some current) (Some (Cts count next pgn)) =
    answer_cond (eqb pgn current.session.pgn) _ _ _ _
    (answer_cond (eqb count 0) _ _ _ _ refl
    (answer_cond (eqb next 0 || ltb (packet_count_of current.session) next) _ _ _ _ refl refl)) refl
timeless_answers own_address to now (Some current) (Some (EndOfMessage pgn)) =
    ap (λ (k : Option (Timed Message)). record { session = k; frames = [] }) (none_or_session (eqb pgn current.session.pgn) current)
timeless_answers own_address to now (Some current) (Some (Aborted pgn)) =
    ap (λ (k : Option (Timed Message)). record { session = k; frames = [] }) (none_or_session (eqb pgn VT_TO_ECU) current)
timeless_answers own_address to now (Some current) (Some (Rts o)) = refl
timeless_answers own_address to now (Some current) (Some (Data number packet)) = refl
timeless_answers own_address to now (Some current) (Some Other) = refl

-- frames of other parameter groups

pub ignored : OtherGroupsAreIgnored
ignored receiver now frame of_other_groups =
    ap (stepped protocol now (finite.get receiver.sessions (source_of frame)))
    (can.of_another_group TP_CM TP_DT connection_management (λ number bytes. Data number bytes) receiver.own_address frame of_other_groups)

no_frame : (own_address to now : ℕ) (current : Option (Timed Message)) → answered own_address to now current None ≡ unanswered current
no_frame own_address to now None = refl
no_frame own_address to now (Some current) = refl

pub unanswered_groups : OtherGroupsAreUnanswered
unanswered_groups sender now frame of_other_groups =
    ap (answered sender.own_address (source_of frame) now (finite.get sender.sessions (source_of frame)))
    (can.of_another_group TP_CM TP_DT connection_management (λ number bytes. Data number bytes) sender.own_address frame of_other_groups)
    ∙ no_frame sender.own_address (source_of frame) now (finite.get sender.sessions (source_of frame))
