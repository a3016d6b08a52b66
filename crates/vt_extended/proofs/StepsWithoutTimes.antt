-- ETP steps without times, and frames of other parameter groups.
use Rattle.std.proofs.Common.{◌+◌, eqb, Option, Some, None, refl, ap}
use Rattle.std.specs.FinMap as finite
use Rattle.vt_can.specs.declared.transport.sessions.Timed.{Timed}
use Rattle.vt_can.specs.Assigned.{ETP_CM, ETP_DT}
use Rattle.vt_can.specs.frames.Frame.{source_of}
use Rattle.vt_can.specs.transport.Steps.{stepped}
use Rattle.vt_can.proofs.lemmas.transport.UntimedOutcomes as can
use Rattle.vt_extended.specs.declared.messages.EtpFrame.TheVariants as etp
use Rattle.vt_extended.specs.declared.messages.Part.TheVariants.{Offset, Packet}
use Rattle.vt_extended.specs.Messages.{opens, first_reply, packet_count_of}
use Rattle.vt_extended.specs.Wire.{connection_management}
use Rattle.vt_extended.specs.SessionState.{SessionState}
use Rattle.vt_extended.specs.Steps.{is_open, is_next}
use Rattle.vt_extended.specs.Protocol.{protocol, IsTimeless, OtherGroupsAreIgnored}

pub timeless : IsTimeless
timeless now current (etp.Rts o) =
    ap (λ (k : Option (Timed SessionState)). record { session = k; reply = Some (first_reply o); message = None }) (can.opened (opens o) _ _ refl)
timeless now None (etp.Part part) = refl
timeless now (Some current) (etp.Part (Offset count offset)) = can.untimed_cond (is_open current.session count offset) _ _ _ _ refl refl
timeless now (Some current) (etp.Part (Packet number packet)) =
    can.untimed_cond (is_next current.session number) _ _ _ _
    (can.untimed_cond (eqb (current.session.received + 1) (packet_count_of current.session.opening)) _ _ _ _ refl refl) refl
timeless now None etp.Aborted = refl
timeless now (Some current) etp.Aborted = refl
timeless now None etp.Other = refl
timeless now (Some current) etp.Other = refl

pub ignored : OtherGroupsAreIgnored
ignored receiver now frame of_other_groups =
    ap (stepped protocol now (finite.get receiver.sessions (source_of frame)))
    (can.of_another_group ETP_CM ETP_DT connection_management (λ number bytes. etp.Part (Packet number bytes)) receiver.own_address frame of_other_groups)
