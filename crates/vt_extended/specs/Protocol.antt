-- The extended transport protocol as a `Protocol` for receivers, runs and histories, and its theorems.
use Rattle.std.specs.Prelude.{◌≡◌, ℕ, Bool, false}
use Rattle.std.specs.FinMap as finite
use Rattle.vt_can.specs.declared.transport.wire.Reason.TheVariants.{Timeout}
use Rattle.vt_can.specs.declared.frames.frame.Frame.{Frame}
use Rattle.vt_can.specs.Assigned.{ETP_CM, ETP_DT, ETP_TIMEOUT}
use Rattle.vt_can.specs.frames.Frame.{source_of}
use Rattle.vt_can.specs.transport.Wire.{IsOfAnotherGroup}
use Rattle.vt_can.specs.transport.Protocols as protocols
use Rattle.vt_can.specs.transport.Protocols.{Protocol, silent}
use Rattle.vt_can.specs.transport.Receivers.{ReceiverState, outcome}
use Rattle.vt_can.specs.transport.Steps as steps
use Rattle.vt_can.specs.transport.Bus as bus
use Rattle.vt_can.specs.transport.Marks as marks
use Rattle.vt_extended.specs.declared.messages.EtpFrame.{EtpFrame}
use Rattle.vt_extended.specs.declared.messages.EtpFrame.TheVariants.{Rts}
use Rattle.vt_extended.specs.declared.messages.Reply.{Reply}
use Rattle.vt_extended.specs.declared.messages.Reply.TheVariants.{Abort}
use Rattle.vt_extended.specs.Messages.{opens, spelling, IsWhole, IsAnswered}
use Rattle.vt_extended.specs.Wire.{etp_frame, reply_frame}
use Rattle.vt_extended.specs.SessionState.{SessionState}
use Rattle.vt_extended.specs.Steps.{HasPackets, step}

-- Only an RTS opens a session.
abbrev pub opens_session : EtpFrame → Bool
opens_session (Rts o) = opens o
opens_session _ = false

abbrev pub size_in : EtpFrame → ℕ
size_in (Rts o) = o.size
size_in _ = 0

abbrev pub protocol : Protocol SessionState EtpFrame Reply
protocol = record {
  frame_in = etp_frame;
  opens = opens_session;
  size = size_in;
  step = step;
  timeout = ETP_TIMEOUT;
  timeout_reply = λ current. Abort Timeout current.opening.pgn;
  reply_frame = reply_frame;
}

-- The steps keep the session open in the history, and give its messages and replies.
abbrev pub StepsAssembleMessages : Type 0
StepsAssembleMessages = steps.StepsAssembleMessages spelling (λ current. current.opening) HasPackets protocol IsAnswered

-- The messages of a source depend on its own frames and their times alone.
abbrev pub MessagesDependOnTheirSource : Type 0
MessagesDependOnTheirSource = bus.MessagesDependOnTheirSource protocol

-- A run of a receiver hands out the messages of each source.
abbrev pub RunsHandOutMessages : Type 0
RunsHandOutMessages = bus.RunsHandOutMessages protocol

-- The sessions and messages of a run are those of the sources' histories, with marks for the timeouts.
abbrev pub SessionsAreOfHistories : Type 0
SessionsAreOfHistories = marks.SessionsAreOfHistories protocol

abbrev pub RunsHandOutWholeMessages : Type 0
RunsHandOutWholeMessages = marks.RunsHandOutWholeMessages protocol IsWhole

-- A step depends on no time, except for the time of the session afterwards.
abbrev pub IsTimeless : Type 0
IsTimeless = protocols.IsTimeless protocol

-- a frame of neither of the protocol's parameter groups
abbrev pub IsOfAnotherProtocol : Frame → Type 0
IsOfAnotherProtocol = IsOfAnotherGroup ETP_CM ETP_DT

-- A receiver ignores a frame of neither of the protocol's parameter groups.
abbrev pub OtherGroupsAreIgnored : Type 0
OtherGroupsAreIgnored = (receiver : ReceiverState SessionState) (now : ℕ) (frame : Frame) → IsOfAnotherProtocol frame
    → outcome protocol receiver now frame ≡ silent (finite.get receiver.sessions (source_of frame))
