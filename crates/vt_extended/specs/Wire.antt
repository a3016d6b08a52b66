-- The bytes of the extended transport protocol's frames (docs/PROFILE.md, "Transport messages").
use Rattle.std.specs.Prelude.{ℕ, ◌==◌, if◌then◌else◌, Option, List, ◌∷◌, ◌++◌, drop, slice_index}
use Rattle.byteorder.specs.Endian.{little_number, little_bytes}
use Rattle.vt_can.specs.declared.frames.frame.Frame.{Frame}
use Rattle.vt_can.specs.Assigned.{ABORT, ETP_CM, ETP_CTS, ETP_DPO, ETP_DT, ETP_END, ETP_RTS}
use Rattle.vt_can.specs.frames.Frame.{frame_of}
use Rattle.vt_can.specs.transport.Wire as wire
use Rattle.vt_can.specs.transport.Wire.{abort_bytes}
use Rattle.vt_extended.specs.declared.messages.Part.TheVariants.{Offset, Packet}
use Rattle.vt_extended.specs.declared.messages.EtpFrame.{EtpFrame}
use Rattle.vt_extended.specs.declared.messages.EtpFrame.TheVariants.{Rts, Part, Aborted, Other}
use Rattle.vt_extended.specs.declared.messages.Reply.{Reply}
use Rattle.vt_extended.specs.declared.messages.Reply.TheVariants.{ClearToSend, End, Abort}

-- the decoding of an ETP.CM frame
abbrev pub connection_management : List ℕ → EtpFrame
connection_management bytes =
    let control = slice_index bytes 0 in
    if control == ETP_RTS
    then Rts (record { size = little_number 4 (drop 1 bytes); pgn = little_number 3 (drop 5 bytes) })
    else if control == ETP_DPO then Part (Offset (slice_index bytes 1) (little_number 3 (drop 2 bytes)))
    else if control == ABORT then Aborted
    else Other

-- a frame decoded for a node
abbrev pub etp_frame : ℕ → Frame → Option EtpFrame
etp_frame = wire.frame_in ETP_CM ETP_DT connection_management (λ number bytes. Part (Packet number bytes))

abbrev pub reply_bytes : Reply → List ℕ
reply_bytes (ClearToSend count next pgn) = ETP_CTS ∷ count ∷ (little_bytes 3 next ++ little_bytes 3 pgn)
reply_bytes (End size pgn) = ETP_END ∷ (little_bytes 4 size ++ little_bytes 3 pgn)
reply_bytes (Abort reason pgn) = abort_bytes reason pgn

abbrev pub reply_frame : ℕ → ℕ → Reply → Frame
reply_frame own_address to reply = frame_of ETP_CM own_address to (reply_bytes reply)
