-- The bytes of the transport protocol's frames (docs/PROFILE.md, "Transport messages").
use Rattle.std.specs.Prelude.{ℕ, Bool, false, ◌+◌, ◌-◌, ◌*◌, ◌/◌, ◌==◌, if◌then◌else◌, Option, Some, List, ◌∷◌, ◌++◌, take, drop, slice_index, replicate}
use Rattle.byteorder.specs.Endian.{little_number, little_bytes}
use Rattle.vt_can.specs.declared.frames.frame.Frame.{Frame}
use Rattle.vt_can.specs.Assigned.{ABORT, FILL, NO_LIMIT, TP_CM, TP_CTS, TP_DT, TP_END, TP_RTS}
use Rattle.vt_can.specs.frames.Frame.{frame_of}
use Rattle.vt_can.specs.transport.Wire as wire
use Rattle.vt_can.specs.transport.Wire.{abort_bytes}
use Rattle.vt_transport.specs.declared.messages.TpFrame.{TpFrame}
use Rattle.vt_transport.specs.declared.messages.TpFrame.TheVariants.{Rts, Cts, EndOfMessage, Aborted, Data, Other}
use Rattle.vt_transport.specs.declared.messages.Reply.{Reply}
use Rattle.vt_transport.specs.declared.messages.Reply.TheVariants.{ClearToSend, End, Abort}

-- the decoding of a TP.CM frame
abbrev pub connection_management : List ℕ → TpFrame
connection_management bytes =
    let control = slice_index bytes 0 in
    let pgn = little_number 3 (drop 5 bytes) in
    if control == TP_RTS
    then Rts (record { size = little_number 2 (drop 1 bytes); packets = slice_index bytes 3; most = slice_index bytes 4; pgn = pgn })
    else if control == TP_CTS then Cts (slice_index bytes 1) (slice_index bytes 2) pgn
    else if control == TP_END then EndOfMessage pgn
    else if control == ABORT then Aborted pgn
    else Other

-- a frame decoded for a node
abbrev pub tp_frame : ℕ → Frame → Option TpFrame
tp_frame = wire.frame_in TP_CM TP_DT connection_management (λ number bytes. Data number bytes)

-- whether a frame says that the message of a parameter group has come as a whole
abbrev pub ends_message : ℕ → Option TpFrame → Bool
ends_message pgn (Some (EndOfMessage ended)) = ended == pgn
ends_message pgn _ = false

abbrev pub reply_bytes : Reply → List ℕ
reply_bytes (ClearToSend count next pgn) = TP_CTS ∷ count ∷ next ∷ FILL ∷ FILL ∷ little_bytes 3 pgn
reply_bytes (End size packets pgn) = TP_END ∷ (little_bytes 2 size ++ packets ∷ FILL ∷ little_bytes 3 pgn)
reply_bytes (Abort reason pgn) = abort_bytes reason pgn

abbrev pub reply_frame : ℕ → ℕ → Reply → Frame
reply_frame own_address to reply = frame_of TP_CM own_address to (reply_bytes reply)

-- the RTS of a message, with FF as the greatest number of packets of one CTS
abbrev pub rts_frame : ℕ → ℕ → ℕ → ℕ → Frame
rts_frame own_address to size pgn =
    frame_of TP_CM own_address to (TP_RTS ∷ (little_bytes 2 size ++ (size + 6) / 7 ∷ NO_LIMIT ∷ little_bytes 3 pgn))

-- the bytes of packet j of a message, the last one filled with FF
abbrev pub packet_bytes : List ℕ → ℕ → List ℕ
packet_bytes bytes j = take 7 (drop (7 * (j - 1)) bytes ++ replicate 7 FILL)

abbrev pub packet_frame : ℕ → ℕ → List ℕ → ℕ → Frame
packet_frame own_address to bytes j = frame_of TP_DT own_address to (j ∷ packet_bytes bytes j)
