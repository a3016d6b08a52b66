-- The parts of transfers: what a frame of a transport protocol says of the transfer of a message (ISO 11783-3; docs/PROFILE.md,
-- "Transport messages").
use Rattle.std.specs.Prelude.{ℕ, Bool, ◌==◌, ◌||◌, if◌then◌else◌, Option, Some, None, List, length, drop, slice_index}
use Rattle.byteorder.specs.Endian.{little_number}
use Rattle.vt_can.specs.declared.frames.frame.Frame.{Frame}
use Rattle.vt_can.specs.Assigned.{ABORT, ETP_CM, ETP_DPO, ETP_DT, ETP_RTS, TP_CM, TP_DT, TP_RTS}
use Rattle.vt_can.specs.frames.Identifier.{parts_of, pgn_of}
use Rattle.log_listen.specs.declared.part.Part.{Part}
use Rattle.log_listen.specs.declared.part.Part.TheVariants.{Request, Packet, Offset, Abort}

-- the bytes of connection management of the transport protocol
abbrev pub managed : List ℕ → Option Part
managed bytes =
    let control = slice_index bytes 0 in
    let pgn = little_number 3 (drop 5 bytes) in
    if control == TP_RTS then Some (Request (little_number 2 (drop 1 bytes)) pgn)
    else if control == ABORT then Some (Abort pgn)
    else None

-- the bytes of connection management of the extended transport protocol
abbrev pub extended_managed : List ℕ → Option Part
extended_managed bytes =
    let control = slice_index bytes 0 in
    let pgn = little_number 3 (drop 5 bytes) in
    if control == ETP_RTS then Some (Request (little_number 4 (drop 1 bytes)) pgn)
    else if control == ETP_DPO then Some (Offset (little_number 3 (drop 2 bytes)))
    else if control == ABORT then Some (Abort pgn)
    else None

-- whether a parameter group is of the extended transport protocol
abbrev pub is_extended : ℕ → Bool
is_extended pgn = pgn == ETP_CM || pgn == ETP_DT

abbrev pub part_by_group : ℕ → List ℕ → Option Part
part_by_group pgn bytes =
    if pgn == TP_CM then managed bytes
    else if pgn == ETP_CM then extended_managed bytes
    else if pgn == TP_DT || pgn == ETP_DT then Some (Packet (slice_index bytes 0) (drop 1 bytes))
    else None

-- the part in a frame of eight bytes; None in a frame that is no part of a transfer
abbrev pub part_in : Frame → Option Part
part_in frame = if length frame.bytes.items == 8 then part_by_group (pgn_of (parts_of frame.id)) frame.bytes.items else None
