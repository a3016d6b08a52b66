-- The meaning of a frame for the terminal (docs/PROFILE.md, "Messages of address claim", "Working sets").
use Rattle.std.specs.Prelude.{ℕ, ◌==◌, ◌&&◌, ◌||◌, Bool, nat_le, nat_eq, if◌then◌else◌, List, [], ◌∷◌, length, Option, slice_index}
use Rattle.std.specs.List.{starts_with}
use Rattle.byteorder.specs.Endian.{little_number}
use Rattle.vt_can.specs.declared.frames.frame.Frame.{Frame}
use Rattle.vt_can.specs.Assigned.{ADDRESS_CLAIMED, ECU_TO_VT, ETP_CM, ETP_DT, GLOBAL_ADDRESS, REQUEST, TP_CM, TP_DT, WORKING_SET_MASTER, WORKING_SET_MEMBER}
use Rattle.vt_can.specs.frames.Identifier.{parts_of, pgn_of, destination_of}
use Rattle.vt_can.specs.frames.Frame.{is_to, source_of}
use Rattle.vt_node.specs.declared.bus.FrameMeaning.{FrameMeaning}
use Rattle.vt_node.specs.declared.bus.FrameMeaning.TheVariants.{Claim, ClaimRequest, Master, Member, Message, Tp, Etp, Nothing}

-- the first eight bytes as a NAME
abbrev pub name_in : List ℕ → ℕ
name_in bytes = little_number 8 bytes

-- the first three bytes are the PGN of Address Claimed
abbrev pub asks_for_claim : List ℕ → Bool
asks_for_claim bytes = starts_with nat_eq bytes (0x00 ∷ 0xEE ∷ 0x00 ∷ [])

-- The meaning of a frame, by its parameter group and destination. Frames of claims and sets that are too short are
-- ignored; frames of the transport protocols are tested by the receivers.
abbrev pub group_meaning : ℕ → ℕ → Option ℕ → List ℕ → FrameMeaning
group_meaning own pgn destination bytes =
    if pgn == ADDRESS_CLAIMED then (if is_to GLOBAL_ADDRESS destination && nat_le 8 (length bytes) then Claim (name_in bytes) else Nothing)
    else if pgn == REQUEST then
    (if (is_to own destination || is_to GLOBAL_ADDRESS destination) && asks_for_claim bytes then ClaimRequest else Nothing)
    else if pgn == WORKING_SET_MASTER then (if nat_le 1 (length bytes) then Master (slice_index bytes 0) else Nothing)
    else if pgn == WORKING_SET_MEMBER then (if nat_le 8 (length bytes) then Member (name_in bytes) else Nothing)
    else if pgn == ECU_TO_VT then (if is_to own destination then Message else Nothing)
    else if pgn == TP_CM || pgn == TP_DT then Tp
    else if pgn == ETP_CM || pgn == ETP_DT then Etp
    else Nothing

abbrev pub frame_meaning : ℕ → Frame → FrameMeaning
frame_meaning own frame = let p = parts_of frame.id in group_meaning own (pgn_of p) (destination_of p) frame.bytes.items

-- A frame from the terminal's own address is ignored as an echo, except for a claim by another NAME.
abbrev pub unless_echo : ℕ → FrameMeaning → FrameMeaning
unless_echo name (Claim other) = if other == name then Nothing else Claim other
unless_echo name _ = Nothing

abbrev pub meaning_of : ℕ → ℕ → Frame → FrameMeaning
meaning_of own name frame = if source_of frame == own then unless_echo name (frame_meaning own frame) else frame_meaning own frame
