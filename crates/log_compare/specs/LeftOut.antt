-- Which differences a comparison leaves out (docs/PROFILE.md, "Answers").
use Rattle.std.specs.Prelude.{ℕ, ◌==◌, ◌&&◌, Bool, true, false, if◌then◌else◌, Option, Some, None, List, [], ◌∷◌, take, drop, length}
use Rattle.std.specs.Str.{bytes_eq}
use Rattle.log_answers.specs.declared.difference.Difference.{Difference}
use Rattle.log_answers.specs.declared.difference.Difference.TheVariants.{Differ, OursAlone, TheirsAlone}
use Rattle.log_compare.specs.declared.left_out.LeftOutPart.{LeftOutPart}
use Rattle.log_compare.specs.declared.left_out.LeftOutPart.TheVariants.{State, Whole, Bytes}
use Rattle.vt_can.specs.Assigned.{GET_FONTS, GET_HARDWARE, GET_MEMORY, GET_SOFT_KEYS}
use Rattle.vt_commands.specs.Commands.{BUTTON_ACTIVATION, SOFT_KEY_ACTIVATION}

-- the table: what is left out of the messages of a function
abbrev pub part_of : ℕ → Option LeftOutPart
part_of function =
    if function == SOFT_KEY_ACTIVATION then Some (State 2)
    else if function == BUTTON_ACTIVATION then Some (State 2)
    else if function == 0x02 then Some Whole
    else if function == 0x03 then Some Whole
    else if function == GET_MEMORY then Some (Bytes 2 3)
    else if function == GET_SOFT_KEYS then Some (Bytes 4 8)
    else if function == GET_FONTS then Some (Bytes 5 8)
    else if function == GET_HARDWARE then Some (Bytes 1 8)
    else None

-- ---- messages that this terminal never sends

-- whether messages with this byte behind the function are never sent
abbrev pub never_sends : LeftOutPart → ℕ → Bool
never_sends (State left_out) state = state == left_out
never_sends Whole state = true
never_sends (Bytes from to) state = false

abbrev pub never_sends_of : Option LeftOutPart → ℕ → Bool
never_sends_of None state = false
never_sends_of (Some part) state = never_sends part state

-- whether a message of the recorded terminal, of eight bytes, is one that this terminal never sends
abbrev pub is_never_sent : List ℕ → Bool
is_never_sent [] = false
is_never_sent (function ∷ []) = false
is_never_sent (function ∷ state ∷ rest) = length rest == 6 && never_sends_of (part_of function) state

-- ---- answers with values of the terminal

-- whether two answers are the same outside of the bytes that are left out
abbrev pub is_same_outside : LeftOutPart → List ℕ → List ℕ → Bool
is_same_outside (State left_out) ours theirs = false
is_same_outside Whole ours theirs = false
is_same_outside (Bytes from to) ours theirs = bytes_eq (take from ours) (take from theirs) && bytes_eq (drop to ours) (drop to theirs)

abbrev pub is_same_outside_of : Option LeftOutPart → List ℕ → List ℕ → Bool
is_same_outside_of None ours theirs = false
is_same_outside_of (Some part) ours theirs = is_same_outside part ours theirs

-- whether two answers, of eight bytes each, differ only in bytes that each terminal has for itself
abbrev pub differ_by_terminal : List ℕ → List ℕ → Bool
differ_by_terminal [] theirs = false
differ_by_terminal (function ∷ rest) theirs =
    length (function ∷ rest) == 8 && length theirs == 8 && is_same_outside_of (part_of function) (function ∷ rest) theirs

-- ---- both

-- whether a difference is left out
abbrev pub is_left_out : Difference → Bool
is_left_out (Differ ours theirs) = differ_by_terminal ours.bytes.items theirs.bytes.items
is_left_out (OursAlone ours) = false
is_left_out (TheirsAlone theirs) = is_never_sent theirs.bytes.items
