-- The lines of a log (docs/PROFILE.md, "Log lines").
use Rattle.std.specs.Prelude.{◌≡◌, ◌≤◌, ◌==◌, nat_lt, ℕ, ◌+◌, ◌*◌, ◌^◌, not, Bool, false, List, [], ◌∷◌, ◌++◌, length, take, codes, ◌⊎◌, if◌then◌else◌, Result, Ok, Err}
use Rattle.std.specs.List.{AllPass, list_all}
use Rattle.std.specs.Char.{is_ascii_digit}
use Rattle.std.specs.Str.Parse.{digits_value}
use Rattle.hex.specs.Hex.{decode_of, is_hex_digit}
use Rattle.hex.specs.declared.error.FromHexError.{FromHexError}
use Rattle.byteorder.specs.Endian.{big_number}
use Rattle.vt_can.specs.declared.lines.line.Skipped.TheVariants.{Remote, Fd, Short, Error}
use Rattle.vt_can.specs.declared.lines.line.LineFault.{LineFault}
use Rattle.vt_can.specs.declared.lines.line.LineFault.TheVariants.{Time, Shape, Hex, Length, Operator}
use Rattle.vt_can.specs.lines.Actions.{ActionValue, IsActionText}
use Rattle.vt_can.specs.lines.Readings.{ParsedLine, FrameAt, OperatorAction, SkippedFrame, CommentLine}

-- The content of a line: the line without one carriage return at its end.
abbrev pub IsContent : List ℕ → List ℕ → Type 0
IsContent line content = (line ≡ content ++ codes "\r") ⊎ ((line ≡ content) × ((front : List ℕ) → line ≡ front ++ codes "\r" → ⊥))

-- an empty line, or one that begins with a number sign
abbrev pub IsComment : List ℕ → Type 0
IsComment content = (content ≡ []) ⊎ ((rest : List ℕ) × (content ≡ codes "#" ++ rest))

-- an operator line, and its text after `! `
abbrev pub IsOperatorLine : List ℕ → List ℕ → Type 0
IsOperatorLine content rest = content ≡ codes "! " ++ rest

-- a text of `least` to `most` decimal digits
pub record AreDigits (least most : ℕ) (text : List ℕ) : Type 0 where
  pub digits : AllPass is_ascii_digit text
  pub no_fewer : least ≤ length text
  pub no_more : length text ≤ most

-- the digits of a fraction: six or nine
abbrev pub IsFraction : List ℕ → Type 0
IsFraction text = AreDigits 6 6 text ⊎ AreDigits 9 9 text

-- a line that begins with `(seconds.fraction)`: its time in microseconds, without digits 7 to 9 of the fraction, and the rest
pub record HasTime (content : List ℕ) (time : ℕ) (rest : List ℕ) : Type 0 where
  pub seconds : List ℕ
  pub fraction : List ℕ
  pub whole : content ≡ codes "(" ++ seconds ++ codes "." ++ fraction ++ codes ")" ++ rest
  pub seconds_digits : AreDigits 1 12 seconds
  pub fraction_digits : IsFraction fraction
  pub time_is : time ≡ digits_value 10 seconds * 10 ^ 6 + digits_value 10 (take 6 fraction)

abbrev pub HasNoSpace : List ℕ → Type 0
HasNoSpace text = AllPass (λ byte. not (byte == 32)) text

-- the suffix of a frame line, which may be empty
abbrev pub IsSuffix : List ℕ → Type 0
IsSuffix text = (text ≡ []) ⊎ (text ≡ codes " R") ⊎ (text ≡ codes " T")

-- ` interface ID#DATA`, and a suffix: an interface of 1 to 15 bytes, an ID of 3 or 8, and data with no space
pub record HasShape (rest : List ℕ) (id text : List ℕ) : Type 0 where
  pub interface : List ℕ
  pub suffix : List ℕ
  pub whole : rest ≡ codes " " ++ interface ++ codes " " ++ id ++ codes "#" ++ text ++ suffix
  pub interface_no_space : HasNoSpace interface
  pub interface_some : 1 ≤ length interface
  pub interface_short : length interface ≤ 15
  pub id_no_space : HasNoSpace id
  pub id_no_sign : AllPass (λ byte. not (byte == 35)) id
  pub id_length : (length id ≡ 3) ⊎ (length id ≡ 8)
  pub text_no_space : HasNoSpace text
  pub suffix_is : IsSuffix suffix

-- whether a text begins with a byte
abbrev pub begins_with : ℕ → List ℕ → Bool
begins_with byte [] = false
begins_with byte (other ∷ rest) = other == byte

-- the number of an identifier, from its four decoded bytes
abbrev pub id_of : Result (List ℕ) FromHexError → ℕ
id_of (Ok bytes) = big_number 4 bytes
id_of (Err e) = 0

abbrev pub data_reading : ℕ → ℕ → Result (List ℕ) FromHexError → Result ParsedLine LineFault
data_reading time id (Err e) = Err Hex
data_reading time id (Ok bytes) =
    if nat_lt 8 (length bytes) then Err Length else Ok (FrameAt time (record { id = id; bytes = record { items = bytes } }))

-- The reading of a frame line of the right shape: the first case that applies.
abbrev pub frame_line_reading : ℕ → List ℕ → List ℕ → Result ParsedLine LineFault
frame_line_reading time id text =
    if not (list_all is_hex_digit id) then Err Hex
    else if length id == 3 then Ok (SkippedFrame Short)
    else if nat_lt 0x1FFFFFFF (id_of (decode_of id)) then Ok (SkippedFrame Error)
    else if begins_with 82 text then Ok (SkippedFrame Remote)
    else if begins_with 35 text then Ok (SkippedFrame Fd)
    else data_reading time (id_of (decode_of id)) (decode_of text)

-- neither a comment nor an operator line
pub record IsOtherLine (content : List ℕ) : Type 0 where
  pub no_comment : IsComment content → ⊥
  pub no_operator : (rest : List ℕ) → IsOperatorLine content rest → ⊥

-- The reading of a line's content, or the first of its faults.
pub data IsRead (content : List ℕ) : Result ParsedLine LineFault → Type 0 where
  comment : IsComment content → IsRead content (Ok CommentLine)
  operator_action : (rest : List ℕ) (d : ActionValue) → IsOperatorLine content rest → IsActionText rest d → IsRead content (Ok (OperatorAction d))
  no_action : (rest : List ℕ) → IsOperatorLine content rest → ((d : ActionValue) → IsActionText rest d → ⊥) → IsRead content (Err Operator)
  no_time : IsOtherLine content → ((time : ℕ) (rest : List ℕ) → HasTime content time rest → ⊥) → IsRead content (Err Time)
  no_shape : (time : ℕ) (rest : List ℕ) → HasTime content time rest → ((id text : List ℕ) → HasShape rest id text → ⊥) → IsRead content (Err Shape)
  frame_line : (time : ℕ) (rest id text : List ℕ) → HasTime content time rest → HasShape rest id text → IsRead content (frame_line_reading time id text)

-- the reading of a line
abbrev pub ReadsAs : List ℕ → Result ParsedLine LineFault → Type 0
ReadsAs line reading = (content : List ℕ) × IsContent line content × IsRead content reading

-- a line with a reading
abbrev pub HasReading : List ℕ → Type 0
HasReading line = (reading : Result ParsedLine LineFault) × ReadsAs line reading

-- The reading of a line is unique.
abbrev pub ReadingsAreOne : Type 0
ReadingsAreOne = (line : List ℕ) (a b : Result ParsedLine LineFault) → ReadsAs line a → ReadsAs line b → a ≡ b
