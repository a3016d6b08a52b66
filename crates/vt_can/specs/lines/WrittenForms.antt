-- The written form of frames and frame lines (docs/PROFILE.md, "Written frames and lines").
use Rattle.std.specs.Prelude.{◌<◌, ◌≤◌, ℕ, zero, suc, ◌+◌, ◌/◌, ◌%◌, ◌^◌, List, [], ◌∷◌, ◌++◌, length, codes, Ok}
use Rattle.std.specs.List.{AllByRecursion}
use Rattle.std.specs.Fmt.{decimal}
use Rattle.hex.specs.Hex.{encode_upper}
use Rattle.byteorder.specs.Endian.{big_bytes}
use Rattle.vt_can.specs.declared.frames.frame.Frame.{Frame}
use Rattle.vt_can.specs.lines.Readings.{FrameAt}
use Rattle.vt_can.specs.lines.Line.{ReadsAs}

-- a frame as `ID#DATA`: eight digits, a sign, and two digits for each byte of data
abbrev pub frame_text : Frame → List ℕ
frame_text frame = encode_upper (big_bytes 4 frame.id) ++ codes "#" ++ encode_upper frame.bytes.items

-- the k lowest decimal digits of a number
abbrev pub lowest_digits : ℕ → ℕ → List ℕ
lowest_digits zero n = []
lowest_digits (suc k) n = lowest_digits k (n / 10) ++ (48 + n % 10) ∷ []

-- `(S.FFFFFF) can0 ID#DATA`, at a time in microseconds
abbrev pub line_text : ℕ → Frame → List ℕ
line_text time frame = codes "(" ++ decimal (time / 10 ^ 6) ++ codes "." ++ lowest_digits 6 time ++ codes ") can0 " ++ frame_text frame

-- the identifier and the bytes of a frame are in their ranges
pub record IsFrame (frame : Frame) : Type 0 where
  pub id : frame.id < 2 ^ 29
  pub short : length frame.bytes.items ≤ 8
  pub fits : AllByRecursion (λ byte. byte < 256) frame.bytes.items

-- The line written for a frame and its time reads back as both.
abbrev pub WrittenLinesAreRead : Type 0
WrittenLinesAreRead = (time : ℕ) (frame : Frame) → time < 10 ^ 18 → IsFrame frame → ReadsAs (line_text time frame) (Ok (FrameAt time frame))
