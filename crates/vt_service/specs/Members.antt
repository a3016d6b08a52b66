-- The members of a request (docs/LIVE.md, "Members").
use Rattle.std.specs.Prelude.{◌≡◌, ℕ, ◌-◌, ◌/◌, ◌^◌, ◌==◌, ◌&&◌, nat_le, nat_lt, if◌then◌else◌, List, length, take, drop, slice_index, codes, Option, Some, None, option_and_then, Result, Ok, Err}
use Rattle.byteorder.specs.Endian.{big_number}
use Rattle.hex.specs.Hex.{decode_of, decode_sized}
use Rattle.hex.specs.declared.error.FromHexError.{FromHexError}
use Rattle.serde_json.specs.Data.{Data}
use Rattle.serde_json.specs.Find.{as_number, as_str, as_u64, get}
use Rattle.vt_can.specs.declared.frames.frame.Frame.{Frame}
use Rattle.vt_dialogs.specs.TypedTexts.{typed_of}
use Rattle.vt_dialogs.specs.declared.typed.Typed.{Typed}
use Rattle.vt_service.specs.declared.members.Malformed.{Malformed}
use Rattle.vt_service.specs.declared.members.Malformed.TheVariants.{WrongMember}
use Rattle.vt_service.specs.declared.members.Member.{Member}
use Rattle.vt_service.specs.declared.members.Member.TheVariants as members

abbrev pub member_name : Member → List ℕ
member_name members.Own = codes "own"
member_name members.Name = codes "name"
member_name members.Time = codes "time"
member_name members.Address = codes "address"
member_name members.Object = codes "object"
member_name members.Value = codes "value"
member_name members.Mask = codes "mask"
member_name members.X = codes "x"
member_name members.Y = codes "y"
member_name members.Frame = codes "frame"
member_name members.Pool = codes "pool"
member_name members.Text = codes "text"
member_name members.Typed = codes "typed"
member_name members.Memory = codes "memory"
member_name members.SoftKeyWidth = codes "soft_key_width"
member_name members.SoftKeyHeight = codes "soft_key_height"
member_name members.VirtualSoftKeys = codes "virtual_soft_keys"
member_name members.PhysicalSoftKeys = codes "physical_soft_keys"
member_name members.SmallFonts = codes "small_fonts"
member_name members.LargeFonts = codes "large_fonts"
member_name members.FontStyles = codes "font_styles"
member_name members.BootTime = codes "boot_time"
member_name members.GraphicType = codes "graphic_type"
member_name members.Hardware = codes "hardware"
member_name members.Width = codes "width"
member_name members.Height = codes "height"

-- the greatest number of a member that is one, and 0 for a text
abbrev pub most_of : Member → ℕ
most_of members.Own = 253
most_of members.Time = 2 ^ 64 - 1
most_of members.Value = 2 ^ 32 - 1
most_of members.X = 2 ^ 32 - 1
most_of members.Y = 2 ^ 32 - 1
most_of members.Memory = 2 ^ 32 - 1
most_of members.Object = 2 ^ 16 - 1
most_of members.Mask = 2 ^ 16 - 1
most_of members.Width = 2 ^ 16 - 1
most_of members.Height = 2 ^ 16 - 1
most_of members.Address = 255
most_of members.SoftKeyWidth = 255
most_of members.SoftKeyHeight = 255
most_of members.VirtualSoftKeys = 255
most_of members.PhysicalSoftKeys = 255
most_of members.SmallFonts = 255
most_of members.LargeFonts = 255
most_of members.FontStyles = 255
most_of members.BootTime = 255
most_of members.GraphicType = 255
most_of members.Hardware = 255
most_of members.Name = 0
most_of members.Frame = 0
most_of members.Pool = 0
most_of members.Text = 0
most_of members.Typed = 0

abbrev pub number_if : Member → Option ℕ → Result ℕ Malformed
number_if member None = Err (WrongMember member)
number_if member (Some n) = if nat_le n (most_of member) then Ok n else Err (WrongMember member)

-- the number of a member
abbrev pub number_in : Data → Member → Result ℕ Malformed
number_in d member = number_if member (option_and_then as_u64 (option_and_then as_number (get (member_name member) d)))

abbrev pub text_if : Member → Option (List ℕ) → Result (List ℕ) Malformed
text_if member None = Err (WrongMember member)
text_if member (Some text) = Ok text

-- the text of a member
abbrev pub text_in : Data → Member → Result (List ℕ) Malformed
text_in d member = text_if member (option_and_then as_str (get (member_name member) d))

abbrev pub decoded : Member → Result (List ℕ) FromHexError → Result (List ℕ) Malformed
decoded member (Ok bytes) = Ok bytes
decoded member (Err e) = Err (WrongMember member)

abbrev pub bytes_by : Member → Result (List ℕ) Malformed → Result (List ℕ) Malformed
bytes_by member (Ok text) = decoded member (decode_of text)
bytes_by member (Err e) = Err e

-- the bytes of a member, in hexadecimal
abbrev pub bytes_in : Data → Member → Result (List ℕ) Malformed
bytes_in d member = bytes_by member (text_in d member)

abbrev pub name_from : Result (List ℕ) FromHexError → Result ℕ Malformed
name_from (Ok bytes) = Ok (big_number 8 bytes)
name_from (Err e) = Err (WrongMember members.Name)

abbrev pub name_by : Result (List ℕ) Malformed → Result ℕ Malformed
name_by (Ok text) = name_from (decode_sized text 8)
name_by (Err e) = Err e

-- the NAME of a request, in 16 digits
abbrev pub name_in : Data → Result ℕ Malformed
name_in d = name_by (text_in d members.Name)

abbrev pub frame_from : Result (List ℕ) FromHexError → Result (List ℕ) FromHexError → Option Frame
frame_from (Ok id) (Ok bytes) =
    if nat_lt (big_number 4 id) (2 ^ 29) then Some (record { id = big_number 4 id; bytes = record { items = bytes } }) else None
frame_from _ _ = None

-- a frame as `ID#DATA`: eight digits of an identifier of 29 bits, and two for each byte, at most eight
abbrev pub frame_of : List ℕ → Option Frame
frame_of text =
    if nat_le 9 (length text) && nat_le (length text) 25 && (slice_index text 8 == 35)
    then frame_from (decode_sized (take 8 text) 4) (decode_sized (drop 9 text) (length (drop 9 text) / 2))
    else None

abbrev pub frame_if : Option Frame → Result Frame Malformed
frame_if None = Err (WrongMember members.Frame)
frame_if (Some frame) = Ok frame

abbrev pub frame_by : Result (List ℕ) Malformed → Result Frame Malformed
frame_by (Ok text) = frame_if (frame_of text)
frame_by (Err e) = Err e

-- the frame of a request
abbrev pub frame_in : Data → Result Frame Malformed
frame_in d = frame_by (text_in d members.Frame)

abbrev pub typed_if : Option Typed → Result Typed Malformed
typed_if None = Err (WrongMember members.Typed)
typed_if (Some typed) = Ok typed

abbrev pub typed_from : Result (List ℕ) Malformed → Result Typed Malformed
typed_from (Ok text) = typed_if (typed_of text)
typed_from (Err e) = Err e

-- the typed number of a request
abbrev pub typed_in : Data → Result Typed Malformed
typed_in d = typed_from (text_in d members.Typed)
