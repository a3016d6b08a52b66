-- The formats of image data (docs/PROFILE.md, "Image data").
use Rattle.std.specs.Prelude.{ℕ, ◌+◌, ◌-◌, ◌/◌, ◌%◌, ◌^◌, ◌==◌, if◌then◌else◌, Option, Some, None}
use Rattle.draw_svg.specs.declared.format.PixelFormat.{PixelFormat}
use Rattle.draw_svg.specs.declared.format.PixelFormat.TheVariants.{OneBit, FourBits, EightBits}

abbrev pub format_of : ℕ → Option PixelFormat
format_of number = if number == 0 then Some OneBit else if number == 1 then Some FourBits else if number == 2 then Some EightBits else None

abbrev pub pixels_in_byte : PixelFormat → ℕ
pixels_in_byte OneBit = 8
pixels_in_byte FourBits = 2
pixels_in_byte EightBits = 1

-- the bytes of a row: the last one may have pixels to spare
abbrev pub bytes_in_row : PixelFormat → ℕ → ℕ
bytes_in_row format width = (width + pixels_in_byte format - 1) / pixels_in_byte format

-- the colour number of a pixel of a byte, by its index: the leftmost pixel is in the highest bits
abbrev pub pixel : PixelFormat → ℕ → ℕ → ℕ
pixel OneBit byte index = byte / 2 ^ (7 - index) % 2
pixel FourBits byte index = if index == 0 then byte / 16 else byte % 16
pixel EightBits byte index = byte
