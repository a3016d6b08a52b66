-- Numbers, texts and bytes as JSON (docs/LIVE.md, "Members", "Outputs").
use Rattle.std.specs.Prelude.{ℕ, ℤ, List, Option, Some, None, nat_lt, if◌then◌else◌}
use Rattle.std.specs.Str.Lossy.{utf8_lossy}
use Rattle.hex.specs.Hex.{encode_upper}
use Rattle.serde_json.specs.Data.{Data, null, number, unsigned, string}
use Rattle.serde_json.specs.Find.{of_integer}
use Rattle.vt_kinds.specs.Ids.{null_id}

abbrev pub number_data : ℕ → Data
number_data n = number (unsigned n)

abbrev pub signed_data : ℤ → Data
signed_data z = number (of_integer z)

abbrev pub number_or_null : Option ℕ → Data
number_or_null None = null
number_or_null (Some n) = number_data n

-- the ID of an object, or null for NULL
abbrev pub id_data : ℕ → Data
id_data id = if nat_lt id null_id then number_data id else null

-- a text, which is UTF-8
abbrev pub text_data : List ℕ → Data
text_data text = string (utf8_lossy text)

-- bytes in hexadecimal
abbrev pub hex_data : List ℕ → Data
hex_data bytes = string (encode_upper bytes)
