-- Members of lines of JSON.
use Rattle.std.specs.Prelude.{ℕ, ◌/◌, ◌%◌, true, List, [], ◌∷◌}
use Rattle.std.specs.Fmt.{digit_glyph}
use Rattle.std.specs.Borrow.{Bor}
use Rattle.serde_json.specs.Data.{Data, Members, null, number, unsigned, string, put as with_member}
use Rattle.vt_cli.specs.declared.cell.Cell.{Cell}
use Rattle.vt_cli.specs.declared.cell.Cell.TheVariants as cells

-- the two hex digits of a byte
abbrev pub hex_text : ℕ → List ℕ
hex_text n = digit_glyph true (n / 16) ∷ digit_glyph true (n % 16) ∷ []

abbrev pub cell_data : Cell → Data
cell_data cells.Null = null
cell_data (cells.Number n) = number (unsigned n)
cell_data (cells.Text text) = string text.now
cell_data (cells.Hex n) = string (hex_text n)

-- members with more of them, each by its name and in this order
abbrev pub with_cells : Members → List (Bor (List ℕ) × Cell) → Members
with_cells members [] = members
with_cells members (c ∷ cs) = with_cells (with_member c.0.now (cell_data c.1) members) cs
