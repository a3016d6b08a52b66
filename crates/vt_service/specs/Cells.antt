-- Objects of JSON whose members are plain.
use Rattle.std.specs.Borrow.{Bor}
use Rattle.std.specs.Prelude.{ℕ, List, [], ◌∷◌}
use Rattle.serde_json.specs.Data.{Data, Members, boolean, null, number, put as with_member, string, unsigned}
use Rattle.serde_json.specs.Find.{of_integer}
use Rattle.vt_service.specs.declared.cells.Cell.{Cell}
use Rattle.vt_service.specs.declared.cells.Cell.TheVariants as cells

abbrev pub cell_data : Cell → Data
cell_data cells.Null = null
cell_data (cells.Flag flag) = boolean flag
cell_data (cells.Number n) = number (unsigned n)
cell_data (cells.Signed z) = number (of_integer z)
cell_data (cells.Text text) = string text.now

-- the members, put in one after the other, each at the place of its name
abbrev pub with_cells : Members → List (Bor (List ℕ) × Cell) → Members
with_cells members [] = members
with_cells members (c ∷ cs) = with_cells (with_member c.0.now (cell_data c.1) members) cs
