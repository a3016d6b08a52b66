-- The text of a page as its lines are written.
use Rattle.std.specs.Prelude.{◌≤◌, ◌+◌, ◌*◌, ◌^◌, ℕ, suc, nat_abs, nat_lt, ◌==◌, if◌then◌else◌, List, [], ◌∷◌, ◌++◌, map, codes}
use Rattle.vt_stores.specs.Stores.{ObjectMap}
use Rattle.vt_layout.specs.declared.element.Element.{Element}
use Rattle.vt_layout.specs.declared.element.Position.{Position}
use Rattle.vt_layout.specs.Lines.{line}
use Rattle.vt_layout.specs.Screens.{most_lines}

-- the lines so far, and the number of elements, counted up to one more than fit
pub record Sheet : Type 0 where
  pub text : List ℕ
  pub count : ℕ

-- a line is written if it fits, and counted
unfoldable pub with_line : List ℕ → Sheet → Sheet
with_line line sheet =
    if nat_lt sheet.count most_lines
    then record { text = sheet.text ++ line; count = suc sheet.count }
    else record { text = sheet.text; count = suc most_lines }

abbrev pub with_lines : List (List ℕ) → Sheet → Sheet
with_lines [] sheet = sheet
with_lines (line ∷ lines) sheet = with_lines lines (with_line line sheet)

-- the lines of elements are written
abbrev pub with_elements : ObjectMap → List Element → Sheet → Sheet
with_elements store elements sheet = with_lines (map (line store) elements) sheet

-- the whole text of a page
abbrev pub finished : Sheet → List ℕ
finished sheet = sheet.text ++ (if sheet.count == suc most_lines then codes "more\n" else [])

-- From a position, the shifts of `depth` more entries cannot overflow.
pub record IsNear (depth : ℕ) (at : Position) : Type 0 where
  pub deep : depth ≤ 256
  pub x : nat_abs at.x + 32768 * depth ≤ 2 ^ 24
  pub y : nat_abs at.y + 32768 * depth ≤ 2 ^ 24
