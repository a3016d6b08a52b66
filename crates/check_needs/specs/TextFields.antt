-- The fields with texts and numbers, and whether their content fits (docs/PROFILE.md, "Warnings").
use Rattle.std.specs.Prelude.{ℕ, suc, pos, ◌*◌, ◌/◌, ◌%◌, ◌+ℤ◌, Bool, true, not, nat_lt, ◌&&◌, ◌||◌, ◌==◌, if◌then◌else◌, List, [], ◌∷◌, length, Option, Some, None}
use Rattle.std.specs.List.{list_any}
use Rattle.std.specs.Option.{option_map}
use Rattle.vt_kinds.specs.Ids.{null_id}
use Rattle.vt_kinds.specs.declared.object.Object.TheVariants as object
use Rattle.vt_kinds.specs.Records.{Seen}
use Rattle.vt_kinds.specs.Scales.{scale_places}
use Rattle.vt_objects.specs.Decimals.{shown_text}
use Rattle.vt_shown.specs.ShownElements.{number_shown}
use Rattle.vt_stores.specs.Stores.{Objects, object_at, map_of}
use Rattle.check_needs.specs.declared.sizes.Area.{Area}
use Rattle.check_needs.specs.declared.warning.TextField.{TextField}
use Rattle.check_needs.specs.Fonts.{cell_at}

-- ---- texts

-- the text of a String Variable
abbrev pub variable_text : Option Seen → Option (List ℕ)
variable_text (Some (object.StringVariable o)) = Some o.text
variable_text _ = None

-- the text that an object shows: its variable's text, if it has a variable
abbrev pub text_shown : Objects → ℕ → List ℕ → Option (List ℕ)
text_shown objects variable own = if variable == null_id then Some own else variable_text (object_at objects variable)

-- the number of characters up to the last one that is no space
abbrev pub columns : List ℕ → ℕ
columns [] = 0
columns (c ∷ cs) = if columns cs == 0 && c == 32 then 0 else suc (columns cs)

-- a carriage return or a line feed
abbrev pub is_line_break : ℕ → Bool
is_line_break c = c == 13 || c == 10

-- a text in a field that doesn't wrap it (bit 1 of its options), with no line break
abbrev pub is_one_line : ℕ → List ℕ → Bool
is_one_line options text = options / 2 % 2 == 0 && not (list_any is_line_break text)

-- ---- fields

abbrev pub field : ℕ → Area → ℕ → Bool → Area → TextField
field id area columns one_line cell = record { id = id; columns = columns; is_one_line = one_line; cell = cell; area = area }

abbrev pub area_of : ℕ → ℕ → Area
area_of width height = record { width = width; height = height }

abbrev pub text_in : ℕ → Area → ℕ → Option Area → Option (List ℕ) → Option TextField
text_in id area options None text = None
text_in id area options cell None = None
text_in id area options (Some cell) (Some text) = Some (field id area (columns text) (is_one_line options text) cell)

abbrev pub number_in : ℕ → Area → Option Area → Option (List ℕ) → Option TextField
number_in id area None text = None
number_in id area cell None = None
number_in id area (Some cell) (Some text) = Some (field id area (length text) true cell)

-- The field of an object with a text or a number. None if the object has no field, its font is missing or is of no
-- known size, or its variable is missing.
abbrev pub text_field : Objects → ℕ → Seen → Option TextField
text_field objects id (object.InputString o) =
    text_in id (area_of o.width o.height) o.options (cell_at objects o.font) (text_shown objects o.variable o.text)
text_field objects id (object.OutputString o) =
    text_in id (area_of o.width o.height) o.options (cell_at objects o.font) (text_shown objects o.variable o.text)
text_field objects id (object.InputNumber o) =
    number_in id (area_of o.width o.height) (cell_at objects o.font)
    (option_map (λ n. shown_text (pos n +ℤ o.offset) (scale_places o.scale) o.decimals) (number_shown (map_of objects) o.variable o.value))
text_field objects id (object.OutputNumber o) =
    number_in id (area_of o.width o.height) (cell_at objects o.font)
    (option_map (λ n. shown_text (pos n +ℤ o.offset) (scale_places o.scale) o.decimals) (number_shown (map_of objects) o.variable o.value))
text_field objects id o = None

-- ---- content that does not fit

-- a text in one line has more characters than its field has space for
abbrev pub is_too_wide : TextField → Bool
is_too_wide f = f.is_one_line && nat_lt f.area.width (f.columns * f.cell.width)

-- a character is higher than its field
abbrev pub is_too_high : TextField → Bool
is_too_high f = nat_lt f.area.height f.cell.height
