-- The text of a number or a string as the terminal shows it (docs/PROFILE.md, "Dialogs").
use Rattle.std.specs.Prelude.{ℕ, ℤ, pos, ◌+ℤ◌, List, [], Option, Some, None, unwrap_or}
use Rattle.vt_kinds.specs.Records.{Seen}
use Rattle.vt_kinds.specs.Scales.{scale_places}
use Rattle.vt_kinds.specs.declared.object.Object.TheVariants as objects
use Rattle.vt_objects.specs.Decimals.{shown_text}
use Rattle.vt_stores.specs.Stores.{ObjectMap}
use Rattle.vt_shown.specs.ShownElements.{number_shown}
use Rattle.vt_layout.specs.Lines.{text_shown}

-- a number with its offset, scale and decimals; nothing where its variable is missing
abbrev pub shown_number : ℤ → ℕ → ℕ → Option ℕ → List ℕ
shown_number offset places decimals None = []
shown_number offset places decimals (Some n) = shown_text (pos n +ℤ offset) places decimals

-- the text of an input or output field of a number or a string; other objects have none
abbrev pub text_in : ObjectMap → Option Seen → List ℕ
text_in store (Some (objects.InputString o)) = unwrap_or (text_shown store o.variable o.text) []
text_in store (Some (objects.OutputString o)) = unwrap_or (text_shown store o.variable o.text) []
text_in store (Some (objects.InputNumber o)) =
    shown_number o.offset (scale_places o.scale) o.decimals (number_shown store o.variable o.value)
text_in store (Some (objects.OutputNumber o)) =
    shown_number o.offset (scale_places o.scale) o.decimals (number_shown store o.variable o.value)
text_in store _ = []
