-- Texts that cannot be entered or seen (docs/PROFILE.md, "Warnings").
use Rattle.std.specs.Prelude.{ℕ, ◌/◌, ◌%◌, Bool, not, nat_lt, ◌&&◌, ◌||◌, ◌==◌, if◌then◌else◌, List, [], ◌∷◌, length, Option, Some, None}
use Rattle.std.specs.List.{list_any}
use Rattle.vt_kinds.specs.declared.object.Object.TheVariants as object
use Rattle.vt_kinds.specs.Ids.{null_id}
use Rattle.vt_kinds.specs.Records.{Seen}
use Rattle.vt_stores.specs.Stores.{Objects, object_at}
use Rattle.check_values.specs.declared.warning.ValueWarning.{ValueWarning}
use Rattle.check_values.specs.declared.warning.ValueWarning.TheVariants as warnings

-- a String Variable whose text has fewer bytes than are expected
abbrev pub if_shorter : ℕ → ℕ → ℕ → Option Seen → List ValueWarning
if_shorter id variable expected (Some (object.StringVariable o)) =
    if nat_lt (length o.text) expected then warnings.ShortVariable (record { id = id; variable = variable; bytes = length o.text; expected = expected }) ∷ [] else []
if_shorter id variable expected o = []

-- an Input String whose variable has less space than its own text
abbrev pub short_variables : Objects → ℕ → Seen → List ValueWarning
short_variables objects id (object.InputString o) = if_shorter id o.variable (length o.text) (object_at objects o.variable)
short_variables objects id o = []

-- A background is opaque without bit 0 of the options, or with an inverted font (bit 4 of its style).
abbrev pub is_opaque : ℕ → ℕ → Bool
is_opaque options style = options % 2 == 0 || style / 16 % 2 == 1

-- a font of the colour of an opaque background
abbrev pub if_same : ℕ → ℕ → ℕ → ℕ → Option Seen → List ValueWarning
if_same id font colour options (Some (object.Font o)) =
    if o.colour == colour && is_opaque options o.style then warnings.SameColour id font colour ∷ [] else []
if_same id font colour options o = []

-- a text with a character that is no space
abbrev pub has_characters : List ℕ → Bool
has_characters text = list_any (λ c. not (c == 32)) text

-- A field whose font has the colour of its background. An Output String of spaces, without a variable, is a coloured area.
abbrev pub same_colours : Objects → ℕ → Seen → List ValueWarning
same_colours objects id (object.InputString o) = if_same id o.font o.colour o.options (object_at objects o.font)
same_colours objects id (object.InputNumber o) = if_same id o.font o.colour o.options (object_at objects o.font)
same_colours objects id (object.OutputString o) =
    if o.variable == null_id && not (has_characters o.text) then [] else if_same id o.font o.colour o.options (object_at objects o.font)
same_colours objects id (object.OutputNumber o) = if_same id o.font o.colour o.options (object_at objects o.font)
same_colours objects id o = []
