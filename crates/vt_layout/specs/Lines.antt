-- The text line of an element (docs/PROFILE.md, "The drawing and the screen text").
use Rattle.std.specs.Prelude.{ℕ, ℤ, pos, ◌+ℤ◌, Bool, false, nat_le, ◌==◌, ◌&&◌, not, if◌then◌else◌, List, [], ◌∷◌, ◌++◌, codes, take, Option, Some, None}
use Rattle.std.specs.Fmt.{decimal, signed_decimal}
use Rattle.std.specs.List.{flat_map}
use Rattle.std.specs.FinMap as finite
use Rattle.hex.specs.Hex.{encode_upper}
use Rattle.vt_kinds.specs.declared.object.Object.TheVariants as objects
use Rattle.vt_objects.specs.Decimals.{shown_text}
use Rattle.vt_kinds.specs.Ids.{null_id}
use Rattle.vt_kinds.specs.Records.{Seen}
use Rattle.vt_kinds.specs.Scales.{scale_places}
use Rattle.vt_stores.specs.Stores.{ObjectMap}
use Rattle.vt_machine.specs.OperatorActions.{is_enabled}
use Rattle.vt_shown.specs.ShownElements.{number_shown}
use Rattle.vt_layout.specs.declared.element.Element.{Element}

-- ---- parts of lines

-- the name of the kind, the ID and the position of an element
abbrev pub positioned : List ℕ → Element → List ℕ
positioned name e =
    name ++ (codes " " ++ (decimal e.id ++ (codes " " ++ (signed_decimal e.at.x ++ (codes " " ++ signed_decimal e.at.y)))))

-- a size as text
abbrev pub size_text : ℕ → ℕ → List ℕ
size_text width height = codes " " ++ (decimal width ++ (codes "x" ++ decimal height))

-- a number as text
abbrev pub number_text : ℕ → List ℕ
number_text n = codes " " ++ decimal n

-- the key code of a key or button
abbrev pub coded : ℕ → List ℕ
coded code = codes " code " ++ decimal code

-- a value as text; empty if its variable is missing, where a drawing gets stuck
abbrev pub valued : Option ℕ → List ℕ
valued None = []
valued (Some n) = number_text n

abbrev pub decided : Option ℕ → List ℕ
decided None = []
decided (Some n) = if n == 0 then codes " false" else codes " true"

-- a number with its offset, scale and decimals
abbrev pub scaled_text : ℤ → ℕ → ℕ → Option ℕ → List ℕ
scaled_text offset places decimals None = []
scaled_text offset places decimals (Some n) = codes " " ++ shown_text (pos n +ℤ offset) places decimals

-- a byte from 20 to 7E, except `"` and `\`
abbrev pub is_plain : ℕ → Bool
is_plain byte = nat_le 0x20 byte && nat_le byte 0x7E && not (byte == 0x22) && not (byte == 0x5C)

abbrev pub escaped : ℕ → List ℕ
escaped byte = if is_plain byte then byte ∷ [] else codes "\\x" ++ encode_upper (byte ∷ [])

-- the first 64 bytes of a text, in quotes
abbrev pub quoted : Option (List ℕ) → List ℕ
quoted None = []
quoted (Some text) = codes " \"" ++ (flat_map escaped (take 64 text) ++ codes "\"")

-- the text of a string variable, or None
abbrev pub variable_text : Option Seen → Option (List ℕ)
variable_text (Some (objects.StringVariable o)) = Some o.text
variable_text _ = None

-- the text that an object shows: its variable's text, if it has a variable
abbrev pub text_shown : ObjectMap → ℕ → List ℕ → Option (List ℕ)
text_shown store variable own = if variable == null_id then Some own else variable_text (finite.get store variable)

-- the mark of a disabled input
abbrev pub switched : Option Bool → List ℕ
switched (Some false) = codes " off"
switched _ = []

-- ---- the line of each kind, without `off`; empty for an object that is no element

abbrev pub described : ObjectMap → Element → Option Seen → List ℕ
described store e (Some (objects.WorkingSet o)) = positioned (codes "workset") e
described store e (Some (objects.Container o)) = positioned (codes "container") e ++ size_text o.width o.height
described store e (Some (objects.Key o)) = codes "key " ++ (decimal e.id ++ (number_text e.place ++ coded o.key_code))
described store e (Some (objects.Button o)) = positioned (codes "button") e ++ (size_text o.width o.height ++ coded o.key_code)
described store e (Some (objects.InputBoolean o)) = positioned (codes "boolean") e ++ decided (number_shown store o.variable o.value)
described store e (Some (objects.InputString o)) = positioned (codes "input") e ++ quoted (text_shown store o.variable o.text)
described store e (Some (objects.InputNumber o)) =
    positioned (codes "number") e ++ scaled_text o.offset (scale_places o.scale) o.decimals (number_shown store o.variable o.value)
described store e (Some (objects.InputList o)) = positioned (codes "list") e ++ valued (number_shown store o.variable o.value)
described store e (Some (objects.OutputString o)) = positioned (codes "text") e ++ quoted (text_shown store o.variable o.text)
described store e (Some (objects.OutputNumber o)) =
    positioned (codes "value") e ++ scaled_text o.offset (scale_places o.scale) o.decimals (number_shown store o.variable o.value)
described store e (Some (objects.Line o)) = positioned (codes "line") e ++ (size_text o.width o.height ++ number_text o.direction)
described store e (Some (objects.Rectangle o)) = positioned (codes "rectangle") e ++ size_text o.width o.height
described store e (Some (objects.Ellipse o)) = positioned (codes "ellipse") e ++ size_text o.width o.height
described store e (Some (objects.Polygon o)) = positioned (codes "polygon") e ++ size_text o.width o.height
described store e (Some (objects.Meter o)) = positioned (codes "meter") e ++ valued (number_shown store o.variable o.value)
described store e (Some (objects.LinearBar o)) =
    positioned (codes "bar") e ++ (size_text o.width o.height
    ++ (valued (number_shown store o.variable o.value) ++ valued (number_shown store o.target_variable o.target)))
described store e (Some (objects.ArchedBar o)) =
    positioned (codes "arch") e ++ (size_text o.width o.height
    ++ (valued (number_shown store o.variable o.value) ++ valued (number_shown store o.target_variable o.target)))
described store e (Some (objects.Picture o)) = positioned (codes "picture") e ++ number_text o.width
described store e _ = []

-- the line of an element, with its newline
abbrev pub line_of : ObjectMap → Element → Option Seen → List ℕ
line_of store e o = described store e o ++ (switched (is_enabled o) ++ codes "\n")

abbrev pub line : ObjectMap → Element → List ℕ
line store e = line_of store e (finite.get store e.id)
