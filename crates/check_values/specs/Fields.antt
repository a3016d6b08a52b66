-- The fields of which only some numbers have a meaning (ISO 11783-6; docs/PROFILE.md, "Warnings").
use Rattle.std.specs.Prelude.{ℕ, Bool, nat_le, nat_lt, ◌||◌, ◌==◌, if◌then◌else◌, List, [], ◌∷◌}
use Rattle.std.specs.List.{flat_map}
use Rattle.vt_kinds.specs.declared.object.Object.TheVariants as object
use Rattle.vt_kinds.specs.Records.{Seen}
use Rattle.check_values.specs.declared.warning.LimitedField.{LimitedField}
use Rattle.check_values.specs.declared.warning.LimitedField.TheVariants as fields
use Rattle.check_values.specs.declared.warning.LimitedValue.{LimitedValue}
use Rattle.check_values.specs.declared.warning.Meaning.{Meaning}
use Rattle.check_values.specs.declared.warning.Meaning.TheVariants as meanings
use Rattle.check_values.specs.declared.warning.ValueWarning.{ValueWarning}
use Rattle.check_values.specs.declared.warning.ValueWarning.TheVariants as warnings

-- a field whose numbers up to the last have a meaning
abbrev pub up_to : LimitedField → ℕ → ℕ → LimitedValue
up_to field value most = record { field = field; value = value; meaning = meanings.UpTo most }

-- the type of a font: the code pages of the standard, and those of a maker of terminals
abbrev pub font_type : ℕ → LimitedValue
font_type value = record { field = fields.FontType; value = value; meaning = meanings.FontTypes }

-- Bit 7 of the style: the size is a height in pixels.
abbrev pub greatest_size : ℕ → ℕ
greatest_size style = if nat_lt style 128 then 14 else 255

-- angles are in steps of two degrees
abbrev pub angle : LimitedField → ℕ → LimitedValue
angle field value = up_to field value 180

-- the limited fields of an object
abbrev pub limited_values : Seen → List LimitedValue
limited_values (object.WorkingSet o) = up_to fields.Selectable o.selectable 1 ∷ []
limited_values (object.AlarmMask o) = up_to fields.Priority o.priority 2 ∷ up_to fields.AcousticSignal o.acoustic 3 ∷ []
limited_values (object.Container o) = up_to fields.Hidden o.hidden 1 ∷ []
limited_values (object.InputBoolean o) = up_to fields.Value o.value 1 ∷ up_to fields.Enabled o.enabled 1 ∷ []
limited_values (object.InputString o) = up_to fields.Enabled o.enabled 1 ∷ []
limited_values (object.InputNumber o) = up_to fields.Format o.format 1 ∷ []
limited_values (object.OutputNumber o) = up_to fields.Format o.format 1 ∷ []
limited_values (object.Line o) = up_to fields.Direction o.direction 1 ∷ []
limited_values (object.Rectangle o) = up_to fields.Suppression o.suppression 15 ∷ []
limited_values (object.Ellipse o) = up_to fields.Type o.ellipse_type 3 ∷ angle fields.Start o.start ∷ angle fields.End o.end ∷ []
limited_values (object.Polygon o) = up_to fields.Type o.polygon_type 3 ∷ []
limited_values (object.Meter o) = angle fields.Start o.start ∷ angle fields.End o.end ∷ []
limited_values (object.ArchedBar o) = angle fields.Start o.start ∷ angle fields.End o.end ∷ []
limited_values (object.Picture o) = up_to fields.Format o.format 2 ∷ []
limited_values (object.Font o) = up_to fields.Size o.size (greatest_size o.style) ∷ font_type o.font_type ∷ []
limited_values (object.FillAttributes o) = up_to fields.Type o.fill_type 3 ∷ []
limited_values (object.InputAttributes o) = up_to fields.ValidationType o.validation_type 1 ∷ []
limited_values o = []

-- the numbers that have a meaning
abbrev pub means : Meaning → ℕ → Bool
means (meanings.UpTo most) value = nat_le value most
means meanings.FontTypes value = nat_le value 2 || value == 4 || value == 5 || value == 7 || nat_le 240 value

abbrev pub has_meaning : LimitedValue → Bool
has_meaning limited = means limited.meaning limited.value

-- a field, if its number has no meaning
abbrev pub unless_meant : ℕ → LimitedValue → List ValueWarning
unless_meant id limited = if has_meaning limited then [] else warnings.NoMeaning id limited ∷ []

-- the fields of an object whose numbers have no meaning
abbrev pub without_meaning : ℕ → Seen → List ValueWarning
without_meaning id o = flat_map (unless_meant id) (limited_values o)
