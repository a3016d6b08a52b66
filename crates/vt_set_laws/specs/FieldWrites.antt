-- The fields that the commands that only write fields write in the object's record (docs/PROFILE.md, "Commands: all rows", "Records").
use Rattle.std.specs.Prelude.{◌≡◌, ◌<◌, ◌^◌, ℕ, Bool, true, false, List, [], ◌∷◌, Option, Some, None, Ok, slice_get}
use Rattle.std.specs.List.{AllByRecursion}
use Rattle.vt_kinds.specs.declared.kind.Kind.{Kind}
use Rattle.vt_kinds.specs.declared.kind.Kind.TheVariants as kinds
use Rattle.vt_kinds.specs.declared.fields.Field.{Field}
use Rattle.vt_kinds.specs.declared.fields.Field.TheVariants as fields
use Rattle.vt_kinds.specs.Layout.{Number, Unsigned, number, natural}
use Rattle.vt_kinds.specs.Records.{Seen, kind_of, fields_of, values_of}
use Rattle.vt_commands.specs.declared.command.Command.{Command}
use Rattle.vt_commands.specs.declared.command.Command.TheVariants.{ChangeSize, ChangeBackgroundColour, ChangeEndPoint, ChangeFontAttributes, ChangeLineAttributes, ChangeFillAttributes, ChangePriority}
use Rattle.vt_objects.specs.AttributeFields.{IsFieldNamed}
use Rattle.vt_effects.specs.Changes.{changed}

-- a number of a command, with the name of its field and the number of its bytes
pub record Written : Type 0 where
  pub name : Field
  pub size : ℕ
  pub n : ℕ

abbrev pub written : Field → ℕ → ℕ → Written
written name size n = record { name = name; size = size; n = n }

-- The numbers that a command writes, in the order of its bytes, if it writes fields alone.
abbrev pub written_by : Command → Option (List Written)
written_by (ChangeSize id width height) = Some (written fields.Width 2 width ∷ written fields.Height 2 height ∷ [])
written_by (ChangeBackgroundColour id colour) = Some (written fields.Colour 1 colour ∷ [])
written_by (ChangeEndPoint id width height direction) =
    Some (written fields.Width 2 width ∷ written fields.Height 2 height ∷ written fields.Direction 1 direction ∷ [])
written_by (ChangeFontAttributes id colour size type style) =
    Some (written fields.Colour 1 colour ∷ written fields.Size 1 size ∷ written fields.Type 1 type ∷ written fields.Style 1 style ∷ [])
written_by (ChangeLineAttributes id colour width art) =
    Some (written fields.Colour 1 colour ∷ written fields.Width 1 width ∷ written fields.LineArt 2 art ∷ [])
written_by (ChangeFillAttributes id type colour pattern) =
    Some (written fields.Type 1 type ∷ written fields.Colour 1 colour ∷ written fields.Pattern 2 pattern ∷ [])
written_by (ChangePriority id priority) = Some (written fields.Priority 1 priority ∷ [])
written_by _ = None

-- a number fits its bytes
abbrev pub Fits : Written → Type 0
Fits w = w.n < 256 ^ w.size

-- the field at a place has as many bytes as the number, and has the number
pub record HasNumber (w : Written) (old new : Seen) (place : ℕ) : Type 0 where
  pub typed : slice_get (fields_of (kind_of old)) place ≡ Some (Number (Unsigned w.size))
  pub value : slice_get (values_of new) place ≡ Some (number (natural w.n))

-- whether a kind with a width has a height too
abbrev pub has_height : Kind → Bool
has_height kinds.InputBoolean = false
has_height kinds.Meter = false
has_height kinds.Picture = false
has_height kind = true

-- a record of a kind has a field of this name, or it is the height of a kind without one
pub data IsThere (kind : Kind) (name : Field) : Type 0 where
  at : (place : ℕ) → IsFieldNamed kind name place → IsThere kind name
  no_height : name ≡ fields.Height → has_height kind ≡ false → IsThere kind name

-- An object keeps its kind. The field of each number's name has the number, and every other field its former value.
pub record WritesFields (ws : List Written) (old new : Seen) : Type 0 where
  pub kind : kind_of new ≡ kind_of old
  pub there : AllByRecursion (λ w. IsThere (kind_of old) w.name) ws
  pub named : AllByRecursion (λ w. (place : ℕ) → IsFieldNamed (kind_of old) w.name place → HasNumber w old new place) ws
  pub others : (place : ℕ) → AllByRecursion (λ w. IsFieldNamed (kind_of old) w.name place → ⊥) ws
      → slice_get (values_of new) place ≡ slice_get (values_of old) place

-- A command that is done has written each of its numbers to the field of its name, and to no other field.
abbrev pub FieldsAreWritten : Type 0
FieldsAreWritten = (command : Command) (kind_of_other : Option Kind) (o new : Seen) (ws : List Written) → written_by command ≡ Some ws
    → AllByRecursion Fits ws → changed command kind_of_other o ≡ Ok new → WritesFields ws o new
