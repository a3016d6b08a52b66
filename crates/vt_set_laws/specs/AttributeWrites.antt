-- The field that Change Attribute writes in the object's record (docs/PROFILE.md, "Attribute numbers", "Records").
use Rattle.std.specs.Prelude.{◌≡◌, ◌<◌, ◌^◌, ℕ, set, Option, Some, Ok}
use Rattle.vt_kinds.specs.declared.kind.Kind.{Kind}
use Rattle.vt_kinds.specs.declared.fields.Attribute.{Attribute}
use Rattle.vt_kinds.specs.Attributes.{attribute_at}
use Rattle.vt_kinds.specs.Records.{Seen, kind_of, values_of}
use Rattle.vt_objects.specs.AttributeFields.{IsField, changed_value}
use Rattle.vt_effects.specs.Changes.{change_attribute}

-- The record has the value in the field of the attribute, and its former value in every other field.
pub record WritesField (attribute : Attribute) (n : ℕ) (old new : Seen) : Type 0 where
  pub kind : kind_of new ≡ kind_of old
  pub place : ℕ
  pub field : IsField (kind_of old) attribute place
  pub values : values_of new ≡ set (values_of old) place (changed_value attribute.value_type n)

-- Change Attribute writes an accepted value of four bytes to the field of the attribute's number, and to no other field.
abbrev pub AttributesAreWritten : Type 0
AttributesAreWritten = (kind_of_other : Option Kind) (number n : ℕ) (attribute : Attribute) (o new : Seen) → n < 256 ^ 4
    → attribute_at (kind_of o) number ≡ Some attribute → change_attribute kind_of_other number n o ≡ Ok new → WritesField attribute n o new
