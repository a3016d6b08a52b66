-- The fields in which two objects of one kind differ: those whose values in the two records differ.
use Rattle.std.specs.Prelude.{Bool, false, ◌==◌, if◌then◌else◌, List, [], ◌∷◌, ◌++◌}
use Rattle.std.specs.Ordering.{int_eq}
use Rattle.std.specs.Cmp.Lexicographic.{pointwise}
use Rattle.std.specs.Str.{bytes_eq}
use Rattle.vt_kinds.specs.Kinds.{kind_number}
use Rattle.vt_kinds.specs.Layout.{RecordField, Count, Numeral, natural, integer, Value, number, rows, bytes}
use Rattle.vt_kinds.specs.Records.{Seen, kind_of, fields_of, values_of}
use Rattle.check_changes.specs.FieldNames.{field_names}
use Rattle.check_changes.specs.Names.{Name}

-- two numbers are equal
abbrev pub same_numeral : Numeral → Numeral → Bool
same_numeral (natural a) (natural b) = a == b
same_numeral (integer a) (integer b) = int_eq a b
same_numeral _ _ = false

-- two values of a field are equal
abbrev pub same_value : Value → Value → Bool
same_value (number a) (number b) = same_numeral a b
same_value (rows a) (rows b) = pointwise (pointwise same_numeral) a b
same_value (bytes a) (bytes b) = bytes_eq a b
same_value _ _ = false

-- the values but for the counts: a count goes with the list that it counts
abbrev pub without_counts : List RecordField → List Value → List Value
without_counts (Count _ _ ∷ fs) (_ ∷ vs) = without_counts fs vs
without_counts (_ ∷ fs) (v ∷ vs) = v ∷ without_counts fs vs
without_counts _ _ = []

-- the values of the fields that have names
abbrev pub named_values : Seen → List Value
named_values o = without_counts (fields_of (kind_of o)) (values_of o)

-- a field by its name, with its old and its new value
pub record Change : Type 0 where
  pub name : Name
  pub old : Value
  pub new : Value

-- the change of a field, unless its values are equal
abbrev pub change : Name → Value → Value → Bool → List Change
change name old new equal = if equal then [] else record { name = name; old = old; new = new } ∷ []

-- the fields whose values differ
abbrev pub differing : List Name → List Value → List Value → List Change
differing (name ∷ names) (a ∷ old) (b ∷ new) = change name a b (same_value a b) ++ differing names old new
differing _ _ _ = []

-- the fields in which two objects differ; objects of different kinds share no field
abbrev pub changed : Seen → Seen → List Change
changed old new =
    if kind_number (kind_of old) == kind_number (kind_of new)
    then differing (field_names (kind_of old)) (named_values old) (named_values new)
    else []
