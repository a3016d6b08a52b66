-- The laws of check_changes.
use Rattle.std.specs.Prelude.{◌≡◌, ℕ, [], length}
use Rattle.vt_kinds.specs.Records.{Seen, kind_of, record_of}
use Rattle.check_changes.specs.Changes.{changed, named_values}
use Rattle.check_changes.specs.FieldNames.{field_names}

-- objects of one kind for which no field is named have the same record under each ID
abbrev pub UnchangedRecordsAreEqual : Type 0
UnchangedRecordsAreEqual = (old new : Seen) → kind_of old ≡ kind_of new → changed old new ≡ [] → (id : ℕ) → record_of id old ≡ record_of id new

-- an object has no changed field beside itself
abbrev pub EqualObjectsAreUnchanged : Type 0
EqualObjectsAreUnchanged = (o : Seen) → changed o o ≡ []

-- a kind has as many names as its objects have values without the counts
abbrev pub EachValueIsNamed : Type 0
EachValueIsNamed = (o : Seen) → length (field_names (kind_of o)) ≡ length (named_values o)
