-- Records that a later one of another kind replaces.
use Rattle.std.specs.Prelude.{Bool, false, not, ◌==◌, Option, Some, None}
use Rattle.std.specs.Option.{option_map}
use Rattle.check_inspect.specs.declared.inspection.Inspection.{Inspection}
use Rattle.check_reading.specs.declared.pool_reading.ReplacedRecord.{ReplacedRecord}
use Rattle.vt_kinds.specs.declared.kind.Kind.{Kind}
use Rattle.vt_kinds.specs.Kinds.{kind_number}
use Rattle.vt_kinds.specs.Records.{kind_of}
use Rattle.vt_stores.specs.Stores.{object_at}

-- whether there is a kind, and it is another one
abbrev pub is_other : Kind → Option Kind → Bool
is_other kind None = false
is_other kind (Some other) = not (kind_number other == kind_number kind)

-- whether the object in force is of another kind than the record that it replaces
abbrev pub is_clash : Inspection → ReplacedRecord → Bool
is_clash i replaced = is_other replaced.kind (option_map kind_of (object_at i.objects replaced.id))
