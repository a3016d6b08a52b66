use Rattle.std.proofs.Common.{◌≡◌, take}
use Rattle.vt_kinds.specs.Records.{seen}
use Rattle.vt_effects.specs.Fields.{with_fields}
use Rattle.vt_effects.proofs.changes.fields.write_fields_if.Given as goal

abbrev pub invariant-loop-field : goal.invariant-loop-field
invariant-loop-field l = seen l.object ≡ with_fields (take l.field-index l.fields) (seen l.fn.object)
