use Rattle.vt_kinds.specs.Records.{fields_of}
use Rattle.vt_pool.proofs.FieldSkips.{IsPassed}
use Rattle.vt_pool.proofs.passing.pass_fields.Given as goal

abbrev pub invariant-loop-field : goal.invariant-loop-field
invariant-loop-field l = IsPassed (fields_of l.fn.kind) l.bytes l.at l.field-index l.met l.counts l.rest
