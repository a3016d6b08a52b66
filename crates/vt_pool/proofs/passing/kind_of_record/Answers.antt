use Rattle.std.proofs.Common.{◌<◌, ◌≤◌, length, sym, ◌∙◌}
use Rattle.std.proofs.lemmas.Result.{err_from_is_err_and}
use Rattle.vt_records.proofs.RecordHeads.{record_at-short}
use Rattle.vt_pool.proofs.RecordSkips.{null_head, kind_head}
use Rattle.vt_pool.proofs.passing.kind_of_record.Goals as goal

pub returns-in_err-need-clause-head : goal.returns-in_err-need-clause-head
returns-in_err-need-clause-head c =
    let p = err_from_is_err_and c.from_residual.result c.from_residual.ensures.1 in
    let short : length c.args.bytes.now < 3 = rw c.new-reader.ensures at c.in_err-need.ensures.err.1 in
    rw (p.1, p.2, c.in_err-need.ensures.err.0) (record_at-short c.args.bytes.now short)

pub returns-then-is_null-clause-head : goal.returns-then-is_null-clause-head
returns-then-is_null-clause-head c =
    let long : 3 ≤ length c.args.bytes.now = rw c.new-reader.ensures at c.in_ok-need.ensures.ok in
    let first = rw c.new-reader.ensures at c.id-id.ensures.read in
    null_head c.args.bytes.now c.id-id.new.self c.u8-number.new.self c.id-id.result c.u8-number.result long first c.u8-number.ensures.read (c.is_null.ensures.0 c.if-is_null.true)

pub returns-clause-head : goal.returns-clause-head
returns-clause-head c =
    let long : 3 ≤ length c.args.bytes.now = rw c.new-reader.ensures at c.in_ok-need.ensures.ok in
    let first = rw c.new-reader.ensures at c.id-id.ensures.read in
    kind_head c.args.bytes.now c.id-id.new.self c.u8-number.new.self c.id-id.result c.u8-number.result c.kind_with.result long first c.u8-number.ensures.read (λ e. let both = sym (c.is_null.ensures.1 e) ∙ c.if-is_null.false in absurd cc) c.kind_with.ensures
