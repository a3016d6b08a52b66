use Rattle.std.proofs.Common.{◌<◌, length}
use Rattle.std.proofs.lemmas.Result.{err_from_is_err_and}
use Rattle.vt_records.proofs.RecordHeads.{record_at-short}
use Rattle.vt_records.proofs.record.parse_record.Goals as goal

pub returns-in_err-need : goal.returns-in_err-need
returns-in_err-need c =
    let p = err_from_is_err_and c.from_residual.result c.from_residual.ensures.1 in
    let short : length c.args.bytes.now < 3 = rw c.new-reader.ensures at c.in_err-need.ensures.err.1 in
    rw (p.1, p.2, c.in_err-need.ensures.err.0) (record_at-short c.args.bytes.now short)
