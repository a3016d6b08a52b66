use Rattle.std.proofs.Common.{◌<◌, length}
use Rattle.std.proofs.lemmas.Result.{err_from_is_err_and}
use Rattle.vt_kinds.specs.Records.{fields_of}
use Rattle.vt_records.specs.TableReads.{head_size}
use Rattle.vt_records.proofs.Tables.{fields_short}
use Rattle.vt_records.proofs.records.read_fields.Goals as goal

pub returns-in_err-need-clause-read : goal.returns-in_err-need-clause-read
returns-in_err-need-clause-read c =
    let p = err_from_is_err_and c.from_residual.result c.from_residual.ensures.1 in
    let short : length c.args.reader.now < head_size (fields_of c.args.kind) = rw c.head_size.ensures at c.in_err-need.ensures.err.1 in
    rw (p.1, p.2, c.in_err-need.ensures.err.0) (fields_short (fields_of c.args.kind) c.args.reader.now short)
