use Rattle.std.proofs.lemmas.Result.{err_from_is_err_and}
use Rattle.vt_kinds.specs.Tables.{language_sizes}
use Rattle.vt_records.proofs.Rows.{row_short}
use Rattle.vt_records.proofs.entry.LanguageEntry.read.Goals as goal

pub returns-in_err-need : goal.returns-in_err-need
returns-in_err-need c =
    let p = err_from_is_err_and c.from_residual.result c.from_residual.ensures.1 in
    let short = c.in_err-need.ensures.err in
    rw (p.1, p.2) (short.0, row_short language_sizes c.args.reader.now short.1)
