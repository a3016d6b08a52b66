use Rattle.vt_program.proofs.Loading.{report_of_file}
use Rattle.vt_program.proofs.program.report.Goals as goal

pub returns-clause-text : goal.returns-clause-text
returns-clause-text g c =
    report_of_file (g.F.Open.file c.args.files.now c.args.path.now) c.in_ok-pool.pool c.report.new.out.items
    c.in_ok-pool.ensures.pool c.in_ok-pool.ensures.rising (rw c.new-text.ensures.items at c.in_ok-report.ensures.ok)
