use Rattle.std.proofs.Common.{rules}
use Rattle.log_times.proofs.Rhythms.{taken_more}
use Rattle.log_times.proofs.rhythm.Rhythm.take.Goals as goal

pub returns-then-length-gt-MOST_SILENT : goal.returns-then-length-gt-MOST_SILENT
returns-then-length-gt-MOST_SILENT c messages taken =
    taken_more messages c.args.at c.args.self.now _ taken (search rules) (search rules) (search rules) (search rules)
