-- The status of a test.
use Rattle.std.specs.Prelude.{List, [], ◌∷◌}
use Rattle.log_expect.specs.declared.difference.LineDifference.{LineDifference}
use Rattle.log_bench.specs.declared.outcome.LogOutcome.{LogOutcome}
use Rattle.log_bench.specs.declared.outcome.LogOutcome.TheVariants as outcome
use Rattle.vt_cli.specs.declared.status.Status.{Status}
use Rattle.vt_cli.specs.declared.status.Status.TheVariants.{Clean, Found, NotJudged}

-- nothing is found exactly if no line differs
abbrev pub status_of : List LineDifference → Status
status_of [] = Clean
status_of (difference ∷ differences) = Found

-- the status of what became of a log
abbrev pub outcome_status : LogOutcome → Status
outcome_status outcome.Met = Clean
outcome_status (outcome.Differs count) = Found
outcome_status outcome.Written = Clean
outcome_status outcome.Same = Clean
outcome_status outcome.NotJudged = NotJudged
