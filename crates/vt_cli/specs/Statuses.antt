-- The statuses of runs.
use Rattle.std.specs.Prelude.{ℕ}
use Rattle.vt_cli.specs.declared.status.Status.{Status}
use Rattle.vt_cli.specs.declared.status.Status.TheVariants.{Clean, Found, NotJudged}

abbrev pub status_code : Status → ℕ
status_code Clean = 0
status_code Found = 1
status_code NotJudged = 2

-- the status of two parts of a run: that of the greater code
abbrev pub worse : Status → Status → Status
worse NotJudged b = NotJudged
worse Found NotJudged = NotJudged
worse Found b = Found
worse Clean b = b
