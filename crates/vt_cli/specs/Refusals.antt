-- The refusals of words.
use Rattle.std.specs.Prelude.{◌≡◌, ◌⊎◌}
use Rattle.clap.specs.Words.{kind_of}
use Rattle.clap.specs.declared.error.kind.ErrorKind.TheVariants.{DisplayHelp, DisplayVersion}
use Rattle.vt_cli.specs.declared.refusal.UsageError.{UsageError}
use Rattle.vt_cli.specs.declared.refusal.UsageError.TheVariants.{Words}

-- help or the version is asked for
abbrev pub AsksForHelp : {W : Type 0} → UsageError W → Type 0
AsksForHelp (Words error) = (kind_of error ≡ DisplayHelp) ⊎ (kind_of error ≡ DisplayVersion)
AsksForHelp _ = ⊥
