use Rattle.log_expect.proofs.Patterns.{without-wildcards}
use Rattle.log_expect.proofs.laws.a_text_fits_another_only_by_wildcards.Goals as goal

pub returns : goal.returns
returns c = without-wildcards
