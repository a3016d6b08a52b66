use Rattle.log_expect.proofs.NoDifference.{as-expected}
use Rattle.log_expect.proofs.laws.a_test_without_differences_is_as_expected.Goals as goal

pub returns : goal.returns
returns c = as-expected
