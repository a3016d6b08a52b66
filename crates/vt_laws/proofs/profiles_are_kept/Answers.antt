use Rattle.vt_laws.proofs.lemmas.ticks.Profiles.{profiles}
use Rattle.vt_laws.proofs.profiles_are_kept.Goals as goal

pub returns : goal.returns
returns c = profiles
