use Rattle.vt_laws.proofs.lemmas.ticks.Echoes.{echo-ticks, echo-source, echo-meaning}
use Rattle.vt_laws.proofs.echoes_are_ticks.Goals as goal

pub returns : goal.returns
returns c = record {
  echoes = λ s time frame verdict kept own nothing. echo-ticks s time frame verdict own kept nothing;
  source = echo-source c.parts_are_identifiers.ensures;
  meaning = λ own name fits. echo-meaning c.parts_are_identifiers.ensures own fits name;
}
