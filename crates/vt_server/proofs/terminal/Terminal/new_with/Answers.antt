use Rattle.std.proofs.Common.{nat_cmp, ap, ◌∙◌}
use Rattle.std.specs.FinMap as finite
use Rattle.vt_server.proofs.terminal.Terminal.new_with.Goals as goal

pub returns-clause-places : goal.returns-clause-places
returns-clause-places c address = λ i. record {
  content = c.new-3.ensures address i;
  tp = (ap (λ m. finite.get m address) c.new.ensures.tp ∙ finite.get-empty nat_cmp address) i;
  etp = (ap (λ m. finite.get m address) c.new.ensures.etp ∙ finite.get-empty nat_cmp address) i;
  sending = (ap (λ m. finite.get m address) c.new.ensures.sending ∙ finite.get-empty nat_cmp address) i;
  heard = c.new-2.ensures.heard address i;
}
