use Rattle.vt_laws.proofs.lemmas.sets.NamesOfHolders.{held}
use Rattle.vt_laws.proofs.sets_hold_their_address.Goals as goal

pub returns : goal.returns
returns c = held (record {
  holders = c.other_holders_stay.ensures;
  tp = c.steps_are_timeless.ensures;
  etp = c.steps_are_timeless-2.ensures;
  sender = c.answers_are_timeless.ensures;
})
