use Rattle.std.proofs.Common.{◌∙◌}
use Rattle.vt_verify.proofs.lemmas.graphs.EventGroups.{group_is}
use Rattle.vt_verify.proofs.triggers.group_of.Goals as goal

pub returns : goal.returns
returns c = c.get_index_of.ensures.index ∙ group_is c.args.events.now.keys c.args.raised
