use Rattle.std.proofs.Common.{ap, ◌∙◌}
use Rattle.check_needs.specs.Needs.{ends_of}
use Rattle.check_needs.proofs.lemmas.Ends.{any_ends}
use Rattle.check_needs.proofs.needers.reach_of.Goals as goal

pub returns : goal.returns
returns c = ap ends_of c.element-right.ensures.element ∙ any_ends c.args.objects.now c.args.parent c.args.index c.args.child
