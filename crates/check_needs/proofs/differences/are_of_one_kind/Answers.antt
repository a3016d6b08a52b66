use Rattle.vt_stores.proofs.ObjectShapes.{seen_kind}
use Rattle.check_needs.proofs.differences.are_of_one_kind.Goals as goal

pub returns : goal.returns
returns c = cc (seen_kind c.args.old.now, seen_kind c.args.new.now)
