use Rattle.std.proofs.Common.{◌<◌, length, rules}
use Rattle.vt_rank.proofs.SetsAfterInsertions.{inserted}
use Rattle.vt_rank.proofs.node_set.NodeSet.insert.Goals as goal

pub returns : goal.returns
returns c =
    let inside : c.from.result < length c.args.self.now.words = search rules in
    inserted c.args.self.now c.args.node c.from.result c.from.ensures inside
