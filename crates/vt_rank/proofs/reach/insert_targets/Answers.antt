use Rattle.std.proofs.Common.{sym, subst}
use Rattle.vt_rank.specs.declared.graph.Item.{Item}
use Rattle.vt_rank.specs.Graphs.{nodes_of}
use Rattle.vt_rank.specs.NodeSets.{Adds}
use Rattle.vt_rank.proofs.SetsAfterInsertions.{adds_set}
use Rattle.vt_rank.proofs.reach.insert_targets.Goals as goal

pub returns-in-Most : goal.returns-in-Most
returns-in-Most c =
    subst (λ (item : Item). Adds c.args.targets.now c.insert_all.new.self (nodes_of c.args.graph.now item)) (sym c.in-Most.is) (adds_set _ _ _ _ c.requires c.insert_all.ensures.kept c.insert_all.ensures.there c.insert_all.ensures.only)
