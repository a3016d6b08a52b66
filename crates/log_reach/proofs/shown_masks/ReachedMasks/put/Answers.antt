use Rattle.std.proofs.lemmas.Result.{on_ok_weaker}
use Rattle.log_reach.proofs.PairSets.{by_parts}
use Rattle.log_reach.proofs.shown_masks.ReachedMasks.put.Goals as goal

pub returns : goal.returns
returns c =
    rw (← c.raw.ensures)
    (on_ok_weaker c.put.result (λ joins address mask. by_parts c.args.self.now.masks.pairs c.put.new.self.pairs (c.args.address, c.raw.result) (address, mask) (joins (address, mask)))
    c.put.ensures)
