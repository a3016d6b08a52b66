use Rattle.log_reach.proofs.shown_masks.ReachedMasks.new.Goals as goal

pub returns : goal.returns
returns c address mask = c.new.ensures (address, mask)
