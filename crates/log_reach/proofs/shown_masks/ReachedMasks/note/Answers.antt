use Rattle.std.proofs.Common.{sym}
use Rattle.std.proofs.lemmas.Result.{on_ok_weaker}
use Rattle.log_reach.proofs.ShownMask.{shown_mask_joins}
use Rattle.log_reach.proofs.shown_masks.ReachedMasks.note.Goals as goal

pub returns : goal.returns
returns c =
    on_ok_weaker c.put.result
    (shown_mask_joins c.args.self.now c.put.new.self _ (c.in-Some.address, c.in-Some.live.now) c.active_mask-mask.result (sym c.in-Some.ensures)
    c.active_mask-mask.ensures.active (λ is_null. cc (c.is_null.ensures.1 is_null)))
    c.put.ensures
