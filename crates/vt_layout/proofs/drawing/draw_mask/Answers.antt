use Rattle.std.proofs.Common.{◌∙◌, sym, ap}
use Rattle.std.proofs.lemmas.Result.{on_ok_weaker}
use Rattle.vt_kinds.specs.Records.{seen}
use Rattle.vt_shown.specs.ShownElements.{soft_key_mask_of}
use Rattle.vt_layout.proofs.EntriesOnPage.{no_mask, mask_drawn}
use Rattle.vt_layout.proofs.drawing.draw_mask.Goals as goal

pub returns-in_default-clause-drawn : goal.returns-in_default-clause-drawn
returns-in_default-clause-drawn g c =
    no_mask (g.S.Store.contents c.args.store.now) c.args.mask c.args.page.now c.in_default.ensures.value c.get.ensures.named

pub returns-clause-drawn : goal.returns-clause-drawn
returns-clause-drawn g c =
    on_ok_weaker c.draw_soft_keys.result
    (mask_drawn (g.S.Store.contents c.args.store.now) c.args.mask c.soft_key_mask.result (seen c.in-Some.object.now) c.args.page.now c.draw_within.new.page c.draw_soft_keys.new.page
    c.in-Some.ensures.value (c.soft_key_mask.ensures.keys ∙ sym (ap soft_key_mask_of c.in-Some.ensures.value)) c.in_ok-draw_within.ensures)
    c.draw_soft_keys.ensures
