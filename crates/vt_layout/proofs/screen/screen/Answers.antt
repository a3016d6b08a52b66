use Rattle.std.proofs.lemmas.Result.{IfOk-weaker}
use Rattle.vt_layout.proofs.EntriesOnPage.{screen_text}
use Rattle.vt_layout.proofs.screen.screen.Goals as goal

pub returns-clause-text : goal.returns-clause-text
returns-clause-text g c =
    IfOk-weaker c.finish.result _ _
    (λ text last. screen_text (g.S.Store.contents c.args.store.now) c.args.address c.args.mask c.in_ok-heading.field-0.items text.items c.new-page.result c.draw_mask.new.page
    last c.in_ok-draw_mask.ensures.drawn c.new-page.ensures c.in_ok-heading.ensures)
    c.finish.ensures
