use Rattle.vt_layout.proofs.EntriesOnPage.{no_keys}
use Rattle.vt_layout.proofs.drawing.draw_soft_keys.Goals as goal

pub returns-in-None : goal.returns-in-None
returns-in-None g c = no_keys (g.S.Store.contents c.args.store.now) c.args.id c.args.page.now c.in-None.ensures.value
