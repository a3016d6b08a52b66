use Rattle.std.proofs.Common.{Some, sym, arith}
use Rattle.std.proofs.lemmas.Result.{on_ok_weaker}
use Rattle.vt_kinds.specs.Records.{seen}
use Rattle.vt_layout.specs.Lines.{line_of}
use Rattle.vt_layout.proofs.EntriesOnPage.{one_too_many, one_more}
use Rattle.vt_layout.proofs.page.Page.put.Goals as goal

pub returns-then-self-gt-MOST_LINES : goal.returns-then-self-gt-MOST_LINES
returns-then-self-gt-MOST_LINES g c =
    one_too_many (line_of (g.S.Store.contents c.args.store.now) c.args.element (Some (seen c.args.object.now))) c.self.inside.text.items c.self.inside.count c.args.self.now
    (sym c.self.view_is) c.if-self-gt-MOST_LINES.true

pub returns : goal.returns
returns g c =
    let few = c.if-self-gt-MOST_LINES.false in
    on_ok_weaker c.write_line.result
    (one_more (line_of (g.S.Store.contents c.args.store.now) c.args.element (Some (seen c.args.object.now))) c.self.inside.text.items c.write_line.new.text.items
    c.self.inside.count c.args.self.now (sym c.self.view_is) (omega (arith, few)))
    c.write_line.ensures
