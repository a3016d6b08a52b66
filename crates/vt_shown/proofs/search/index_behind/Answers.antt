use Rattle.vt_kinds.specs.Records.{seen}
use Rattle.vt_shown.proofs.Searches.{behind_index}
use Rattle.std.proofs.Common.{sym}
use Rattle.vt_shown.proofs.search.index_behind.Goals as goal

pub returns-clause-some : goal.returns-clause-some
returns-clause-some g c =
    let found = c.in-Some.ensures.some in
    behind_index (g.S.Store.contents c.args.store.now) c.args.id c.in-Some.found.0 (seen c.in-Some.found.1.now) c.place.result c.place.ensures.some found.0 found.1
    (sym c.if-not-is_element.ensures)
