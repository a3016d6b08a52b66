use Rattle.std.proofs.Common.{sym}
use Rattle.vt_kinds.specs.Records.{seen}
use Rattle.vt_chains.proofs.IdIndices.{get_placed}
use Rattle.vt_chains.proofs.chains.entry.Goals as goal

pub returns-clause-object : goal.returns-clause-object
returns-clause-object g c = get_placed (g.S.Store.contents c.args.store.now) c.args.index c.in-Some.entry.0 (seen c.in-Some.entry.1.now) (sym c.in-Some.ensures)
