use Rattle.std.proofs.Common.{arith}
use Rattle.vt_stores.proofs.StoreMethods.{counted, named_in}
use Rattle.vt_stores.proofs.list_store.ListStoreStore.count.Goals as goal

pub returns-clause-count : goal.returns-clause-count
returns-clause-count c =
    let all = counted c.self.inside.entries.items c.args.self.now c.self.view_is c.self.invariant in
    omega (arith, all)

pub returns-clause-named : goal.returns-clause-named
returns-clause-named c = named_in c.self.inside.entries.items c.args.self.now c.self.view_is c.self.invariant
