use Rattle.vt_stores.proofs.StoreMethods.{entry_past, entry_within}
use Rattle.vt_stores.proofs.sorted_store.SortedStoreStore.entry_at.Goals as goal

pub returns-in-None : goal.returns-in-None
returns-in-None c =
    entry_past c.self.inside.entries.items c.deref.result.now c.args.self.now c.args.place c.deref.ensures.value c.self.view_is c.self.invariant
    c.in-None.ensures.lookup.3

pub returns-in-Some : goal.returns-in-Some
returns-in-Some c =
    entry_within c.self.inside.entries.items c.deref.result.now c.args.self.now c.args.place c.in-Some.field-0.now c.deref.ensures.value c.self.view_is c.self.invariant
    c.in-Some.ensures.lookup.3.0 c.in-Some.ensures.lookup.1
