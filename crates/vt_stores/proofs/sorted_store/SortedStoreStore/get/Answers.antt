use Rattle.vt_stores.proofs.StoreMethods.{absent, placed, got_none, got_some, found_some, null_free_in}
use Rattle.vt_stores.proofs.sorted_store.SortedStoreStore.get.Goals as goal

pub returns-in-None-clause-value : goal.returns-in-None-clause-value
returns-in-None-clause-value c =
    let es = c.self.inside.entries.items in
    got_none es c.args.self.now c.args.id c.self.view_is c.self.invariant (absent es c.deref.result.now c.args.id c.deref.ensures.value c.in-None.ensures.none)

pub returns-in-None-clause-named : goal.returns-in-None-clause-named
returns-in-None-clause-named c = null_free_in c.self.inside.entries.items c.args.self.now c.self.view_is c.self.invariant

pub returns-in-Some-clause-value : goal.returns-in-Some-clause-value
returns-in-Some-clause-value c =
    let es = c.self.inside.entries.items in
    got_some es c.args.self.now c.args.id c.in-Some.place c.index.result.now c.self.view_is c.self.invariant
    (placed es c.deref.result.now c.args.id c.in-Some.place c.deref.ensures.value c.in-Some.ensures.some) c.index.ensures

pub returns-in-Some-clause-named : goal.returns-in-Some-clause-named
returns-in-Some-clause-named c = null_free_in c.self.inside.entries.items c.args.self.now c.self.view_is c.self.invariant

pub returns-in-Some-clause-found : goal.returns-in-Some-clause-found
returns-in-Some-clause-found c =
    let es = c.self.inside.entries.items in
    found_some es c.args.self.now c.args.id c.in-Some.place c.index.result.now c.self.view_is
    (placed es c.deref.result.now c.args.id c.in-Some.place c.deref.ensures.value c.in-Some.ensures.some) c.index.ensures
