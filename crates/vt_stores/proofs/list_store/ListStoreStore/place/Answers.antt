use Rattle.vt_stores.proofs.StoreMethods.{place_in, place_some, place_none}
use Rattle.vt_stores.proofs.LinearSearch.{front_none, front_some}
use Rattle.vt_stores.proofs.list_store.ListStoreStore.place.Goals as goal

pub returns-clause-some : goal.returns-clause-some
returns-clause-some c =
    let es = c.self.inside.entries.items in
    place_some es c.args.self.now c.args.id c.place_of.result c.self.view_is c.self.invariant
    (place_in es c.deref.result.now c.args.id c.place_of.result c.deref.ensures.value (front_some c.args.id c.deref.result.now c.place_of.result c.place_of.ensures))

pub returns-clause-none : goal.returns-clause-none
returns-clause-none c =
    place_none c.self.inside.entries.items c.deref.result.now c.args.self.now c.args.id c.place_of.result c.deref.ensures.value c.self.view_is c.self.invariant (front_none c.args.id c.deref.result.now c.place_of.result c.place_of.ensures)
