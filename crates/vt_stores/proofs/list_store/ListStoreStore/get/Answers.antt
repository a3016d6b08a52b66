use Rattle.std.proofs.Common.{arith}
use Rattle.vt_stores.proofs.StoreMethods.{absent, placed, within_place, got_none, got_some, null_free_in}
use Rattle.vt_stores.proofs.LinearSearch.{front_absent, front_place}
use Rattle.vt_stores.proofs.list_store.ListStoreStore.get.Goals as goal

pub index-requires : goal.index-requires
index-requires c =
    let es = c.self.inside.entries.items in
    let at = placed es c.deref.result.now c.args.id c.in-Some.place c.deref.ensures.value (front_place c.args.id c.in-Some.place c.deref.result.now c.place_of.result c.place_of.ensures c.in-Some.is) in
    let lt = within_place es c.args.id c.in-Some.place at in
    omega (arith, lt)

pub returns-in-None : goal.returns-in-None
returns-in-None c =
    let es = c.self.inside.entries.items in
    record {
      value = got_none es c.args.self.now c.args.id c.self.view_is c.self.invariant (absent es c.deref.result.now c.args.id c.deref.ensures.value (front_absent c.args.id c.deref.result.now c.place_of.result c.place_of.ensures c.in-None.is));
      named = null_free_in es c.args.self.now c.self.view_is c.self.invariant;
    }

pub returns-in-Some : goal.returns-in-Some
returns-in-Some c =
    let es = c.self.inside.entries.items in
    record {
      value = got_some es c.args.self.now c.args.id c.in-Some.place c.index.result.now c.self.view_is c.self.invariant
          (placed es c.deref.result.now c.args.id c.in-Some.place c.deref.ensures.value (front_place c.args.id c.in-Some.place c.deref.result.now c.place_of.result c.place_of.ensures c.in-Some.is)) c.index.ensures;
      named = null_free_in es c.args.self.now c.self.view_is c.self.invariant;
    }
