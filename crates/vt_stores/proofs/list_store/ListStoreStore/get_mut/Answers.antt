use Rattle.std.proofs.Common.{arith, refl, ap}
use Rattle.vt_kinds.specs.Records.{seen}
use Rattle.vt_stores.specs.Stores.{map_of}
use Rattle.vt_stores.proofs.StoreMethods.{absent, placed, within_place, got_none, got_some, stored_set, wrote_in, kept_in}
use Rattle.vt_stores.proofs.LinearSearch.{front_absent, front_place}
use Rattle.vt_stores.proofs.list_store.ListStoreStore.get_mut.Goals as goal

pub index_mut-requires : goal.index_mut-requires
index_mut-requires c =
    let es = c.self.inside.entries.items in
    let at = placed es c.deref.result.now c.args.id c.in-Some.place c.deref.ensures.value (front_place c.args.id c.in-Some.place c.deref.result.now c.place_of.result c.place_of.ensures c.in-Some.is) in
    let lt = within_place es c.args.id c.in-Some.place at in
    omega (arith, lt)

pub invariant_of-self-lent : goal.invariant_of-self-lent
invariant_of-self-lent c w =
    let es = c.self.inside.entries.items in
    let at = placed es c.deref.result.now c.args.id c.in-Some.place c.deref.ensures.value (front_place c.args.id c.in-Some.place c.deref.result.now c.place_of.result c.place_of.ensures c.in-Some.is) in
    stored_set es c.in-Some.place c.index_mut.result.now w c.self.invariant (within_place es c.args.id c.in-Some.place at) c.index_mut.ensures.value

pub returns-in-None : goal.returns-in-None
returns-in-None c =
    let es = c.self.inside.entries.items in
    let none = absent es c.deref.result.now c.args.id c.deref.ensures.value (front_absent c.args.id c.deref.result.now c.place_of.result c.place_of.ensures c.in-None.is) in (
      (refl, λ w. kept_in es c.args.self.now c.args.id (seen w) c.self.view_is c.self.invariant none, ap map_of c.self.view_is),
      record { writes_back = tt; value = got_none es c.args.self.now c.args.id c.self.view_is c.self.invariant none },
    )

pub returns-in-Some : goal.returns-in-Some
returns-in-Some c =
    let es = c.self.inside.entries.items in
    let at = placed es c.deref.result.now c.args.id c.in-Some.place c.deref.ensures.value (front_place c.args.id c.in-Some.place c.deref.result.now c.place_of.result c.place_of.ensures c.in-Some.is) in (
      (refl, λ w. wrote_in es c.args.self.now c.args.id c.in-Some.place c.index_mut.result.now w c.self.view_is c.self.invariant at c.index_mut.ensures.value, refl),
      record { writes_back = tt; value = got_some es c.args.self.now c.args.id c.in-Some.place c.index_mut.result.now c.self.view_is c.self.invariant at c.index_mut.ensures.value },
    )
