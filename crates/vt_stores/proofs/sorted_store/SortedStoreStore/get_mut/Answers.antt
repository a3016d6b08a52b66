use Rattle.std.proofs.Common.{refl, ap}
use Rattle.vt_kinds.specs.Records.{seen}
use Rattle.vt_stores.specs.Stores.{map_of}
use Rattle.vt_stores.proofs.StoreMethods.{absent, placed, within_place, got_none, got_some, stored_set, wrote_in, kept_in}
use Rattle.vt_stores.proofs.sorted_store.SortedStoreStore.get_mut.Goals as goal

pub invariant_of-self-lent : goal.invariant_of-self-lent
invariant_of-self-lent c w =
    let es = c.self.inside.entries.items in
    let at = placed es c.deref.result.now c.args.id c.in-Some.place c.deref.ensures.value c.in-Some.ensures.some in
    stored_set es c.in-Some.place c.index_mut.result.now w c.self.invariant (within_place es c.args.id c.in-Some.place at) c.index_mut.ensures.value

pub returns-in-None : goal.returns-in-None
returns-in-None c =
    let es = c.self.inside.entries.items in
    let none = absent es c.deref.result.now c.args.id c.deref.ensures.value c.in-None.ensures.none in (
      (refl, λ w. kept_in es c.args.self.now c.args.id (seen w) c.self.view_is c.self.invariant none, ap map_of c.self.view_is),
      record { writes_back = tt; value = got_none es c.args.self.now c.args.id c.self.view_is c.self.invariant none },
    )

pub returns-in-Some : goal.returns-in-Some
returns-in-Some c =
    let es = c.self.inside.entries.items in
    let at = placed es c.deref.result.now c.args.id c.in-Some.place c.deref.ensures.value c.in-Some.ensures.some in (
      (refl, λ w. wrote_in es c.args.self.now c.args.id c.in-Some.place c.index_mut.result.now w c.self.view_is c.self.invariant at c.index_mut.ensures.value, refl),
      record { writes_back = tt; value = got_some es c.args.self.now c.args.id c.in-Some.place c.index_mut.result.now c.self.view_is c.self.invariant at c.index_mut.ensures.value },
    )
