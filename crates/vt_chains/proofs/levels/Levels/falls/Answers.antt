use Rattle.std.proofs.Common.{arith, ltb-true}
use Rattle.vt_chains.proofs.FallingLevels.{falling_there, falling_nowhere, falling_from_nowhere, index_within, level_is}
use Rattle.vt_chains.proofs.levels.Levels.falls.Goals as goal

pub returns-in_default : goal.returns-in_default
returns-in_default g c same =
    falling_from_nowhere (g.S.Store.contents c.args.store.now) c.args.self.now c.args.from c.args.to c.requires c.in_default.ensures.none

pub returns-in_default-place : goal.returns-in_default-place
returns-in_default-place g c same =
    falling_nowhere (g.S.Store.contents c.args.store.now) c.args.self.now c.args.from c.args.to c.requires c.in_default-place.ensures.none

pub index-requires : goal.index-requires
index-requires g c =
    let lt = index_within (g.S.Store.contents c.args.store.now) c.args.self.now.levels.items c.args.to c.in-Some-place.below c.requires.certificate.each c.in-Some-place.ensures.some in
    let len = c.args.self.now.levels.ok.0 in
    omega (arith, lt, len)

pub index-requires-2 : goal.index-requires-2
index-requires-2 g c =
    let lt = index_within (g.S.Store.contents c.args.store.now) c.args.self.now.levels.items c.args.from c.in-Some.above c.requires.certificate.each c.in-Some.ensures.some in
    let len = c.args.self.now.levels.ok.0 in
    omega (arith, lt, len)

pub returns : goal.returns
returns g c less =
    let m = g.S.Store.contents c.args.store.now in
    let levels = c.args.self.now.levels.items in
    let long = c.requires.certificate.each in
    let below = level_is m levels c.args.to c.in-Some-place.below c.index.result.now _ long c.in-Some-place.ensures.some c.index.ensures in
    let above = level_is m levels c.args.from c.in-Some.above c.index-2.result.now _ long c.in-Some.ensures.some c.index-2.ensures in
    let lt = ltb-true c.index.result.now c.index-2.result.now less in
    falling_there m c.args.self.now c.args.from c.args.to c.in-Some.above c.in-Some-place.below c.requires c.in-Some.ensures.some c.in-Some-place.ensures.some
    (omega (arith, lt, below, above))
