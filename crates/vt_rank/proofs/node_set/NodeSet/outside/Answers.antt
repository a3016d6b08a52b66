use Rattle.std.proofs.Common.{◌≡◌, ◌<◌, ◌/◌, ◌^◌, inl, inr, length, get_or, arith, rules}
use Rattle.std.proofs.lemmas.Bool.{cases_lt}
use Rattle.vt_rank.specs.NodeSets.{IsIn}
use Rattle.vt_rank.proofs.SetsAfterInsertions.{outside_found, outside_none, outside_past}
use Rattle.vt_rank.proofs.node_set.NodeSet.outside.Goals as goal

pub returns-then-rest-ne0-clause-found : goal.returns-then-rest-ne0-clause-found
returns-then-rest-ne0-clause-found c =
    let fits : get_or c.args.self.now.words c.from.result 0 < 2 ^ 64 = search rules in
    let others_fit : get_or c.args.others.now.words c.from-in-loop-place.result 0 < 2 ^ 64 = search rules in
    outside_found c.args.self.now c.args.others.now c.loop-place.place _ _ c.from.ensures c.from-in-loop-place.ensures fits others_fit c.if-rest-ne0.true

pub loop-place-preserved : goal.loop-place-preserved
loop-place-preserved c =
    let others_fit : get_or c.args.others.now.words c.from-in-loop-place.result 0 < 2 ^ 64 = search rules in
    outside_none c.args.self.now c.args.others.now c.loop-place.place _ _ c.from.ensures c.from-in-loop-place.ensures others_fit c.if-rest-ne0.false c.loop-place.invariant

pub returns-clause-none : goal.returns-clause-none
returns-clause-none c = λ n is.
    let size : length c.args.self.now.words ≡ 4 = search rules in
    elim (cases_lt (n / 64) c.loop-place.place) as (λ _. IsIn c.args.others.now n) [
      | inl less ↦ c.loop-place.invariant n less is
      | inr past ↦ absurd (outside_past c.args.self.now n size (omega (arith, past)) is)
    ]
