use Rattle.std.proofs.Common.{◌≡◌, ◌<◌, length, arith, rules, refl}
use Rattle.std.proofs.lemmas.Nat.Bits.{bit_at-lt}
use Rattle.vt_rank.specs.NodeSets.{bit_of}
use Rattle.vt_rank.proofs.SetsAfterInsertions.{merging_more, merged, bit_merged, merged_only}
use Rattle.vt_rank.proofs.node_set.NodeSet.insert_all.Goals as goal

pub loop-place-init : goal.loop-place-init
loop-place-init c =
    let size : length c.args.self.now.words ≡ 4 = search rules in
    record { size = size; done = λ k none. absurd (omega (arith, none)); left = λ k _. refl }

pub loop-place-preserved : goal.loop-place-preserved
loop-place-preserved c = merging_more _ _ _ _ (omega arith) c.loop-place.invariant

pub returns-clause-kept : goal.returns-clause-kept
returns-clause-kept c = λ n is.
    let size : length c.args.others.now.words ≡ 4 = search rules in
    let e = bit_merged c.args.self.now c.args.others.now c.loop-place.self (merged _ _ _ _ (omega arith) size c.loop-place.invariant) n in
    let small : bit_of c.args.others.now n < 2 = bit_at-lt _ _ in
    omega (arith, e, is, small)

pub returns-clause-there : goal.returns-clause-there
returns-clause-there c = λ n is.
    let size : length c.args.others.now.words ≡ 4 = search rules in
    let e = bit_merged c.args.self.now c.args.others.now c.loop-place.self (merged _ _ _ _ (omega arith) size c.loop-place.invariant) n in
    let small : bit_of c.args.self.now n < 2 = bit_at-lt _ _ in
    omega (arith, e, is, small)

pub returns-clause-only : goal.returns-clause-only
returns-clause-only c = λ n is.
    let size : length c.args.others.now.words ≡ 4 = search rules in
    let e = bit_merged c.args.self.now c.args.others.now c.loop-place.self (merged _ _ _ _ (omega arith) size c.loop-place.invariant) n in
    merged_only _ _ _ (bit_at-lt _ _) (bit_at-lt _ _) e is
