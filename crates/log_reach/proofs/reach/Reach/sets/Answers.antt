use Rattle.std.proofs.Common.{rules, ◌≡◌, map}
use Rattle.std.proofs.lemmas.List.{map_push}
use Rattle.std.proofs.lemmas.Map.Iter.{iter_end}
use Rattle.std.specs.Map.Iter.{deref_pair}
use Rattle.log_reach.proofs.Splits.{AllZip-joins}
use Rattle.log_reach.specs.Reports.{TellsOf}
use Rattle.log_reach.proofs.reach.Reach.sets.Goals as goal

pub loop-address-preserved : goal.loop-address-preserved
loop-address-preserved c =
    rw (c.in_ok-push.ensures.items, map_push deref_pair c.loop-address.yielded (c.in-Some.address, c.in-Some.set))
    (AllZip-joins (TellsOf c.args.self.now.shown_masks) (map deref_pair c.loop-address.yielded) _ (c.in-Some.address.now, c.in-Some.set.now) _ c.loop-address.invariant c.in_ok-of_set.ensures)

pub returns : goal.returns
returns c =
    let all : map deref_pair c.loop-address.yielded ≡ c.args.self.now.sets.sets.entries = search (rules, iter_end) in
    rw all at c.loop-address.invariant
