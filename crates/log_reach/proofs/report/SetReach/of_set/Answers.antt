use Rattle.std.proofs.Common.{rules, refl, ◌≡◌, map}
use Rattle.std.proofs.lemmas.List.{map_push}
use Rattle.std.proofs.lemmas.Map.Iter.{iter_end}
use Rattle.std.specs.Map.Iter.{deref_pair}
use Rattle.log_reach.proofs.Splits.{split_more}
use Rattle.log_reach.proofs.report.SetReach.of_set.Goals as goal

pub loop-id-preserved : goal.loop-id-preserved
loop-id-preserved c =
    rw (map_push deref_pair c.loop-id.yielded (c.in-Some.id, c.in-Some.kind)) (
      split_more _ _ _ _ _ _ _ _ c.loop-id.invariant.0 (search rules) (search rules) c.in_ok-put.ensures.reached c.in_ok-put.ensures.never,
      split_more _ _ _ _ _ _ _ _ c.loop-id.invariant.1 (search rules) (search rules) c.in_ok-put-2.ensures.reached c.in_ok-put-2.ensures.never,
      split_more _ _ _ _ _ _ _ _ c.loop-id.invariant.2 (search rules) (search rules) c.in_ok-put-3.ensures.reached c.in_ok-put-3.ensures.never,
    )

pub returns : goal.returns
returns c =
    let all : map deref_pair c.loop-id.yielded ≡ c.args.set.now.kinds.entries = search (rules, iter_end) in
    let split = rw all at c.loop-id.invariant in
    record {
      address = refl;
      done = refl;
      refused = refl;
      masks_shown = split.0.reached;
      masks_never = split.0.never;
      objects_drawn = split.1.reached;
      objects_never = split.1.never;
      macros_reached = split.2.reached;
      macros_never = split.2.never;
    }
