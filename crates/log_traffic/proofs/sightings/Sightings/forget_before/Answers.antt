use Rattle.std.proofs.Common.{rules, ap, ◌≡◌, ◌≤◌, ◌⊎◌, inl, inr, ◌∷◌, length, arith}
use Rattle.log_traffic.specs.Sightings.{IsTooOld}
use Rattle.log_traffic.proofs.SeenBefore.{left_more}
use Rattle.log_traffic.proofs.sightings.Sightings.forget_before.Goals as goal
use Rattle.log_traffic.proofs.sightings.Sightings.forget_before.Goals.{else-is_recent-via-then-is_recent+else-len-le-MOST_BEFORE, else-is_recent-via-else-is_recent}

pub loop-oldest-preserved : goal.loop-oldest-preserved
loop-oldest-preserved c =
    let first : c.loop-oldest.self.recent.items ≡ c.in-Some.oldest.now ∷ c.pop_front-forgotten.new.self.items = search rules in
    let reason : IsTooOld c.args.time c.in-Some.oldest.now ⊎ (63 ≤ length c.pop_front-forgotten.new.self.items)
    = elim c.else-is_recent.branch [
      | else-is_recent-via-then-is_recent+else-len-le-MOST_BEFORE w ↦ inr (search (rules, ap length first))
      | else-is_recent-via-else-is_recent w ↦ inl (omega (arith, w.if-is_recent.false, c.saturating_sub-is_recent.ensures))
    ] in (
      left_more c.args.time c.args.self.now.recent.items c.loop-oldest.self.recent.items c.pop_front-forgotten.new.self.items c.in-Some.oldest.now
          c.loop-oldest.invariant.0 first reason,
      search rules,
    )
