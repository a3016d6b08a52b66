use Rattle.std.proofs.Common.{rules, ◌≡◌, [], length, MatchOption, subst}
use Rattle.log_stats.specs.Seconds.{IsFirstMost}
use Rattle.log_stats.proofs.BusiestSecond.{most_more, told_busiest, told_all}
use Rattle.log_stats.proofs.busy_seconds.BusySeconds.busiest.Goals as goal

pub loop-second-preserved : goal.loop-second-preserved
loop-second-preserved c = (
  c.loop-second.invariant.0,
  most_more c.deref-second-items.result.now c.loop-second.second-index c.loop-second.busiest c.busier.result _ c.loop-second-test.true
      c.loop-second.invariant.1 c.busier.ensures,
)

pub returns-clause-busiest : goal.returns-clause-busiest
returns-clause-busiest c frames latest counted =
    let end : c.loop-second.second-index ≡ length c.deref-second-items.result.now = search rules in
    told_busiest frames latest c.args.self.now.seconds.items c.loop-second.busiest counted
    (subst (λ all. MatchOption c.loop-second.busiest (all ≡ []) (IsFirstMost all)) c.loop-second.invariant.0
    (told_all c.deref-second-items.result.now c.loop-second.second-index c.loop-second.busiest end c.loop-second.invariant.1))
