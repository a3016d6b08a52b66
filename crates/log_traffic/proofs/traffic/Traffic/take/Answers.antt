use Rattle.std.proofs.Common.{rules, ◌≤◌}
use Rattle.log_traffic.specs.Traffics.{latest_of}
use Rattle.log_traffic.proofs.SeenBefore.{latest_before}
use Rattle.log_traffic.proofs.traffic.Traffic.take.Goals as goal

pub returns-clause-counted : goal.returns-clause-counted
returns-clause-counted c =
    let later : latest_of c.args.self.now ≤ c.with_frame_at-span.result.last_time
    = latest_before c.args.self.now.span c.with_frame_at-span.result.last_time c.with_frame_at-span.ensures.later in
    record {
      own = search rules;
      others = search rules;
      total = search rules;
      span = search rules;
      taken = search rules;
      transfers = search rules;
      seen = λ taken seen. c.in_ok-take.ensures.seen taken (latest_of c.args.self.now) later seen;
      twice = λ taken seen. c.in_ok-take.ensures.counted taken (latest_of c.args.self.now) later seen;
    }
