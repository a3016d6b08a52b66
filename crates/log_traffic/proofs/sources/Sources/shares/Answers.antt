use Rattle.std.proofs.Common.{rules, ap, ◌∙◌, arith}
use Rattle.log_traffic.proofs.Senders.{shares_more, shares_all}
use Rattle.log_traffic.proofs.sources.Sources.shares.Goals as goal
use Rattle.log_traffic.proofs.sources.Sources.shares.Goals.{else-loop-source-test, then-loop-source-test+in_ok-put_share+else-source-lt255}

pub loop-source-preserved : goal.loop-source-preserved
loop-source-preserved c =
    search (rules, shares_more c.args.microseconds c.args.self.now.counts c.loop-source.source)

pub returns : goal.returns
returns c = elim c.loop-source-test.branch [
  | else-loop-source-test w ↦ absurd (omega (arith, w.loop-source-test.false, c.loop-source.auto.source-end))
  | then-loop-source-test+in_ok-put_share+else-source-lt255 w ↦ record {
    shares = ap (λ shares. shares.items) w.shares-is
        ∙ shares_all c.args.microseconds c.args.self.now.counts c.loop-source.source c.loop-source.shares.items w.put_share.new.shares.items
        c.loop-source.invariant (search rules) (search rules);
  }
]
