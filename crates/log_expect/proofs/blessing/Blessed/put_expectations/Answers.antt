use Rattle.log_expect.proofs.KeptLines.{none-added, one-added}
use Rattle.log_expect.proofs.blessing.Blessed.put_expectations.Goals as goal

pub loop-line-init : goal.loop-line-init
loop-line-init c = none-added c.args.self.now.text.items

pub loop-line-preserved : goal.loop-line-preserved
loop-line-preserved c =
    one-added c.args.self.now.text.items c.loop-line.self.text.items c.put_line.new.self.text.items c.loop-line.rest.now c.in-Some.line.now c.in-Some.after.now c.loop-line.invariant c.in-Some.ensures.lines c.in_ok-put_line.ensures

pub returns : goal.returns
returns c = λ kept keeps. c.loop-line.invariant.keeps kept keeps
