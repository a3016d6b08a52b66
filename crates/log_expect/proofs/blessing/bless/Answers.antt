use Rattle.std.proofs.Common.{◌∙◌, sym, arith}
use Rattle.log_expect.proofs.KeptLines.{kept-begun, kept-end, kept-expectation, kept-other}
use Rattle.log_expect.proofs.TakenLine.{drawn-after, few-lines}
use Rattle.log_expect.proofs.blessing.bless.Goals as goal

pub loop-line-init : goal.loop-line-init
loop-line-init c = record {
  drawn = c.in_ok-begin.ensures.drawn;
  kept = kept-begun c.new.result.items c.put_expected.new.self.text.items c.args.log.now c.new.ensures.items c.in_ok-put_expected.ensures;
}

pub end_line-requires : goal.end_line-requires
end_line-requires c = record {
  drawn = c.loop-line.invariant.drawn;
  few = few-lines _ c.min.result c.new-then-not-is_expectation.ensures (omega (arith, c.min.ensures));
}

pub loop-line-preserved-in_ok-put_expected-2 : goal.loop-line-preserved-in_ok-put_expected-2
loop-line-preserved-in_ok-put_expected-2 c = record {
  drawn = drawn-after _ _ _ c.in_ok-end_line.ensures.takes c.loop-line.invariant.drawn;
  kept = kept-other c.loop-line.blessed.text.items c.args.log.now c.loop-line.rest.now c.in-Some.line.now c.in-Some.after.now c.put_line.new.self.text.items c.put_expected-then-not-is_expectation.new.self.text.items
      c.loop-line.invariant.kept c.in-Some.ensures.lines (sym c.is_expectation.ensures ∙ c.if-not-is_expectation.true) (rw c.count.ensures at c.in_ok-put_line.ensures) c.in_ok-put_expected-2.ensures;
}

pub loop-line-preserved : goal.loop-line-preserved
loop-line-preserved c = record {
  drawn = c.loop-line.invariant.drawn;
  kept = kept-expectation c.loop-line.blessed.text.items c.args.log.now c.loop-line.rest.now c.in-Some.line.now c.in-Some.after.now c.loop-line.invariant.kept c.in-Some.ensures.lines (sym c.is_expectation.ensures ∙ c.if-not-is_expectation.false);
}

pub returns : goal.returns
returns c = kept-end c.loop-line.blessed.text.items c.args.log.now c.loop-line.rest.now c.loop-line.invariant.kept c.in_default.ensures.lines
