use Rattle.std.proofs.Common.{◌≡◌, ◌∙◌, ℕ, List, ◌++◌, map, Some, refl, sym, ap, subst}
use Rattle.std.proofs.lemmas.Result.{err_from_is_err_and}
use Rattle.log_expect.proofs.LinesToCome.{IsUnderWay, line_difference, line_difference-other, line_difference-expectation, way-begun, way-end, way-few, way-long, way-step}
use Rattle.log_expect.specs.Differences.{DiffersAt, difference_at, difference_seen}
use Rattle.log_expect.specs.declared.difference.LineDifference.{LineDifference}
use Rattle.log_expect.specs.Expectations.{expected_by}
use Rattle.vt_logs.specs.Lines.{lines_of}
use Rattle.vt_logs.specs.Progress.{ReplayPoint, replay_point}
use Rattle.vt_server.specs.States.{state_of}
use Rattle.log_expect.proofs.comparison.differences.Goals as goal

pub loop-line-init : goal.loop-line-init
loop-line-init c =
    let start = state_of c.args.terminal.now in
    let first : map difference_seen c.compare.new.differences.items ≡ difference_at 0 (expected_by (lines_of c.args.log.now)) c.begin.new.self.screen.items =
    c.in_ok-compare.ensures
    ∙ ap (λ (items : List LineDifference). map difference_seen items ++ difference_at 0 (expected_by (lines_of c.args.log.now)) c.deref.result.now) c.new-differences.ensures.items
    ∙ ap (λ (text : List ℕ). difference_at 0 (expected_by (lines_of c.args.log.now)) text) (c.deref.ensures.value ∙ c.in_ok-begin.ensures.text ∙ ap (λ (text : List ℕ). text ++ c.begin.new.self.screen.items) c.new-printed.ensures.items) in
    record {
      way = way-begun start c.args.log.now c.begin.new.self.screen.items (map difference_seen c.compare.new.differences.items) c.begin.new.self.counts (c.begin.ensures.counts ∙ c.new-progress.ensures.counts) c.in_ok-begin.ensures.drawn first;
      whole = ap (λ pending. pending.items) c.begin.ensures.pending ∙ c.new-progress.ensures.pending;
    }

pub end_line-requires : goal.end_line-requires
end_line-requires c = record {
  drawn = c.loop-line.invariant.way.drawn;
  few = way-few _ _ _ _ _ _ c.loop-line.invariant.way c.requires.few;
}

pub loop-line-preserved-in_ok-compare-2 : goal.loop-line-preserved-in_ok-compare-2
loop-line-preserved-in_ok-compare-2 c =
    let from : ReplayPoint = replay_point c.loop-line.terminal c.loop-line.progress.screen.items c.loop-line.progress.counts (Some c.clear.new.self.items) in
    let to : ReplayPoint = replay_point c.end_line.new.terminal c.end_line.new.self.screen.items c.end_line.new.self.counts (Some c.end_line.new.writer.items) in
    let start = state_of c.args.terminal.now in
    let found : List DiffersAt = map difference_seen c.loop-line.differences.items in
    let n = c.end_line.new.self.counts.lines in
    let line = c.in-Some.line.now in
    let after = c.in-Some.after.now in
    let printed = c.end_line.new.writer.items in
    let way = way-step start c.args.log.now found from to c.loop-line.progress.pending.items c.loop-line.rest.now line after printed c.loop-line.invariant.way c.in-Some.ensures.lines c.in-Some.ensures.shorter
    c.loop-line.invariant.whole c.in_ok-end_line.ensures.takes (ap Some c.clear.ensures.items) refl in
    let compared : found ++ line_difference n line after printed ≡ map difference_seen c.compare-then-not-is_expectation.new.differences.items =
    line_difference-other found n line after printed (sym c.is_expectation.ensures ∙ c.if-not-is_expectation.true)
    ∙ ap (λ (text : List ℕ). found ++ difference_at n (expected_by (lines_of after)) text) (sym c.deref-then-not-is_expectation.ensures.value)
    ∙ sym c.in_ok-compare-2.ensures in
    record {
      way = subst (λ (differences : List DiffersAt). IsUnderWay start c.args.log.now differences to.scene to.counts after) compared way;
      whole = c.in_ok-end_line.ensures.empty;
    }

pub loop-line-preserved : goal.loop-line-preserved
loop-line-preserved c =
    let from : ReplayPoint = replay_point c.loop-line.terminal c.loop-line.progress.screen.items c.loop-line.progress.counts (Some c.clear.new.self.items) in
    let to : ReplayPoint = replay_point c.end_line.new.terminal c.end_line.new.self.screen.items c.end_line.new.self.counts (Some c.end_line.new.writer.items) in
    let start = state_of c.args.terminal.now in
    let found : List DiffersAt = map difference_seen c.loop-line.differences.items in
    let line = c.in-Some.line.now in
    let after = c.in-Some.after.now in
    let printed = c.end_line.new.writer.items in
    let way = way-step start c.args.log.now found from to c.loop-line.progress.pending.items c.loop-line.rest.now line after printed c.loop-line.invariant.way c.in-Some.ensures.lines c.in-Some.ensures.shorter
    c.loop-line.invariant.whole c.in_ok-end_line.ensures.takes (ap Some c.clear.ensures.items) refl in
    let same = line_difference-expectation found c.end_line.new.self.counts.lines line after printed (sym c.is_expectation.ensures ∙ c.if-not-is_expectation.false) in
    record {
      way = subst (λ (differences : List DiffersAt). IsUnderWay start c.args.log.now differences to.scene to.counts after) same way;
      whole = c.in_ok-end_line.ensures.empty;
    }

pub returns-clause-differences : goal.returns-clause-differences
returns-clause-differences c =
    way-end (state_of c.args.terminal.now) c.args.log.now (map difference_seen c.loop-line.differences.items) (record { state = state_of c.loop-line.terminal; screen = c.loop-line.progress.screen.items }) c.loop-line.progress.counts c.loop-line.rest.now c.loop-line.invariant.way
    c.in_default.ensures.lines

pub returns-in_err-end_line-clause-too_long : goal.returns-in_err-end_line-clause-too_long
returns-in_err-end_line-clause-too_long c =
    let p = err_from_is_err_and c.from_residual-in_err-end_line.result c.from_residual-in_err-end_line.ensures.1 in
    λ e. way-long (state_of c.args.terminal.now) c.args.log.now (map difference_seen c.loop-line.differences.items) (record { state = state_of c.loop-line.terminal; screen = c.loop-line.progress.screen.items }) c.loop-line.progress.counts c.loop-line.progress.pending.items c.loop-line.rest.now c.in-Some.line.now c.in-Some.after.now
    c.loop-line.invariant.way c.in-Some.ensures.lines c.loop-line.invariant.whole (c.in_err-end_line.ensures.too_long (let same = p.1 in let is = p.2 in cc))
