use Rattle.std.proofs.Common.{◌≡◌, [], arith, length}
use Rattle.log_trace.proofs.ScreenLines.{all_placed, gains_place}
use Rattle.log_trace.proofs.changes.last_places.Goals as goal

pub loop-place-preserved : goal.loop-place-preserved
loop-place-preserved c =
    gains_place c.args.lines.now c.loop-place.place (record { ref_ptr = (0, 0); now = [] }) c.loop-place.last c.insert.new.self c.loop-place-test.true c.loop-place.invariant
    c.in_ok-insert.ensures.updates.0

pub returns : goal.returns
returns c =
    let end : c.loop-place.place ≡ length c.args.lines.now = grind (arith, c.loop-place-test.false, c.loop-place.auto.place-end) in
    all_placed c.args.lines.now c.loop-place.place c.loop-place.last end c.loop-place.invariant
