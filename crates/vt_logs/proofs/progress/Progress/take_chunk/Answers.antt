use Rattle.std.proofs.Common.{◌<◌, ◌++◌, ◌∷◌, [], length, refl, sym}
use Rattle.std.proofs.lemmas.List.{append-nil}
use Rattle.std.proofs.KnownBytes.{Keeps-refl}
use Rattle.std.proofs.lemmas.Result.{err_from_is_err_and, IfErr-at_err}
use Rattle.vt_logs.specs.Progress.{replay_point, ReplayPoint}
use Rattle.vt_logs.proofs.ReplayInvariants.{midway_drawn, midway_few, midway_line}
use Rattle.vt_server.specs.States.{state_of}
use Rattle.vt_logs.proofs.LongLines.{midway_long}
use Rattle.vt_logs.proofs.EarlyEndInLines.{on_any_err, midway_stops, midway_stop}
use Rattle.vt_logs.proofs.progress.Progress.take_chunk.Goals as goal

pub end_line-requires : goal.end_line-requires
end_line-requires g c =
    let from : ReplayPoint = replay_point c.args.terminal.now c.args.self.now.screen.items c.args.self.now.counts (g.W.Write.contents c.args.writer.now) in
    let now : ReplayPoint = replay_point c.loop-line.terminal c.loop-line.self.screen.items c.loop-line.self.counts (g.W.Write.contents c.loop-line.writer) in
    record {
      drawn = midway_drawn from now c.args.self.now.pending.items c.args.chunk.now c.loop-line.self.pending.items c.loop-line.rest.now c.loop-line.invariant c.requires.drawn;
      few = midway_few from now c.args.self.now.pending.items c.args.chunk.now c.loop-line.self.pending.items c.loop-line.rest.now c.loop-line.invariant c.requires.few c.requires.short;
    }

pub loop-line-preserved : goal.loop-line-preserved
loop-line-preserved g c =
    let from : ReplayPoint = replay_point c.args.terminal.now c.args.self.now.screen.items c.args.self.now.counts (g.W.Write.contents c.args.writer.now) in
    let now : ReplayPoint = replay_point c.loop-line.terminal c.loop-line.self.screen.items c.loop-line.self.counts (g.W.Write.contents c.loop-line.writer) in
    let to : ReplayPoint = replay_point c.end_line.new.terminal c.end_line.new.self.screen.items c.end_line.new.self.counts (g.W.Write.contents c.end_line.new.writer) in
    midway_line from now to c.args.self.now.pending.items c.args.chunk.now c.loop-line.self.pending.items c.loop-line.rest.now c.in-Some.line.now c.in-Some.after.now c.end_line.new.self.pending.items
    c.loop-line.invariant c.in-Some.ensures.0 c.in-Some.ensures.1 c.in_ok-end_line.ensures.takes c.in_ok-end_line.ensures.empty

pub returns-in_err-end_line-clause-too_long : goal.returns-in_err-end_line-clause-too_long
returns-in_err-end_line-clause-too_long g c =
    let from : ReplayPoint = replay_point c.args.terminal.now c.args.self.now.screen.items c.args.self.now.counts (g.W.Write.contents c.args.writer.now) in
    let now : ReplayPoint = replay_point c.loop-line.terminal c.loop-line.self.screen.items c.loop-line.self.counts (g.W.Write.contents c.loop-line.writer) in
    let p = err_from_is_err_and c.from_residual.result c.from_residual.ensures.1 in
    λ e. let stay = c.in_err-end_line.ensures.stay (let same = p.1 in let is = p.2 in cc) in
    midway_long from now (state_of c.end_line.new.terminal) (g.W.Write.contents c.end_line.new.writer) c.args.self.now.pending.items c.args.chunk.now c.loop-line.self.pending.items c.loop-line.rest.now
    c.in-Some.line.now (10 ∷ c.in-Some.after.now) c.loop-line.invariant c.in-Some.ensures.1 c.in-Some.ensures.0 (c.in_err-end_line.ensures.too_long (let same = p.1 in let is = p.2 in cc)) stay.0 stay.1

pub returns-clause-too_long : goal.returns-clause-too_long
returns-clause-too_long g c =
    let from : ReplayPoint = replay_point c.args.terminal.now c.args.self.now.screen.items c.args.self.now.counts (g.W.Write.contents c.args.writer.now) in
    let now : ReplayPoint = replay_point c.loop-line.terminal c.loop-line.self.screen.items c.loop-line.self.counts (g.W.Write.contents c.loop-line.writer) in
    λ e. midway_long from now now.scene.state now.held c.args.self.now.pending.items c.args.chunk.now c.loop-line.self.pending.items c.loop-line.rest.now c.loop-line.rest.now [] c.loop-line.invariant
    (sym (append-nil c.loop-line.rest.now)) c.in_default.ensures (IfErr-at_err (λ _. 4096 < length (c.loop-line.self.pending.items ++ c.loop-line.rest.now)) e c.keep.ensures.too_long) refl refl

pub returns-in_err-end_line-clause-stopped : goal.returns-in_err-end_line-clause-stopped
returns-in_err-end_line-clause-stopped g c =
    let from : ReplayPoint = replay_point c.args.terminal.now c.args.self.now.screen.items c.args.self.now.counts (g.W.Write.contents c.args.writer.now) in
    let now : ReplayPoint = replay_point c.loop-line.terminal c.loop-line.self.screen.items c.loop-line.self.counts (g.W.Write.contents c.loop-line.writer) in
    let to = state_of c.end_line.new.terminal in
    on_any_err c.from_residual.result
    (midway_stops from now to (g.W.Write.contents c.end_line.new.writer) c.args.self.now.pending.items c.args.chunk.now c.loop-line.self.pending.items c.loop-line.rest.now c.in-Some.line.now c.in-Some.after.now c.loop-line.invariant
    c.in-Some.ensures.0 c.in-Some.ensures.1 c.in_err-end_line.ensures.stopped)

pub returns-clause-stopped : goal.returns-clause-stopped
returns-clause-stopped g c =
    let from : ReplayPoint = replay_point c.args.terminal.now c.args.self.now.screen.items c.args.self.now.counts (g.W.Write.contents c.args.writer.now) in
    let now : ReplayPoint = replay_point c.loop-line.terminal c.loop-line.self.screen.items c.loop-line.self.counts (g.W.Write.contents c.loop-line.writer) in
    on_any_err c.keep.result
    (midway_stop from now now.held c.args.self.now.pending.items c.args.chunk.now c.loop-line.self.pending.items c.loop-line.rest.now c.loop-line.invariant (Keeps-refl now.held))
