use Rattle.std.proofs.Common.{◌≡◌, ◌∷◌, [], ap}
use Rattle.std.proofs.KnownBytes.{Keeps-refl}
use Rattle.std.proofs.lemmas.Result.{on_err_weaker, on_ok_weaker}
use Rattle.vt_can.specs.lines.Readings.{reading_of}
use Rattle.vt_logs.specs.Progress.{replay_point, ReplayPoint}
use Rattle.vt_logs.specs.declared.progress.Progress.{Progress}
use Rattle.vt_server.specs.States.{state_of}
use Rattle.vt_logs.proofs.TakenLines.{takes_one}
use Rattle.vt_logs.proofs.EarlyEndInLines.{on_any_err, stops_none, stops_one}
use Rattle.vt_logs.proofs.progress.Progress.take_line.Goals as goal
use Rattle.vt_logs.proofs.progress.Progress.take_line.Goals.{in-Err, in_default}

pub returns-clause-takes : goal.returns-clause-takes
returns-clause-takes g c =
    let from : ReplayPoint = replay_point c.args.terminal.now c.args.self.now.screen.items c.args.self.now.counts (g.W.Write.contents c.args.writer.now) in
    let to : ReplayPoint = replay_point c.take_reading.new.terminal c.take_reading.new.self.screen.items c.take_reading.new.self.counts (g.W.Write.contents c.take_reading.new.writer) in
    let screen : c.match-reading.self.screen.items ≡ c.args.self.now.screen.items = elim c.match-reading.branch [
      | in-Err w ↦ ap (λ (p : Progress). p.screen.items) w.self-is
      | in_default w ↦ ap (λ (p : Progress). p.screen.items) w.self-is
    ] in
    let counts : c.match-reading.self.counts ≡ c.args.self.now.counts = elim c.match-reading.branch [
      | in-Err w ↦ ap (λ (p : Progress). p.counts) w.self-is
      | in_default w ↦ ap (λ (p : Progress). p.counts) w.self-is
    ] in
    on_ok_weaker c.take_reading.result
    (takes_one from to c.args.line.now (reading_of c.in_ok-reading.reading) c.in_ok-reading.ensures c.requires.short)
    (rw (screen, counts) at c.take_reading.ensures.takes)

pub returns-clause-stopped : goal.returns-clause-stopped
returns-clause-stopped g c =
    let from : ReplayPoint = replay_point c.args.terminal.now c.args.self.now.screen.items c.args.self.now.counts (g.W.Write.contents c.args.writer.now) in
    let screen : c.match-reading.self.screen.items ≡ c.args.self.now.screen.items = elim c.match-reading.branch [
      | in-Err w ↦ ap (λ (p : Progress). p.screen.items) w.self-is
      | in_default w ↦ ap (λ (p : Progress). p.screen.items) w.self-is
    ] in
    let counts : c.match-reading.self.counts ≡ c.args.self.now.counts = elim c.match-reading.branch [
      | in-Err w ↦ ap (λ (p : Progress). p.counts) w.self-is
      | in_default w ↦ ap (λ (p : Progress). p.counts) w.self-is
    ] in
    on_err_weaker c.take_reading.result
    (stops_one from (state_of c.take_reading.new.terminal) c.args.line.now (reading_of c.in_ok-reading.reading) (g.W.Write.contents c.take_reading.new.writer) c.in_ok-reading.ensures c.requires.short)
    (rw (screen, counts) at c.take_reading.ensures.stopped)

pub returns-in_err-reading-clause-stopped : goal.returns-in_err-reading-clause-stopped
returns-in_err-reading-clause-stopped g c =
    let held = g.W.Write.contents c.args.writer.now in
    on_any_err c.from_residual.result
    (stops_none (replay_point c.args.terminal.now c.args.self.now.screen.items c.args.self.now.counts held) (c.args.line.now ∷ []) held (Keeps-refl held))
