use Rattle.std.proofs.Common.{◌++◌, ◌∷◌, []}
use Rattle.std.proofs.KnownBytes.{Keeps-refl}
use Rattle.vt_logs.specs.Progress.{replay_point}
use Rattle.vt_logs.proofs.EarlyEndInLines.{on_any_err, stops_none}
use Rattle.vt_logs.proofs.progress.Progress.end_line.Goals as goal

pub returns-in_err-keep-clause-stopped : goal.returns-in_err-keep-clause-stopped
returns-in_err-keep-clause-stopped g c =
    let held = g.W.Write.contents c.args.writer.now in
    on_any_err c.from_residual.result
    (stops_none (replay_point c.args.terminal.now c.args.self.now.screen.items c.args.self.now.counts held) ((c.args.self.now.pending.items ++ c.args.part.now) ∷ []) held (Keeps-refl held))

pub returns-then-part-gt-LONGEST-clause-stopped : goal.returns-then-part-gt-LONGEST-clause-stopped
returns-then-part-gt-LONGEST-clause-stopped g c =
    let held = g.W.Write.contents c.args.writer.now in
    stops_none (replay_point c.args.terminal.now c.args.self.now.screen.items c.args.self.now.counts held) ((c.args.self.now.pending.items ++ c.args.part.now) ∷ []) held (Keeps-refl held)
