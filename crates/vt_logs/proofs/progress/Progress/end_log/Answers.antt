use Rattle.std.proofs.Common.{List, ℕ, subst}
use Rattle.std.specs.Prelude.{OnOk, OnErr}
use Rattle.vt_server.specs.States.{state_of}
use Rattle.vt_logs.specs.EarlyEnds.{Stops}
use Rattle.vt_logs.specs.Progress.{replay_point, ReplayPoint, Takes}
use Rattle.vt_logs.proofs.ReplayInvariants.{last_line}
use Rattle.vt_logs.proofs.progress.Progress.end_log.Goals as goal
use Rattle.vt_server.specs.Terminals.{State}

pub returns-clause-takes : goal.returns-clause-takes
returns-clause-takes g c =
    let from : ReplayPoint = replay_point c.args.terminal.now c.args.self.now.screen.items c.args.self.now.counts (g.W.Write.contents c.args.writer.now) in
    let to : ReplayPoint = replay_point c.end_line.new.terminal c.end_line.new.self.screen.items c.end_line.new.self.counts (g.W.Write.contents c.end_line.new.writer) in
    subst (λ (ls : List (List ℕ)). OnOk c.end_line.result (Takes from ls to)) (last_line c.args.self.now.pending.items c.requires.whole c.if-is_empty.ensures) c.end_line.ensures.takes

pub returns-clause-stopped : goal.returns-clause-stopped
returns-clause-stopped g c =
    let from : ReplayPoint = replay_point c.args.terminal.now c.args.self.now.screen.items c.args.self.now.counts (g.W.Write.contents c.args.writer.now) in
    let to : State = state_of c.end_line.new.terminal in
    subst (λ (ls : List (List ℕ)). OnErr c.end_line.result (Stops from ls to (g.W.Write.contents c.end_line.new.writer)))
    (last_line c.args.self.now.pending.items c.requires.whole c.if-is_empty.ensures) c.end_line.ensures.stopped
