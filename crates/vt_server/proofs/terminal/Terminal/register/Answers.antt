use Rattle.std.proofs.Common.{◌∙◌}
use Rattle.vt_server.specs.States.{state_of}
use Rattle.vt_server.specs.Terminals.{holder}
use Rattle.vt_server.proofs.lemmas.frame.FrameStep.{master-state}
use Rattle.vt_server.proofs.lemmas.timeouts.FirstSilentSet.{registry-state}
use Rattle.vt_server.proofs.terminal.Terminal.register.Goals as goal

pub returns-clause-state : goal.returns-clause-state
returns-clause-state c =
    let s = state_of c.args.self.now in
    registry-state c.args.self.now c.master-refused.new.self c.master-refused.ensures.watch
    ∙ master-state s c.args.source c.args.count c.holder.result (holder s c.args.source) c.master-refused.new.self.sets c.holder.ensures
    (c.master-refused.ensures.sets (c.master-refused.ensures.capacity c.requires.capacity))
