use Rattle.std.proofs.Common.{◌++◌, ap, subst, ◌∙◌}
use Rattle.vt_server.specs.frame.FrameContracts.{FitsAfterTimeouts}
use Rattle.vt_server.specs.Outputs.{outputs_of}
use Rattle.vt_server.specs.States.{state_of}
use Rattle.vt_server.specs.Steps.{losing}
use Rattle.vt_server.specs.Terminals.{State}
use Rattle.vt_server.specs.declared.frame.step.PreparedFrame.{PreparedFrame}
use Rattle.vt_server.proofs.lemmas.frame.FrameStep.{hears-loss, hears-claim, hears-other, claim-takes}
use Rattle.vt_server.proofs.lemmas.shown.SameScreen.{claimed-left, left-same, shows-then}
use Rattle.vt_server.proofs.terminal.Terminal.finish.Goals as goal

pub take-requires-clause-no_claim : goal.take-requires-clause-no_claim
take-requires-clause-no_claim c =
    let it = subst (λ (r : PreparedFrame). FitsAfterTimeouts c.requires.ready.0 c.args.self.now c.args.meaning.now c.args.frame.now r) c.in-Prepared.is c.requires.ready.1 in it.1

pub take-requires-clause-reserved : goal.take-requires-clause-reserved
take-requires-clause-reserved c =
    let it = subst (λ (r : PreparedFrame). FitsAfterTimeouts c.requires.ready.0 c.args.self.now c.args.meaning.now c.args.frame.now r) c.in-Prepared.is c.requires.ready.1 in record {
      tp = it.2.tp;
      etp = it.2.etp;
      sets = it.2.sets;
    }

pub take-requires-clause-upload : goal.take-requires-clause-upload
take-requires-clause-upload c =
    let it = subst (λ (r : PreparedFrame). FitsAfterTimeouts c.requires.ready.0 c.args.self.now c.args.meaning.now c.args.frame.now r) c.in-Prepared.is c.requires.ready.1 in it.3

pub returns-in-Loses-clause-hears : goal.returns-in-Loses-clause-hears
returns-in-Loses-clause-hears c old s display ready =
    let n = c.args.meaning.now in
    let frame = c.args.frame.now in
    let it = subst (λ (r : PreparedFrame). FitsAfterTimeouts s c.args.self.now n frame r) c.in-Loses.is ready in
    hears-loss old s n frame (state_of c.lose.new.self) c.args.outputs.now.items c.lose.new.outputs.items it.1
    (c.lose.ensures.state ∙ ap (λ (x : State). (losing x).after) it.0)
    (c.lose.ensures.sent ∙ ap (λ (x : State). c.args.outputs.now.items ++ outputs_of (losing x).sent) it.0)

pub returns-in-Claimed-clause-hears : goal.returns-in-Claimed-clause-hears
returns-in-Claimed-clause-hears c old s display ready =
    let n = c.args.meaning.now in
    let frame = c.args.frame.now in
    let t = c.args.self.now in
    let u = c.take_claim.new.self in
    let it = subst (λ (r : PreparedFrame). FitsAfterTimeouts s t n frame r) c.in-Claimed.is ready in
    hears-claim old s n frame it.0 (state_of u) (state_of c.update_shown.new.self) c.args.outputs.now.items c.take_claim.new.outputs.items c.update_shown.new.outputs.items it.1 it.2
    (claim-takes old s n frame (state_of t) (state_of u) c.source.result it.0 c.in-Claimed.former c.args.outputs.now.items c.take_claim.new.outputs.items
    c.take_claim.ensures.takes c.source.ensures it.1 it.3 it.4 it.5)
    c.update_shown.ensures.state (c.update_shown.ensures.sent old display)

pub returns-in-Prepared-clause-hears : goal.returns-in-Prepared-clause-hears
returns-in-Prepared-clause-hears c old s display ready =
    let n = c.args.meaning.now in
    let frame = c.args.frame.now in
    let it = subst (λ (r : PreparedFrame). FitsAfterTimeouts s c.args.self.now n frame r) c.in-Prepared.is ready in
    hears-other old s n frame (state_of c.args.self.now) (state_of c.take.new.self) (state_of c.update_shown-in-Prepared.new.self) c.args.outputs.now.items c.take.new.outputs.items c.update_shown-in-Prepared.new.outputs.items
    it.1 it.0 c.take.ensures.takes c.update_shown-in-Prepared.ensures.state (c.update_shown-in-Prepared.ensures.sent old display)

pub returns-in-Claimed-clause-tells : goal.returns-in-Claimed-clause-tells
returns-in-Claimed-clause-tells c none =
    let s = c.requires.ready.0 in
    let n = c.args.meaning.now in
    let frame = c.args.frame.now in
    let t = c.args.self.now in
    let u = c.take_claim.new.self in
    let it = subst (λ (r : PreparedFrame). FitsAfterTimeouts s t n frame r) c.in-Claimed.is c.requires.ready.1 in
    let took = claim-takes s s n frame (state_of t) (state_of u) c.source.result it.0 c.in-Claimed.former c.args.outputs.now.items c.take_claim.new.outputs.items
    c.take_claim.ensures.takes c.source.ensures it.1 it.3 it.4 it.5 in
    claimed-left s (state_of t) (state_of u) (state_of c.update_shown.new.self) frame n it.0 it.5 took.0 (c.update_shown.ensures.tells none).1

pub returns-in-Prepared-clause-tells : goal.returns-in-Prepared-clause-tells
returns-in-Prepared-clause-tells c none =
    let updates = c.update_shown-in-Prepared.ensures.tells none in
    let takes = c.take.ensures.tells updates.0 in
    left-same (state_of c.args.self.now) (state_of c.update_shown-in-Prepared.new.self)
    (shows-then (state_of c.args.self.now) (state_of c.take.new.self) (state_of c.update_shown-in-Prepared.new.self) takes.1 updates.1)
