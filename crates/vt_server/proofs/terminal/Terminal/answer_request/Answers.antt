use Rattle.std.proofs.Common.{◌≡◌, [], ◌∷◌, ◌++◌, sym, ap, subst, ◌∙◌}
use Rattle.vt_can.specs.declared.frames.frame.Frame.{Frame}
use Rattle.vt_can.specs.frames.Frame.{source_of}
use Rattle.vt_server.specs.frame.FrameContracts.{TakesFrame}
use Rattle.vt_server.specs.Outputs.{outputs_of}
use Rattle.vt_server.specs.state.AddressStates.{heard_at}
use Rattle.vt_server.specs.States.{state_of}
use Rattle.vt_server.specs.Steps.{defence}
use Rattle.vt_server.specs.Terminals.{State, part}
use Rattle.vt_server.specs.message.Verdicts.{IsVerdict}
use Rattle.vt_node.specs.declared.bus.FrameMeaning.TheVariants as meanings
use Rattle.vt_server.specs.declared.output.Output.TheVariants as declared
use Rattle.vt_server.proofs.lemmas.frame.FrameEffect.{any_verdict, with_place_at, takes-echo, takes-heard}
use Rattle.vt_server.proofs.lemmas.frame.FrameStep.{none-ends, takes-nothing, request-unclaimed, heard-state}
use Rattle.vt_server.proofs.lemmas.frame.NoRefusalByFrame.{accepted}
use Rattle.vt_server.proofs.terminal.Terminal.answer_request.Goals as goal

pub returns-then-source-own-clause-takes : goal.returns-then-source-own-clause-takes
returns-then-source-own-clause-takes c =
    let s = state_of c.args.self.now in
    let frame = c.args.frame.now in
    let a = source_of frame in
    takes-echo s frame meanings.ClaimRequest request-unclaimed any_verdict c.args.outputs.now.items c.send.new.outputs.items
    (sym c.source-source.ensures ∙ c.if-source-own.true ∙ c.own.ensures)
    (λ ends. none-ends (part a s).set ends (IsVerdict (s.places a).content any_verdict))
    (c.send.ensures.items ∙ ap (λ (f : Frame). c.args.outputs.now.items ++ declared.Frame f ∷ []) c.claim.ensures)

pub returns-clause-takes : goal.returns-clause-takes
returns-clause-takes c =
    let t = c.args.self.now in
    let s = state_of t in
    let frame = c.args.frame.now in
    let a = source_of frame in
    let heard : State = with_place_at a (heard_at s.now (s.places a)) s in
    let before = c.args.outputs.now.items in
    let after = c.send.new.outputs.items in
    let sent : after ≡ before ++ outputs_of (defence s a meanings.ClaimRequest) =
    c.send.ensures.items ∙ ap (λ (f : Frame). before ++ declared.Frame f ∷ []) c.claim.ensures in
    subst (λ (x : State). TakesFrame s meanings.ClaimRequest frame x before after)
    (sym (heard-state t c.note_frame.new.self c.source-source.result a c.source-source.ensures c.note_frame.ensures.sets c.note_frame.ensures.heard))
    (takes-heard s frame meanings.ClaimRequest request-unclaimed heard before after after
    (λ e. c.if-source-own.false (c.source-source.ensures ∙ e ∙ sym c.own.ensures)) sent
    (takes-nothing heard meanings.ClaimRequest frame after tt) (accepted s.now a meanings.ClaimRequest frame request-unclaimed))
