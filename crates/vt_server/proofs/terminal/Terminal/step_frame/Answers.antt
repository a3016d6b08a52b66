use Rattle.std.proofs.Common.{◌≡◌, ◌++◌, Option, sym, ap, subst, true≢false, ◌∙◌}
use Rattle.vt_names.specs.Claims.{Claimed}
use Rattle.vt_can.specs.frames.Frame.{source_of}
use Rattle.vt_node.specs.Bus.{meaning_of}
use Rattle.vt_server.specs.frame.TimeoutActs.{at_time, lapsed}
use Rattle.vt_server.specs.Outputs.{outputs_of}
use Rattle.vt_server.specs.message.UploadEnds.{TellsEndIn}
use Rattle.vt_server.specs.declared.upload_end.UploadEnd.{UploadEnd}
use Rattle.vt_server.proofs.lemmas.frame.UploadEnds.{end-told}
use Rattle.vt_server.proofs.lemmas.steps.StepInvariants.{claims-lapsed}
use Rattle.vt_server.specs.States.{state_of}
use Rattle.vt_server.proofs.lemmas.frame.FrameStep.{takes-line, takes-lost}
use Rattle.vt_server.proofs.lemmas.frame.PreparationAfterTimeouts.{ready-then, prepared-display, prepared-sent}
use Rattle.vt_server.proofs.lemmas.shown.ShownSetHasPool.{ShownHasPool, hearing-pooled}
use Rattle.vt_server.proofs.lemmas.shown.SameScreen.{line-kept, prepared-shows}
use Rattle.vt_server.proofs.terminal.Terminal.step_frame.Goals as goal

pub returns-then-self-clause-ok : goal.returns-then-self-clause-ok
returns-then-self-clause-ok c = takes-lost (state_of c.args.self.now) c.args.time c.args.frame.now c.args.outputs.now.items c.if-self.true

pub finish-requires-clause-ready : goal.finish-requires-clause-ready
finish-requires-clause-ready c =
    let s = state_of c.args.self.now in
    let n = c.meaning_of-meaning.result in (
      lapsed (at_time s c.args.time),
      ready-then s c.prepare.new.self c.args.time c.max-now.result n c.args.frame.now c.max-now.ensures c.lapse.new.self c.lapse.ensures.state c.lapse.ensures.lapsed
          c.in_ok-ready.ready c.in_ok-ready.ensures.ok,
    )

pub returns-clause-ok : goal.returns-clause-ok
returns-clause-ok c =
    let s = state_of c.args.self.now in
    let t = c.prepare.new.self in
    let n = c.meaning_of-meaning.result in
    let frame = c.args.frame.now in
    let ready = c.in_ok-ready.ready in
    let prepared = c.in_ok-ready.ensures.ok in
    let before = c.args.outputs.now.items in
    let now = c.max-now.result in
    takes-line s c.args.time frame n (state_of c.finish.new.self) before c.lapse.new.outputs.items c.finish.new.outputs.items c.if-self.false
    (c.meaning_of-meaning.ensures ∙ (λ i. meaning_of (c.own.ensures i) (c.name.ensures i) frame))
    (c.lapse.ensures.sent ∙ (λ i. c.reserve.ensures.items i ++ outputs_of (prepared-sent s t c.args.time now n frame c.max-now.ensures ready prepared i)))
    (c.finish.ensures.hears s (lapsed (at_time s c.args.time)) (c.display-before.ensures ∙ prepared-display s t c.args.time now n frame c.max-now.ensures ready prepared)
    (ready-then s t c.args.time now n frame c.max-now.ensures c.lapse.new.self c.lapse.ensures.state c.lapse.ensures.lapsed ready prepared))

pub returns-clause-same : goal.returns-clause-same
returns-clause-same c none =
    let s = state_of c.args.self.now in
    let t = c.prepare.new.self in
    let v = c.finish.new.self in
    let n = c.meaning_of-meaning.result in
    let frame = c.args.frame.now in
    let ready = c.in_ok-ready.ready in
    let prepared = c.in_ok-ready.ensures.ok in
    let now = c.max-now.result in
    let lapsed-is = lapsed (at_time s c.args.time) in
    let heard = c.finish.ensures.hears s lapsed-is (c.display-before.ensures ∙ prepared-display s t c.args.time now n frame c.max-now.ensures ready prepared)
    (ready-then s t c.args.time now n frame c.max-now.ensures c.lapse.new.self c.lapse.ensures.state c.lapse.ensures.lapsed ready prepared) in
    line-kept s (state_of t) (state_of c.lapse.new.self) (state_of v) now (prepared-shows s t now n frame ready prepared)
    c.lapse.ensures.state (c.finish.ensures.tells none)
    (subst ShownHasPool (sym heard.state) (hearing-pooled s lapsed-is (source_of frame) n frame heard.verdict))

pub returns-then-self-clause-told : goal.returns-then-self-clause-told
returns-then-self-clause-told c kept = absurd (true≢false (sym c.if-self.true ∙ kept))

pub returns-clause-told : goal.returns-clause-told
returns-clause-told c kept =
    let s = state_of c.args.self.now in
    let t = c.prepare.new.self in
    let n = c.meaning_of-meaning.result in
    let frame = c.args.frame.now in
    let ready = c.in_ok-ready.ready in
    let then = lapsed (at_time s c.args.time) in
    let meaning : n ≡ meaning_of then.claims.own then.claims.name frame =
    (c.meaning_of-meaning.ensures ∙ (λ i. meaning_of (c.own.ensures i) (c.name.ensures i) frame))
    ∙ sym (ap (λ (k : Claimed). meaning_of k.own k.name frame) (claims-lapsed (at_time s c.args.time))) in
    let told = end-told then c.lapse.new.self n frame meaning ready
    (ready-then s t c.args.time c.max-now.result n frame c.max-now.ensures c.lapse.new.self c.lapse.ensures.state c.lapse.ensures.lapsed ready c.in_ok-ready.ensures.ok) in
    subst (λ (end : Option UploadEnd). TellsEndIn then frame end) (sym c.end_of-end.ensures) told
