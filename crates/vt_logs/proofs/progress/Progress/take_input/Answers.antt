use Rattle.std.proofs.Common.{◌≡◌, ◌∙◌, Bool, [], if◌then◌else◌, sym, ap, subst}
use Rattle.std.specs.Io.KnownBytes.{Appends}
use Rattle.std.proofs.KnownBytes.{Appends-nil}
use Rattle.vt_logs.specs.Progress.{scene}
use Rattle.vt_logs.specs.LineEffects.{ReplayState}
use Rattle.vt_logs.specs.Texts.{new_screen}
use Rattle.vt_logs.proofs.EarlyEndInLines.{on_any_err}
use Rattle.vt_logs.proofs.InputOfLine.{input_prints, input_refused, input_taken, input_unprinted, sent_begun, shown_begun}
use Rattle.vt_server.specs.States.{state_of}
use Rattle.vt_logs.proofs.progress.Progress.take_input.Goals as goal

pub draw-requires : goal.draw-requires
draw-requires g c = record { kept = λ none. c.in_ok-step.ensures.same none c.args.self.now.screen.items c.requires.drawn }

pub returns-in_err-step-clause-stopped : goal.returns-in_err-step-clause-stopped
returns-in_err-step-clause-stopped g c =
    let held = g.W.Write.contents in
    on_any_err c.from_residual.result
    (input_refused (scene c.args.terminal.now c.args.self.now.screen.items) (state_of c.step.new.self) c.args.input.now (held c.args.writer.now) c.in_err-step.ensures.err)

pub returns-in_err-is_new-clause-stopped : goal.returns-in_err-is_new-clause-stopped
returns-in_err-is_new-clause-stopped g c =
    let held = g.W.Write.contents in
    on_any_err c.from_residual-in_err-is_new.result
    (input_unprinted (scene c.args.terminal.now c.args.self.now.screen.items) (state_of c.step.new.self) c.args.input.now c.clear.new.self.items c.step.new.outputs.items
    (held c.args.writer.now) c.in_ok-step.ensures.ok)

pub returns-in_err-put_outputs-clause-stopped : goal.returns-in_err-put_outputs-clause-stopped
returns-in_err-put_outputs-clause-stopped g c =
    let held = g.W.Write.contents in
    let from : ReplayState = scene c.args.terminal.now c.args.self.now.screen.items in
    let to : ReplayState = scene c.step.new.self c.draw.new.self.screen.items in
    let prints = input_prints from to c.args.input.now c.clear.new.self.items c.step.new.outputs.items c.clear.ensures.items c.in_ok-step.ensures.ok c.in_ok-is_new.ensures.drawn in
    on_any_err c.from_residual-in_err-put_outputs.result
    (sent_begun from to c.args.input.now c.step.new.outputs.items (held c.args.writer.now) (held c.put_outputs.new.writer) prints
    (rw (c.deref-2.ensures.value, c.draw.ensures.outputs) at c.in_err-put_outputs.ensures.front))

pub returns-in_err-put-clause-stopped : goal.returns-in_err-put-clause-stopped
returns-in_err-put-clause-stopped g c =
    let held = g.W.Write.contents in
    let from : ReplayState = scene c.args.terminal.now c.args.self.now.screen.items in
    let to : ReplayState = scene c.step.new.self c.draw.new.self.screen.items in
    let prints = input_prints from to c.args.input.now c.clear.new.self.items c.step.new.outputs.items c.clear.ensures.items c.in_ok-step.ensures.ok c.in_ok-is_new.ensures.drawn in
    let printed : new_screen from.screen to.screen ≡ to.screen = c.in_ok-is_new.ensures.printed ∙ ap (λ (is_new : Bool). if is_new then to.screen else []) c.if-is_new.true in
    on_any_err c.from_residual-in_err-put.result
    (shown_begun from to c.args.input.now c.step.new.outputs.items (held c.args.writer.now) (held c.put_outputs.new.writer) (held c.put.new.writer) prints printed
    (rw (c.deref-2.ensures.value, c.draw.ensures.outputs) at c.in_ok-put_outputs.ensures.text) (rw c.deref-then-is_new.ensures.value at c.in_err-put.ensures.front))

pub returns-in_ok-put-clause-takes : goal.returns-in_ok-put-clause-takes
returns-in_ok-put-clause-takes g c =
    let held = g.W.Write.contents in
    let from : ReplayState = scene c.args.terminal.now c.args.self.now.screen.items in
    let to : ReplayState = scene c.step.new.self c.draw.new.self.screen.items in
    let prints = input_prints from to c.args.input.now c.clear.new.self.items c.step.new.outputs.items c.clear.ensures.items c.in_ok-step.ensures.ok c.in_ok-is_new.ensures.drawn in
    let printed : new_screen from.screen to.screen ≡ to.screen = c.in_ok-is_new.ensures.printed ∙ ap (λ (is_new : Bool). if is_new then to.screen else []) c.if-is_new.true in
    input_taken from to c.args.input.now c.step.new.outputs.items (held c.args.writer.now) (held c.put_outputs.new.writer) (held c.put.new.writer) prints
    (rw (c.deref-2.ensures.value, c.draw.ensures.outputs) at c.in_ok-put_outputs.ensures.text)
    (subst (Appends (held c.put_outputs.new.writer) (held c.put.new.writer)) (sym printed) (rw c.deref-then-is_new.ensures.value at c.in_ok-put.ensures.text))

pub returns-else-is_new-clause-takes : goal.returns-else-is_new-clause-takes
returns-else-is_new-clause-takes g c =
    let held = g.W.Write.contents in
    let from : ReplayState = scene c.args.terminal.now c.args.self.now.screen.items in
    let to : ReplayState = scene c.step.new.self c.draw.new.self.screen.items in
    let prints = input_prints from to c.args.input.now c.clear.new.self.items c.step.new.outputs.items c.clear.ensures.items c.in_ok-step.ensures.ok c.in_ok-is_new.ensures.drawn in
    let printed : new_screen from.screen to.screen ≡ [] = c.in_ok-is_new.ensures.printed ∙ ap (λ (is_new : Bool). if is_new then to.screen else []) c.if-is_new.false in
    let mid = held c.put_outputs.new.writer in
    input_taken from to c.args.input.now c.step.new.outputs.items (held c.args.writer.now) mid mid prints
    (rw (c.deref-2.ensures.value, c.draw.ensures.outputs) at c.in_ok-put_outputs.ensures.text)
    (subst (Appends mid mid) (sym printed) (Appends-nil mid))
