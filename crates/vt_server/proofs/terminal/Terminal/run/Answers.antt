use Rattle.std.proofs.Common.{sym, subst, ◌∙◌, arith}
use Rattle.vt_server.specs.shown.Screens.{IsScreenOf}
use Rattle.vt_server.specs.States.{state_of}
use Rattle.vt_server.specs.Terminals.{State}
use Rattle.vt_server.proofs.lemmas.steps.RunsOfInputs.{run-more, lost-stays, first-alone}
use Rattle.vt_server.proofs.terminal.Terminal.run.Goals as goal
use Rattle.vt_effects.proofs.lemmas.objects.EntryChanges.{either_false}

pub loop-at-preserved : goal.loop-at-preserved
loop-at-preserved c = record {
  taken = run-more (state_of c.args.self.now) (state_of c.loop-at.self) (state_of c.step.new.self) c.args.inputs.now c.loop-at.at c.index-inputs-at.result
      c.args.outputs.now.items c.loop-at.outputs.items c.step.new.outputs.items c.loop-at-test.true c.index-inputs-at.is c.loop-at.invariant.taken c.in-Ok.ensures.ok;
  lost = λ lost. lost-stays (state_of c.loop-at.self) (state_of c.step.new.self) c.index-inputs-at.result c.loop-at.outputs.items c.step.new.outputs.items (c.loop-at.invariant.lost lost) c.in-Ok.ensures.ok;
  kept = λ none text is.
      let unset = either_false c.loop-at.redraws c.step.new.self.redraws none in
      c.in-Ok.ensures.same unset.1 text (c.loop-at.invariant.kept unset.0 text is);
  first = λ zero. absurd (omega (arith, zero));
}

pub returns-clause-same : goal.returns-clause-same
returns-clause-same c none = c.loop-at.invariant.kept (either_false c.loop-at.self.redraws c.loop-at.redraws none).1

pub returns-in-Err-clause-same : goal.returns-in-Err-clause-same
returns-in-Err-clause-same c none text is =
    subst (λ (s : State). IsScreenOf s text) (sym c.in-Err.ensures.err)
    (c.loop-at.invariant.kept (either_false c.step.new.self.redraws c.loop-at.redraws none).1 text is)

pub returns-in-Err-clause-err_redraws : goal.returns-in-Err-clause-err_redraws
returns-in-Err-clause-err_redraws c zero =
    let first = c.loop-at.invariant.first zero in
    first-alone c.step.new.self.redraws c.loop-at.redraws first.1 ∙ c.in-Err.ensures.err_redraws ∙ first.0
