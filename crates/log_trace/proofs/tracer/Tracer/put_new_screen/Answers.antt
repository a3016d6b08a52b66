use Rattle.log_trace.specs.Traces.{screen_in}
use Rattle.log_trace.proofs.OneDifference.{gains_no_change}
use Rattle.log_trace.proofs.tracer.Tracer.put_new_screen.Goals as goal

pub returns-then-not-redraws-clause-changes : goal.returns-then-not-redraws-clause-changes
returns-then-not-redraws-clause-changes c = gains_no_change c.args.text.now.items (screen_in c.args.self.now)

pub returns-then-eq-clause-changes : goal.returns-then-eq-clause-changes
returns-then-eq-clause-changes c = gains_no_change c.args.text.now.items (screen_in c.args.self.now)
