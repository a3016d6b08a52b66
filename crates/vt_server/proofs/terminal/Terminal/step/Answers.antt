use Rattle.std.proofs.Common.{sym, subst}
use Rattle.std.specs.Prelude.{OnOk}
use Rattle.vt_server.specs.declared.input.Input.{Input}
use Rattle.vt_server.specs.message.UploadEnds.{TellsEndAfter, upload_end}
use Rattle.vt_server.specs.States.{state_of}
use Rattle.vt_server.proofs.terminal.Terminal.step.Goals as goal

pub returns-in-Frame-clause-told : goal.returns-in-Frame-clause-told
returns-in-Frame-clause-told c =
    subst (λ (input : Input). OnOk c.step_frame.result (TellsEndAfter (state_of c.args.self.now) input (upload_end c.step_frame.new.self)))
    (sym c.in-Frame.is) c.step_frame.ensures.told
