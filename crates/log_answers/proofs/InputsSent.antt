-- What this terminal sends at the input of a line.
use Rattle.std.proofs.Common.{◌≡◌, List, [], subst, sym}
use Rattle.vt_logs.proofs.SentByInputs.{input_sends}
use Rattle.vt_logs.specs.LineEffects.{SendsByInput, input_line}
use Rattle.vt_server.specs.States.{TakesInput}
use Rattle.vt_server.specs.Terminals.{State}
use Rattle.vt_server.specs.declared.input.Input.{Input}
use Rattle.vt_server.specs.declared.output.Output.{Output}

-- The outputs of an input, appended to none.
pub takes_and_sends : (old new : State) (input : Input) (before after sent : List Output) → TakesInput old input new before after → before ≡ [] → sent ≡ after
    → SendsByInput old (input_line input) new sent
takes_and_sends old new input before after sent takes none same =
    subst (λ (list : List Output). SendsByInput old (input_line input) new list) (sym same) (input_sends old new input before after none takes)
