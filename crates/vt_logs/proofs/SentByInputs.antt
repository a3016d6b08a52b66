-- What the terminal sends at the input of a line.
use Rattle.std.proofs.Common.{◌≡◌, ◌∙◌, List, [], ◌++◌, ap}
use Rattle.vt_logs.specs.LineEffects.{IsInputOfLine, SendsByInput, input_line}
use Rattle.vt_server.specs.Judgements.{IsEventOf}
use Rattle.vt_server.specs.Outputs.{outputs_of}
use Rattle.vt_server.specs.States.{TakesInput}
use Rattle.vt_server.specs.Steps as steps
use Rattle.vt_server.specs.Steps.{JudgedInput, step}
use Rattle.vt_server.specs.Terminals.{State}
use Rattle.vt_server.specs.declared.input.Input.{Input}
use Rattle.vt_server.specs.declared.input.Input.TheVariants as inputs
use Rattle.vt_server.specs.declared.output.Output.{Output}

pub event_of_line : (input : Input) (event : JudgedInput) → IsEventOf input event → IsInputOfLine (input_line input) event
event_of_line (inputs.Frame time frame) (steps.FrameAt at heard verdict) is = is
event_of_line (inputs.Frame time frame) (steps.ActionAt action shown) is = absurd is
event_of_line (inputs.Operator action) (steps.FrameAt at heard verdict) is = absurd is
event_of_line (inputs.Operator action) (steps.ActionAt action_taken shown) is = is

-- The terminal took an input, with no outputs before.
pub input_sends : (from to : State) (input : Input) (before after : List Output) → before ≡ [] → TakesInput from input to before after → SendsByInput from (input_line input) to after
input_sends from to input before after none taken = record {
  event = taken.event;
  of_line = event_of_line input taken.event taken.is_input;
  judged = taken.judged;
  state = taken.state;
  outputs = taken.sent ∙ ap (λ (outputs : List Output). outputs ++ outputs_of (step from taken.event).sent) none;
}
