-- A step is a function of its input alone: all right judgements of pools give the same step.
use Rattle.std.specs.Prelude.{◌≡◌, List}
use Rattle.vt_server.specs.Judgements.{IsEventOf, IsJudgedRight}
use Rattle.vt_server.specs.States.{TakesInput, TakesInputs}
use Rattle.vt_server.specs.Steps.{JudgedInput, step}
use Rattle.vt_server.specs.Terminals.{State}
use Rattle.vt_server.specs.declared.input.Input.{Input}
use Rattle.vt_server.specs.declared.output.Output.{Output}

-- Two events of an input with right judgements have the same step. A terminal therefore reaches one state and sends the same
-- outputs after one input, and after a list of inputs.
pub record StepsAreOne : Type 0 where
  pub events : (s : State) (input : Input) (e f : JudgedInput) → IsEventOf input e → IsEventOf input f → IsJudgedRight s e → IsJudgedRight s f → step s e ≡ step s f
  pub input : (old : State) (input : Input) (new other : State) (before after later : List Output) → TakesInput old input new before after
      → TakesInput old input other before later → (new ≡ other) × (after ≡ later)
  pub inputs : (old : State) (inputs : List Input) (new other : State) (before after later : List Output) → TakesInputs old inputs new before after
      → TakesInputs old inputs other before later → (new ≡ other) × (after ≡ later)
