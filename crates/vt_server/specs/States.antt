-- The state of a terminal, and the contracts of its calls.
use Rattle.std.specs.Prelude.{◌≡◌, ℕ, Option, List, ◌++◌}
use Rattle.std.specs.FinMap as finite
use Rattle.vt_server.specs.Judgements.{IsEventOf, AreEventsOf, IsJudgedRight, AreJudgedRight}
use Rattle.vt_node.specs.Nodes.{NodeState}
use Rattle.vt_server.specs.Outputs.{outputs_of}
use Rattle.vt_server.specs.state.AddressStates.{SetPool, AddressState}
use Rattle.vt_server.specs.Steps.{JudgedInput, step, after_all, sent_by_all}
use Rattle.vt_server.specs.Terminals.{State}
use Rattle.vt_server.specs.state.PoolTables.{content_of}
use Rattle.vt_node.specs.Watches.{heard_of}
use Rattle.vt_server.specs.declared.input.Input.{Input}
use Rattle.vt_server.specs.declared.output.Output.{Output}
use Rattle.vt_server.specs.declared.terminal.Terminal.{Terminal}

-- the state of each address
abbrev pub places_by : (ℕ → SetPool) → NodeState → (ℕ → Option ℕ) → ℕ → AddressState
places_by contents node heard address = record {
  content = contents address;
  tp = finite.get node.tp address;
  etp = finite.get node.etp address;
  sending = finite.get node.sending address;
  heard = heard address;
}

abbrev pub state_of : Terminal → State
state_of t = record {
  claims = t.node.claims;
  profile = t.profile;
  sets = t.registry.sets;
  places = places_by (content_of t.contents) t.node (heard_of t.registry.watch);
  selected = t.selected;
  shown = t.shown;
  lost = t.lost;
  now = t.time;
}

-- ---- inputs

-- A terminal handles an input: its judgements of pools are right, it makes the step of the input, and it appends the outputs of
-- the step.
pub record TakesInput (old : State) (input : Input) (new : State) (before after : List Output) : Type 0 where
  pub event : JudgedInput
  pub is_input : IsEventOf input event
  pub judged : IsJudgedRight old event
  pub state : new ≡ (step old event).after
  pub sent : after ≡ before ++ outputs_of (step old event).sent

-- A terminal handles inputs in order: each with right judgements, its step and its outputs.
pub record TakesInputs (old : State) (inputs : List Input) (new : State) (before after : List Output) : Type 0 where
  pub events : List JudgedInput
  pub are_inputs : AreEventsOf inputs events
  pub judged : AreJudgedRight old events
  pub state : new ≡ after_all old events
  pub sent : after ≡ before ++ outputs_of (sent_by_all old events)
