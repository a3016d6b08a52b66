-- The code's operator actions: their refusals, messages and changes (docs/PROFILE.md, "The operator").
use Rattle.std.specs.Prelude.{◌≡◌, ◌≤◌, ◌++◌, ℕ, List, length, Bool, Option, Some, None, IfSome, Result, Decides}
use Rattle.vt_can.specs.lines.Actions as actions
use Rattle.vt_can.specs.lines.Actions.{ActionValue}
use Rattle.vt_server.specs.Judgements.{IsSeen}
use Rattle.vt_server.specs.Outputs.{outputs_of}
use Rattle.vt_server.specs.state.AddressViews.{Act, Operates}
use Rattle.vt_server.specs.Steps.{at_shown, selecting, no_set, has_no_set}
use Rattle.vt_server.specs.declared.output.Output.{Output}
use Rattle.vt_machine.specs.declared.operator.Acted.{Acted}
use Rattle.vt_machine.specs.declared.operator.OperatorRefusal.{OperatorRefusal}
use Rattle.vt_machine.specs.SetStates.{SetState}
use Rattle.vt_machine.specs.OperatorEntries.{enter_text}
use Rattle.vt_machine.specs.OperatorActions.{ActionResult, ComesTo, WouldRefuse}
use Rattle.vt_server.specs.state.AddressStates.{SetPool}
use Rattle.vt_server.specs.Terminals.{State, after_acts, sent_by_acts}
use Rattle.vt_server.specs.shown.Screens.{KeepsPoolLook}
use Rattle.vt_node.specs.AddressFunctions.{with_at}
use Rattle.vt_shown.specs.ShownElements.{IsShown}
use Rattle.vt_machine.specs.SetStates.{active_in}
use Rattle.vt_server.specs.operator.ActionEffects.{action_on, object_acted_on}

-- whether the object of an action is shown
abbrev pub IsSeenIn : SetState → Option ℕ → Bool → Type 0
IsSeenIn state object shown = IfSome object (λ id. Decides shown (IsShown state.objects (active_in state.objects) id))

abbrev pub Comes : SetState → Option ActionResult → Option (Result Acted OperatorRefusal) → SetState → Type 0
Comes old (Some action) (Some result) new = ComesTo old action result new
Comes old None None new = new ≡ old
Comes old _ _ new = ⊥

pub record Performs (old : SetState) (action : ActionValue) (result : Option (Result Acted OperatorRefusal)) (new : SetState) : Type 0 where
  pub shown : Bool
  pub seen : IsSeenIn old (object_acted_on action) shown
  pub comes : Comes old (action_on old shown action) result new

-- An action on the set at an address, if it has a pool. The pools of other addresses and all uploads are unchanged.
abbrev pub PerformsAt : Option SetState → ActionValue → Option (Result Acted OperatorRefusal) → Option SetState → Type 0
PerformsAt (Some old) action result (Some new) = Performs old action result new
PerformsAt None action result None = result ≡ None
PerformsAt _ action result _ = ⊥

pub record IsActedOn (old : ℕ → SetPool) (address : ℕ) (action : ActionValue) (result : Option (Result Acted OperatorRefusal)) (new : ℕ → SetPool) : Type 0 where
  pub pool : Option SetState
  pub performs : PerformsAt (old address).pool action result pool
  pub content : new ≡ with_at address (record (old address) { pool = pool }) old

-- An action on a set keeps the look of its pool, however it ends.
abbrev pub ActionKeepsLook : Option SetState → ActionValue → Type 0
ActionKeepsLook old action = (result : Option (Result Acted OperatorRefusal)) (new : Option SetState) → PerformsAt old action result new → KeepsPoolLook old new

-- the refusal of a text by the pool of a set, if it would be refused
abbrev pub WouldBeRefused : Option SetState → ℕ → List ℕ → Option OperatorRefusal → Type 0
WouldBeRefused None id text result = result ≡ None
WouldBeRefused (Some state) id text result = WouldRefuse state id (λ shown mask. enter_text shown state id text) result

-- a text of at most four bytes, or another action
abbrev pub IsShort : ActionValue → Type 0
IsShort (actions.Text id text) = length text ≤ 4
IsShort (actions.Set address) = ⊥
IsShort action = Unit {0}

-- ---- the action in the step, before the shown set is chosen

-- the act of an action: it happens at the address of the shown set
abbrev pub happens : State → ActionValue → Bool → List (ℕ × Act)
happens s action shown = at_shown s.shown (Operates action shown)

pub record TakesAction (s : State) (action : ActionValue) (t : State) (before after : List Output) : Type 0 where
  pub shown : Bool
  pub seen : IsSeen s (object_acted_on action) shown
  pub state : t ≡ after_acts (selecting s action) (happens s action shown)
  pub sent : after ≡ before ++ outputs_of (no_set (has_no_set s action) ++ sent_by_acts (selecting s action) (happens s action shown))
