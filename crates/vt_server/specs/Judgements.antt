-- Right judgements of pools during an input: the verdict on an upload, and whether an object is shown. A step is a function of the
-- input and these judgements (docs/PROFILE.md, "End of Object Pool (12)", "Shown and enabled").
use Rattle.std.specs.Prelude.{◌≡◌, ℕ, Bool, true, false, List, [], ◌∷◌, Option, Some, IfSome, Decides}
use Rattle.std.specs.List.{AllZip}
use Rattle.vt_can.specs.declared.frames.frame.Frame.{Frame}
use Rattle.vt_can.specs.frames.Frame.{source_of}
use Rattle.vt_can.specs.lines.Actions.{action_value}
use Rattle.vt_names.specs.Registry.{Set}
use Rattle.vt_machine.specs.SetStates.{active_in}
use Rattle.vt_shown.specs.ShownElements.{IsShown}
use Rattle.vt_node.specs.Bus.{meaning_of}
use Rattle.vt_server.specs.message.MessageEffects.{ends_pool}
use Rattle.vt_server.specs.frame.TimeoutActs.{at_time, lapsed}
use Rattle.vt_server.specs.operator.ActionEffects.{object_acted_on}
use Rattle.vt_server.specs.state.AddressViews.{AddressView}
use Rattle.vt_server.specs.frame.SessionEffects.{came}
use Rattle.vt_server.specs.Steps.{JudgedInput, FrameAt, ActionAt, step}
use Rattle.vt_server.specs.Terminals.{State, part, pool_at}
use Rattle.vt_server.specs.message.Verdicts.{Verdict, IsVerdict}
use Rattle.vt_node.specs.declared.bus.FrameMeaning.{FrameMeaning}
use Rattle.vt_server.specs.declared.input.Input.{Input}
use Rattle.vt_server.specs.declared.input.Input.TheVariants as inputs

-- whether a message ends the upload of a set
abbrev pub ends_transfer : Option Set → Option (List ℕ) → Bool
ends_transfer (Some set) (Some bytes) = ends_pool bytes
ends_transfer _ _ = false

-- If a frame ends an upload, the verdict on it is right.
abbrev pub IsJudged : ℕ → ℕ → AddressView → FrameMeaning → Frame → Verdict → Type 0
IsJudged now address p meaning frame verdict =
    ends_transfer p.set (came now p.terminal address p.place meaning frame).message ≡ true → IsVerdict p.place.content verdict

-- whether the object of an action is shown in the shown set
abbrev pub IsSeen : State → Option ℕ → Bool → Type 0
IsSeen s object shown =
    IfSome object (λ id. IfSome (pool_at s s.shown) (λ state. Decides shown (IsShown state.objects (active_in state.objects) id)))

-- The judgements of an input are right: those of a frame in the state after the timeouts and closings of its time.
abbrev pub IsJudgedRight : State → JudgedInput → Type 0
IsJudgedRight s (FrameAt time frame verdict) =
    s.lost ≡ false
    → IsJudged (lapsed (at_time s time)).now (source_of frame) (part (source_of frame) (lapsed (at_time s time)))
    (meaning_of s.claims.own s.claims.name frame) frame verdict
IsJudgedRight s (ActionAt action shown) = s.lost ≡ false → IsSeen s (object_acted_on action) shown

abbrev pub AreJudgedRight : State → List JudgedInput → Type 0
AreJudgedRight s [] = Unit {0}
AreJudgedRight s (e ∷ events) = IsJudgedRight s e × AreJudgedRight (step s e).after events

-- ---- inputs with their judgements

abbrev pub IsEventOf : Input → JudgedInput → Type 0
IsEventOf (inputs.Frame time frame) (FrameAt at heard verdict) = (at ≡ time) × (heard ≡ frame)
IsEventOf (inputs.Operator action) (ActionAt value shown) = value ≡ action_value action
IsEventOf _ _ = ⊥

abbrev pub AreEventsOf : List Input → List JudgedInput → Type 0
AreEventsOf inputs events = AllZip IsEventOf inputs events
