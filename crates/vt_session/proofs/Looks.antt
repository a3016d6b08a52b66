-- A frame from another node than that of the shown set leaves its picture, unless another set is shown.
use Rattle.std.proofs.Common.{◌≡◌, ◌≢◌, ℕ, true, List, [], ◌∷◌, Option, Some, None, is_some, refl, sym, ap, subst, ◌∙◌}
use Rattle.std.specs.Option.{option_map}
use Rattle.std.specs.Prelude.{IfSome, IsSomeAnd}
use Rattle.vt_can.specs.declared.frames.frame.Frame.{Frame as CanFrame}
use Rattle.vt_can.specs.frames.Frame.{source_of}
use Rattle.vt_machine.specs.SetStates.{SetState}
use Rattle.vt_stores.specs.Stores.{ObjectMap}
use Rattle.vt_server.specs.declared.input.Input.{Input}
use Rattle.vt_server.specs.declared.input.Input.TheVariants.{Frame, Operator}
use Rattle.vt_server.specs.declared.output.Output.{Output}
use Rattle.vt_server.specs.Judgements.{AreEventsOf}
use Rattle.vt_server.specs.message.Verdicts.{Verdict}
use Rattle.vt_server.specs.States.{TakesInputs}
use Rattle.vt_server.specs.Steps.{JudgedInput, FrameAt, ActionAt, after_all, step}
use Rattle.vt_server.specs.Terminals.{State, pool_at, pool_of}
use Rattle.vt_laws.specs.RunsOfSteps.{OthersKeepObjects, objects_in}
use Rattle.vt_laws.specs.Ticks.{ProfilesAreKept}
use Rattle.vt_session.specs.Inputs.{frame_of}
use Rattle.vt_session.specs.Looks.{IsUntouched, KeepsPicture, objects_shown}

-- ---- the objects of the shown set

same_objects : (old new : Option SetState) → is_some new ≡ true
    → IfSome new (λ state. IsSomeAnd (option_map (λ set. set.objects) old) (λ objects. state.objects ≡ objects))
    → option_map (λ set. set.objects) new ≡ option_map (λ set. set.objects) old
same_objects old None has law = absurd cc
same_objects None (Some new) has law = absurd law
same_objects (Some old) (Some new) has law = ap (λ (objects : ObjectMap). Some objects) law

shown_by : (old new : State) (was : Option ℕ) → old.shown ≡ was → new.shown ≡ was
    → IfSome was (λ address. is_some (pool_of new address) ≡ true)
    → IfSome was (λ address. IfSome (pool_of new address) (λ state. IsSomeAnd (objects_in old address) (λ objects. state.objects ≡ objects)))
    → objects_shown new ≡ objects_shown old
shown_by old new None before after has law =
    ap (λ (o : Option ℕ). option_map (λ (set : SetState). set.objects) (pool_at new o)) after
    ∙ sym (ap (λ (o : Option ℕ). option_map (λ (set : SetState). set.objects) (pool_at old o)) before)
shown_by old new (Some address) before after has law =
    ap (λ (o : Option ℕ). option_map (λ (set : SetState). set.objects) (pool_at new o)) after
    ∙ same_objects (pool_of old address) (pool_of new address) has law
    ∙ sym (ap (λ (o : Option ℕ). option_map (λ (set : SetState). set.objects) (pool_at old o)) before)

-- ---- a frame

others : (law : OthersKeepObjects) (old : State) (time : ℕ) (frame : CanFrame) (verdict : Verdict) (was : Option ℕ) (source : ℕ)
    → source_of frame ≡ source → (step old (FrameAt time frame verdict)).after.shown ≡ old.shown → IfSome was (λ address. address ≢ source)
    → IfSome was (λ address. IfSome (pool_of (step old (FrameAt time frame verdict)).after address)
    (λ state. IsSomeAnd (objects_in old address) (λ objects. state.objects ≡ objects)))
others law old time frame verdict None source from same other = tt
others law old time frame verdict (Some address) source from same other =
    law old time frame verdict address (λ (is : address ≡ source_of frame). other (is ∙ from)) same

stepped : OthersKeepObjects → ProfilesAreKept → (old new : State) (time : ℕ) (frame : CanFrame) (verdict : Verdict) (source : ℕ) → source_of frame ≡ source
    → new ≡ (step old (FrameAt time frame verdict)).after → IsUntouched old.shown new source → KeepsPicture old new
stepped law profiles old new time frame verdict source from is untouched =
    let after = (step old (FrameAt time frame verdict)).after in
    let shown : after.shown ≡ old.shown = ap (λ (s : State). s.shown) (sym is) ∙ untouched.shown in
    let has = subst (λ (s : State). IfSome old.shown (λ address. is_some (pool_of s address) ≡ true)) is untouched.pool in
    let kept : KeepsPicture old after = record {
      shown = shown;
      profile = profiles.steps old (FrameAt time frame verdict);
      objects = shown_by old after old.shown refl shown has (others law old time frame verdict old.shown source from shown untouched.other);
    } in
    subst (λ (s : State). KeepsPicture old s) (sym is) kept

-- the step of the only input
by_events : OthersKeepObjects → ProfilesAreKept → (old new : State) (time : ℕ) (frame : CanFrame) (source : ℕ) (events : List JudgedInput)
    → AreEventsOf (Frame time frame ∷ []) events → new ≡ after_all old events → source_of frame ≡ source → IsUntouched old.shown new source → KeepsPicture old new
by_events law profiles old new time frame source [] are is from untouched = absurd are
by_events law profiles old new time frame source (FrameAt at heard verdict ∷ []) are is from untouched =
    stepped law profiles old new at heard verdict source (ap source_of are.0.1 ∙ from) is untouched
by_events law profiles old new time frame source (ActionAt value shown ∷ []) are is from untouched = absurd are.0
by_events law profiles old new time frame source (e ∷ (other ∷ events)) are is from untouched = absurd are.1

pub picture_kept : OthersKeepObjects → ProfilesAreKept → (old new : State) (time : ℕ) (frame : CanFrame) (source : ℕ) (before after : List Output)
    → source_of frame ≡ source → TakesInputs old (Frame time frame ∷ []) new before after → IsUntouched old.shown new source → KeepsPicture old new
picture_kept law profiles old new time frame source before after from taken untouched =
    by_events law profiles old new time frame source taken.events taken.are_inputs taken.state from untouched

-- ---- what is noted

-- an input that was noted to leave the picture
pub by_note : OthersKeepObjects → ProfilesAreKept → (old new : State) (input : Input) (was source : Option ℕ) (before after : List Output)
    → was ≡ old.shown → source ≡ option_map source_of (frame_of input) → TakesInputs old (input ∷ []) new before after
    → IsSomeAnd source (λ s. IsUntouched was new s) → KeepsPicture old new
by_note law profiles old new input was None before after is from taken noted = absurd noted
by_note law profiles old new (Operator action) was (Some source) before after is from taken noted = absurd cc
by_note law profiles old new (Frame time frame) was (Some source) before after is from taken noted =
    let source_is : source_of frame ≡ source = cc in
    picture_kept law profiles old new time frame source before after source_is taken
    (subst (λ (shown : Option ℕ). IsUntouched shown new source) is noted)
