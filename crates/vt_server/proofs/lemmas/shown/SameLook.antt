-- Commands and actions that keep the look of a pool.
use Rattle.std.proofs.Common.{◌≡◌, ℕ, Bool, true, false, cond, List, [], ◌∷◌, Option, Some, None, Result, Ok, Err, refl, sym, ap, subst, ◌∙◌}
use Rattle.std.specs.Option.{option_map}
use Rattle.std.specs.FinMap as finite
use Rattle.vt_can.specs.lines.Actions.{Press, Release}
use Rattle.vt_commands.specs.declared.command.Command.{Command}
use Rattle.vt_commands.specs.declared.event.Event.TheVariants as events
use Rattle.vt_commands.specs.declared.raising.Raised.{Raised}
use Rattle.vt_commands.specs.Events.{raise}
use Rattle.vt_stores.specs.Stores.{ObjectMap}
use Rattle.vt_effects.specs.Effects.{effect}
use Rattle.vt_effects.specs.Looks.{look, HaveSameLook}
use Rattle.vt_effects.specs.Soundness.{shape_in}
use Rattle.vt_macros.specs.Machines.{End, store_of, events_of, total_budget}
use Rattle.vt_macros.specs.QuietMacros.{KeepsLook, RunsKeepLook}
use Rattle.vt_machine.specs.declared.live.HeldKey.{HeldKey}
use Rattle.vt_machine.specs.declared.operator.Acted.{Acted}
use Rattle.vt_machine.specs.declared.operator.OperatorRefusal.{OperatorRefusal}
use Rattle.vt_machine.specs.declared.operator.OperatorRefusal.TheVariants as refusals
use Rattle.vt_machine.specs.SetStates.{SetState, active_in}
use Rattle.vt_machine.specs.OperatorActions.{ActionResult, Refused, Acts, ComesTo, holding, held, press, press_with, key_message, or_none, release, release_of}
use Rattle.vt_server.specs.message.CommandEffects.{after_done, content_after, deletes, objects_after, state_after}
use Rattle.vt_server.specs.operator.ActionContracts.{ActionKeepsLook, Comes}
use Rattle.vt_server.specs.shown.Screens.{KeepsPoolLook}
use Rattle.vt_server.specs.state.AddressStates.{SetPool, no_content}
use Rattle.vt_server.proofs.lemmas.shown.SameScreen.{looks-some}

-- ---- commands

objects-look : (old : ObjectMap) (command : Command) → KeepsLook old command → HaveSameLook old (objects_after command old)
objects-look old command keeps = by (effect old command) refl
  where
    by : (result : Result ObjectMap ℕ) → effect old command ≡ result → HaveSameLook old (after_done old (events_of old command) result)
    by (Ok middle) done = keeps middle done
    by (Err bits) refused = λ id. refl

pub command-look : (command : Command) (content : SetPool) (state : SetState) → content.pool ≡ Some state → deletes command ≡ false → KeepsLook state.objects command
    → KeepsPoolLook content.pool (content_after command content).pool
command-look command content state at stays keeps =
    subst (λ (b : Bool). KeepsPoolLook content.pool (cond b no_content (record content { pool = option_map (state_after command) content.pool })).pool) (sym stays)
    (subst (λ (pool : Option SetState). KeepsPoolLook pool (option_map (state_after command) pool)) (sym at)
    (looks-some state (state_after command state) (objects-look state.objects command keeps)))

-- ---- actions

refused-look : (old new : SetState) (refusal : OperatorRefusal) (result : Result Acted OperatorRefusal) → ComesTo old (Refused refusal) result new
    → HaveSameLook old.objects new.objects
refused-look old new refusal (Ok acted) comes = absurd comes
refused-look old new refusal (Err answered) comes = λ id. ap (λ (s : SetState). option_map look (finite.get s.objects id)) comes.1

acts-look : (old start new : SetState) (message : List ℕ) (raised : List Raised) (result : Result Acted OperatorRefusal) → RunsKeepLook start.objects raised
    → ComesTo old (Acts message start raised) result new → HaveSameLook start.objects new.objects
acts-look old start new message raised (Err answered) keeps comes = absurd comes
acts-look old start new message raised (Ok acted) keeps comes =
    λ id.
    ap (λ (e : End). option_map look (finite.get (store_of e) id)) (sym comes.1.has_run.ended)
    ∙ keeps (total_budget (shape_in start.objects) raised) id

press-look : (old new : SetState) (mask id : ℕ) (shown : Bool) (result : Result Acted OperatorRefusal) → RunsKeepLook old.objects (raise id events.KeyPress ∷ [])
    → ComesTo old (press shown old mask id) result new → HaveSameLook old.objects new.objects
press-look old new mask id false result keeps comes = refused-look old new refusals.NotShown result comes
press-look old new mask id true result keeps comes = by (key_message 1 id mask (finite.get old.objects id)) old.key comes
  where
    by : (message : Option (List ℕ)) (key : Option HeldKey) → ComesTo old (press_with old mask id message key) result new → HaveSameLook old.objects new.objects
    by None key comes = refused-look old new refusals.WrongKind result comes
    by (Some message) (Some key) comes = refused-look old new refusals.Held result comes
    by (Some message) None comes = acts-look old (holding old (Some (held id mask))) new message (raise id events.KeyPress ∷ []) result keeps comes

release-look : (old new : SetState) (id : ℕ) (result : Result Acted OperatorRefusal) → RunsKeepLook old.objects (raise id events.KeyRelease ∷ [])
    → ComesTo old (release old id) result new → HaveSameLook old.objects new.objects
release-look old new id result keeps comes = by old.key comes
  where
    same : (key : HeldKey) (b : Bool)
        → ComesTo old (cond b (Acts (or_none (key_message 0 id key.mask (finite.get old.objects id))) (holding old None) (raise id events.KeyRelease ∷ []))
        (Refused refusals.NotPressed)) result new
        → HaveSameLook old.objects new.objects
    same key true comes = acts-look old (holding old None) new _ (raise id events.KeyRelease ∷ []) result keeps comes
    same key false comes = refused-look old new refusals.NotPressed result comes

    by : (key : Option HeldKey) → ComesTo old (release_of old id key) result new → HaveSameLook old.objects new.objects
    by None comes = refused-look old new refusals.NotPressed result comes
    by (Some key) comes = same key _ comes

came-look : (old new : SetState) (action : ActionResult) (result : Option (Result Acted OperatorRefusal))
    → ((result : Result Acted OperatorRefusal) → ComesTo old action result new → HaveSameLook old.objects new.objects)
    → Comes old (Some action) result new → HaveSameLook old.objects new.objects
came-look old new action None of comes = absurd comes
came-look old new action (Some result) of comes = of result comes

pub press-keeps : (old : SetState) (id : ℕ) → RunsKeepLook old.objects (raise id events.KeyPress ∷ []) → ActionKeepsLook (Some old) (Press id)
press-keeps old id keeps result None performs = absurd performs
press-keeps old id keeps result (Some new) performs =
    looks-some old new
    (came-look old new (press performs.shown old (active_in old.objects) id) result
    (λ result comes. press-look old new (active_in old.objects) id performs.shown result keeps comes) performs.comes)

pub release-keeps : (old : SetState) (id : ℕ) → RunsKeepLook old.objects (raise id events.KeyRelease ∷ []) → ActionKeepsLook (Some old) (Release id)
release-keeps old id keeps result None performs = absurd performs
release-keeps old id keeps result (Some new) performs =
    looks-some old new (came-look old new (release old id) result (λ result comes. release-look old new id result keeps comes) performs.comes)
