-- The runs of an act end in time on the pool accepted last at its address.
use Rattle.std.proofs.Common.{◌≡◌, ℕ, Bool, true, false, cond, eqb, List, [], ◌∷◌, Option, Some, None, Result, Ok, Err, refl, sym, ap, subst, ◌∙◌}
use Rattle.std.specs.List.{AllByRecursion}
use Rattle.vt_can.specs.declared.frames.frame.Frame.{Frame}
use Rattle.vt_can.specs.declared.transport.sessions.Timed.{Timed}
use Rattle.vt_can.specs.lines.Actions.{ActionValue}
use Rattle.vt_can.specs.transport.Messages.{Message}
use Rattle.vt_names.specs.Registry.{Set}
use Rattle.vt_commands.specs.declared.command.Command.{Command}
use Rattle.vt_commands.specs.Commands.{command_at}
use Rattle.vt_commands.specs.Events.{event_at}
use Rattle.vt_stores.specs.Stores.{ObjectMap}
use Rattle.vt_effects.specs.Effects.{effect}
use Rattle.vt_machine.specs.SetStates.{SetState, working_set_in}
use Rattle.vt_macros.specs.Machines.{events_of}
use Rattle.vt_machine.specs.OperatorActions as operating
use Rattle.vt_node.specs.AddressFunctions.{with_at}
use Rattle.vt_server.specs.Judgements.{ends_transfer}
use Rattle.vt_server.specs.message.MessageEffects.{END_OF_POOL}
use Rattle.vt_laws.specs.Headline.{Pools, Run, IsPoolInForce, EndsInTime, accepted_at, accepted_with, runs_of_effect, runs_of_command, runs_of_message, runs_of_action, runs_of_operator, runs_of_event, runs_at, named}
use Rattle.vt_server.specs.operator.ActionEffects.{action_on, is_busy}
use Rattle.vt_server.specs.state.AddressViews.{AddressView, Act, Hears, Rebinds, Preloads, TpExpires, EtpExpires, SendingExpires, FallsSilent, Operates, Raises}
use Rattle.vt_server.specs.frame.SessionEffects.{came}
use Rattle.vt_server.specs.message.Verdicts.{Verdict}
use Rattle.vt_node.specs.declared.bus.FrameMeaning.{FrameMeaning}
use Rattle.vt_node.proofs.ByAddress.{at-own, at-other}
use Rattle.vt_names.proofs.AddressesAfterClaim.{by_eq}
use Rattle.vt_laws.proofs.lemmas.runs.AtMostThreeEvents.{few-events, few-named}
use Rattle.vt_laws.proofs.lemmas.pools.MessagesWithoutCommands.{end-none}
use Rattle.vt_laws.proofs.lemmas.runs.NoRunSticks.{Laws, IsEach, ActsInForce, action-in-force, middle-ready, run-ends}

-- Each run ends in time on the pool accepted last at its address.
abbrev pub InTime : Pools → Run → Type 0
InTime pools run = EndsInTime (pools run.address) run

abbrev pub AllInTime : Pools → List Run → Type 0
AllInTime pools rs = AllByRecursion (InTime pools) rs

-- Runs that end in time on some pools do so on pools that are the same at each address.
pub in-time-at : (pools others : Pools) → ((q : ℕ) → others q ≡ pools q) → (rs : List Run) → AllInTime pools rs → AllInTime others rs
in-time-at pools others same [] all = tt
in-time-at pools others same (run ∷ rs) all =
    (subst (λ (last : Option ObjectMap). EndsInTime last run) (sym (same run.address)) all.0, in-time-at pools others same rs all.1)

-- A write of the same value leaves the pools unchanged.
pub stays-at : (pools : Pools) (a : ℕ) (x : Option ObjectMap) → x ≡ pools a → (q : ℕ) → with_at a x pools q ≡ pools q
stays-at pools a x is q =
    by_eq q a
    (λ same. ap (with_at a x pools) same ∙ at-own a pools x ∙ is ∙ ap pools (sym same))
    (λ other. at-other a q pools x other)

module _ (laws : Laws) (pools : Pools) (a : ℕ) where
  -- ---- messages

  -- The run of a command that is done ends in time.
  done-runs : (state : SetState) (command : Command) → IsPoolInForce (pools a) state → (r : Result ObjectMap ℕ) → effect state.objects command ≡ r
      → AllInTime pools (runs_of_effect a state.objects command r)
  done-runs state command is (Ok middle) done = (
    run-ends laws (pools a) a state.objects is.accepted middle (events_of state.objects command) is.is_last is.verified
        (middle-ready laws (pools a) is.accepted state.objects command middle done is.ready) (few-events state.objects command),
    tt,
  )
  done-runs state command is (Err bits) done = tt

  -- The runs of a command end in time, with or without a pool.
  command-runs : (pool : Option SetState) (c : Option Command) → IsEach (pools a) pool → AllInTime pools (runs_of_command a pool c)
  command-runs None c is = tt
  command-runs (Some state) None is = tt
  command-runs (Some state) (Some command) is = done-runs state command is (effect state.objects command) refl

  -- The runs of a message to a set end in time.
  message-runs : (o : Option Set) (pool : Option SetState) (message : Option (List ℕ)) → IsEach (pools a) pool
      → AllInTime pools (runs_of_message a o pool message)
  message-runs None pool message is = tt
  message-runs (Some set) pool None is = tt
  message-runs (Some set) pool (Some bytes) is = command-runs pool (command_at bytes) is

  -- A message other than a command has no runs.
  no-runs : (others : Pools) (pool : Option SetState) → AllInTime others (runs_of_command a pool None)
  no-runs others None = tt
  no-runs others (Some state) = tt

  -- A message that ends an upload has no runs; with any other message the pools accepted last are the same.
  ending-runs : (o : Option Set) (pool : Option SetState) (message : Option (List ℕ)) (verdict : Verdict) → IsEach (pools a) pool
      → AllInTime (with_at a (accepted_with (ends_transfer o message) verdict (pools a)) pools) (runs_of_message a o pool message)
  ending-runs None pool message verdict is = tt
  ending-runs (Some set) pool None verdict is = tt
  ending-runs (Some set) pool (Some []) verdict is =
      in-time-at pools (with_at a (pools a) pools) (stays-at pools a (pools a) refl) (runs_of_command a pool (command_at [])) (command-runs pool (command_at []) is)
  ending-runs (Some set) pool (Some (function ∷ bytes)) verdict is = cases (eqb function END_OF_POOL) refl
    where
      rs : List Run
      rs = runs_of_command a pool (command_at (function ∷ bytes))

      cases : (b : Bool) → eqb function END_OF_POOL ≡ b → AllInTime (with_at a (accepted_with b verdict (pools a)) pools) rs
      cases true ends =
          let later : Pools = with_at a (accepted_with true verdict (pools a)) pools in
          subst (λ (c : Option Command). AllInTime later (runs_of_command a pool c)) (sym (end-none function bytes ends)) (no-runs later pool)
      cases false ends =
          in-time-at pools (with_at a (pools a) pools) (stays-at pools a (pools a) refl) rs (command-runs pool (command_at (function ∷ bytes)) is)

  -- The runs of a frame end in time on the pools after it.
  pub heard-runs : (now : ℕ) (p : AddressView) (n : FrameMeaning) (f : Frame) (verdict : Verdict) → IsEach (pools a) p.place.content.pool
      → AllInTime (with_at a (accepted_at now a p (Hears n f verdict) (pools a)) pools) (runs_at now a p (Hears n f verdict))
  heard-runs now p n f verdict is = ending-runs p.set p.place.content.pool (came now p.terminal a p.place n f).message verdict is

  -- ---- the operator, and events of the Working Set

  -- The runs of an action that is not refused end in time.
  action-runs : (sending : Option (Timed Message)) (old : ObjectMap) (o : Option operating.ActionResult) → ActsInForce laws (pools a) o
      → AllInTime pools (runs_of_action a sending old o)
  action-runs sending old None acts = tt
  action-runs sending old (Some (operating.Refused refusal)) acts = tt
  action-runs sending old (Some (operating.Acts message start raised)) acts = cases (is_busy message sending)
    where
      cases : (b : Bool) → AllInTime pools (cond b [] (record { address = a; before = old; objects = start.objects; raised = raised } ∷ []))
      cases true = tt
      cases false = (run-ends laws (pools a) a old acts.0.accepted start.objects raised acts.0.is_last acts.0.verified acts.0.ready acts.1, tt)

  -- The runs of an operator's action on a pool end in time.
  operator-runs : (sending : Option (Timed Message)) (shown : Bool) (action : ActionValue) (o : Option SetState) → IsEach (pools a) o
      → AllInTime pools (runs_of_operator a sending o (λ state. action_on state shown action))
  operator-runs sending shown action None is = tt
  operator-runs sending shown action (Some state) is =
      action-runs sending state.objects (action_on state shown action) (action-in-force laws (pools a) state shown action is)

  -- The runs of an event of the Working Set end in time.
  event-runs : (event : ℕ) (o : Option SetState) → IsEach (pools a) o → AllInTime pools (runs_of_event a o event)
  event-runs event None is = tt
  event-runs event (Some state) is =
      let raised = named (working_set_in state.objects) (event_at event) in (
        run-ends laws (pools a) a state.objects is.accepted state.objects raised is.is_last is.verified is.ready
            (few-named (working_set_in state.objects) (event_at event)),
        tt,
      )

  -- ---- an act

  -- The runs of any act end in time on the pools before it.
  pub act-runs : (now : ℕ) (p : AddressView) (h : Act) → IsEach (pools a) p.place.content.pool → AllInTime pools (runs_at now a p h)
  act-runs now p (Hears n f verdict) is = message-runs p.set p.place.content.pool (came now p.terminal a p.place n f).message is
  act-runs now p Rebinds is = tt
  act-runs now p (Preloads contents) is = tt
  act-runs now p TpExpires is = tt
  act-runs now p EtpExpires is = tt
  act-runs now p SendingExpires is = tt
  act-runs now p FallsSilent is = tt
  act-runs now p (Operates action shown) is = operator-runs p.place.sending shown action p.place.content.pool is
  act-runs now p (Raises event) is = event-runs event p.place.content.pool is
