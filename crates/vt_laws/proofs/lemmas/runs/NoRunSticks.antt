-- Acts at an address keep pools in force, and each run on a pool in force ends in time.
use Rattle.std.proofs.Common.{◌≡◌, ◌≤◌, ◌+◌, length, ℕ, Bool, true, false, cond, eqb, List, [], ◌∷◌, ◌++◌, Option, Some, None, Result, Ok, Err, refl, sym, ap, subst, ◌∙◌, inl, inr, ◌⊎◌, arith, append-nil}
use Rattle.std.proofs.lemmas.Bool.{eqb-true}
use Rattle.std.specs.Prelude.{IfSome}
use Rattle.std.specs.Option.{option_map}
use Rattle.std.specs.FinMap as finite
use Rattle.vt_can.specs.declared.frames.frame.Frame.{Frame}
use Rattle.vt_can.specs.lines.Actions.{ActionValue, Press, Release, Select, Number, Text}
use Rattle.vt_can.specs.lines.Actions as actions
use Rattle.vt_names.specs.Registry.{Set}
use Rattle.vt_commands.specs.declared.command.Command.{Command}
use Rattle.vt_commands.specs.declared.event.Event.{Event}
use Rattle.vt_commands.specs.declared.event.Event.TheVariants as events
use Rattle.vt_commands.specs.declared.raising.Raised.{Raised}
use Rattle.vt_commands.specs.Commands.{command_at}
use Rattle.vt_commands.specs.Events.{event_number, raise}
use Rattle.vt_stores.specs.Stores.{ObjectMap, Objects, map_of}
use Rattle.vt_verify.specs.Budgets.{budget}
use Rattle.vt_verify.specs.Rules.{IsVerified, working_sets}
use Rattle.vt_stores.specs.Shapes.{Shape, shape_of}
use Rattle.vt_verify.specs.Triggers.{listing}
use Rattle.vt_machine.specs.declared.live.HeldKey.{HeldKey}
use Rattle.vt_machine.specs.declared.operator.OperatorRefusal.{OperatorRefusal}
use Rattle.vt_machine.specs.declared.operator.OperatorRefusal.TheVariants as refusals
use Rattle.vt_effects.specs.Changes.{left}
use Rattle.vt_effects.specs.Effects.{effect, after}
use Rattle.vt_machine.specs.OperatorEntries.{EntriesKeepOrder, EntriesKeepShapes, number_entered, number_place, put_at, with_number, with_text, text_entered, text_place}
use Rattle.vt_macros.specs.declared.audio.Audio.{Audio}
use Rattle.vt_macros.specs.AudioOfRuns.{audio_of_run}
use Rattle.vt_machine.specs.SetStates.{SetState, active_in, after_run, audio_after_command, with_objects, working_set_in}
use Rattle.vt_macros.specs.Machines.{End, total_budget, events_of, event_commands, run, run_of, store_of}
use Rattle.vt_effects.specs.Soundness.{shape_in}
use Rattle.vt_machine.specs.OperatorActions as operating
use Rattle.vt_macros.specs.Runs.{Ends, EventsEndInTurn, IsReady, NullIsNoObject, RunsEnd, PoolsAreReady}
use Rattle.vt_effects.specs.Soundness.{CommandsKeepOrder, CommandsKeepShapes, IsSound}
use Rattle.vt_layout.specs.Drawings.{DrawingsNeverStick, PathsAreChained}
use Rattle.vt_layout.specs.LookUps.{DrawingsFindAll}
use Rattle.vt_server.specs.message.CommandEffects.{after_done, content_after, deletes, state_after}
use Rattle.vt_server.specs.Judgements.{IsJudged, ends_transfer}
use Rattle.vt_server.specs.message.MessageEffects.{handled, ends_pool, transferred, end_handled, asked, commanded, TRANSFER, END_OF_POOL}
use Rattle.vt_laws.specs.Headline.{IsPoolInForce, EndsInTime, accepted_at, accepted_by, accepted_with}
use Rattle.vt_node.specs.Messages.{technical_reply}
use Rattle.vt_node.specs.declared.profile.Profile.{Profile}
use Rattle.vt_server.specs.operator.ActionEffects.{action_on, is_busy}
use Rattle.vt_server.specs.state.AddressViews.{AddressView, Act, Hears, Rebinds, Preloads, TpExpires, EtpExpires, SendingExpires, FallsSilent, Operates, Raises, AddressOutcome, outcome, after_action, after_change, after_claim_heard, after_master, after_member, after_message, after_operator, raised_on, stays_under}
use Rattle.vt_server.specs.state.AddressStates.{SetPool, heard_at}
use Rattle.vt_server.specs.frame.SessionEffects.{came}
use Rattle.vt_server.specs.message.Verdicts.{Verdict, Accepts, Faulty, Refuses, IsVerdict, after_verdict, merged, with_objects_of}
use Rattle.vt_node.specs.declared.bus.FrameMeaning.{FrameMeaning}
use Rattle.vt_node.specs.declared.bus.FrameMeaning.TheVariants.{Claim, ClaimRequest, Master, Member, Message, Tp, Etp, Nothing}
use Rattle.vt_laws.proofs.lemmas.runs.AtMostThreeEvents.{few-selected, few-entered}

-- the laws of the crates below
pub record Laws : Type 0 where
  pub order : CommandsKeepOrder
  pub shapes : CommandsKeepShapes
  pub entries_order : EntriesKeepOrder
  pub entries_shapes : EntriesKeepShapes
  pub pools : PoolsAreReady
  pub runs : RunsEnd
  pub turns : EventsEndInTurn
  pub nameless : NullIsNoObject
  pub drawings : DrawingsNeverStick
  pub finds : DrawingsFindAll
  pub paths : PathsAreChained

abbrev pub IsEach : Option ObjectMap → Option SetState → Type 0
IsEach last pool = IfSome pool (IsPoolInForce last)

either-each : (last : Option ObjectMap) (b : Bool) (x y : AddressOutcome) → IsEach last x.place.content.pool → IsEach last y.place.content.pool → IsEach last (cond b x y).place.content.pool
either-each last true x y first second = first
either-each last false x y first second = second

not-both : (n : ℕ) → eqb n TRANSFER ≡ true → eqb n END_OF_POOL ≡ true → ⊥
not-both n first second = let a = eqb-true n TRANSFER first in let b = eqb-true n END_OF_POOL second in omega arith

-- the acts that may happen while pools are in force: the verdict on an upload is right, a preloaded pool is an accepted one, and
-- the only events raised are Activate and Deactivate
abbrev pub MayHappen : ℕ → ℕ → AddressView → Act → Type 0
MayHappen now a p (Hears n f verdict) = IsJudged now a p n f verdict
MayHappen now a p (Raises event) = (event ≡ 2) ⊎ (event ≡ 1)
MayHappen now a p (Preloads contents) = (pool : Objects) × IsVerified pool × (contents ≡ map_of pool)
MayHappen now a p _ = Unit {0}

-- The run of a macro's commands is the run of a list of one event.
pub one-run : (store : ObjectMap) (b : ℕ) (cs : List Command) → store_of (run b store cs) ≡ store_of (run (0 + b) store (cs ++ []))
one-run store b cs = ap (λ (n : ℕ). store_of (run n store cs)) (plus-zero b) ∙ ap (λ (l : List Command). store_of (run (0 + b) store l)) (sym (append-nil cs))
  where
    plus-zero : (n : ℕ) → n ≡ 0 + n
    plus-zero n = omega arith

module _ (laws : Laws) (last : Option ObjectMap) where
  -- ---- runs

  -- A run of few events on the pool accepted last ends in time.
  pub run-ends : (a : ℕ) (before : ObjectMap) (pool : Objects) (store : ObjectMap) (raised : List Raised) → last ≡ Some (map_of pool) → IsVerified pool → IsReady pool store
      → length raised ≤ 3 → EndsInTime last (record { address = a; before = before; objects = store; raised = raised })
  run-ends a before pool store raised is-last verified ready few =
      let ends : Ends store (total_budget (shape_of pool) raised) (run_of store raised) =
      subst (λ (s : Shape). Ends store (total_budget s raised) (run_of store raised)) ready.shape
      (laws.runs pool store raised verified.acceptable verified.totals ready.shape ready.sound) in
      record {
        accepted = pool;
        is_last = is-last;
        verified = verified;
        ready = ready;
        ends = ends;
        in_turn = laws.turns pool store ends.new ends.left raised verified.acceptable verified.totals ready.shape ready.sound ends.ended;
        few = few;
      }

  left-ready : (pool : Objects) (store : ObjectMap) (steps : ℕ) (end : End) → IsReady pool store → Ends store steps end → IsReady pool (store_of end)
  left-ready pool store steps end ready ends = subst (λ (e : End). IsReady pool (store_of e)) (sym ends.ended) (record {
    working_set = ends.working_set;
    sound = ends.sound;
    shape = ends.shape ∙ ready.shape;
  })

  ran-ready : (pool : Objects) (store : ObjectMap) (raised : List Raised) → IsVerified pool → IsReady pool store → IsReady pool (store_of (run_of store raised))
  ran-ready pool store raised verified ready =
      left-ready pool store (total_budget (shape_in store) raised) (run_of store raised) ready
      (laws.runs pool store raised verified.acceptable verified.totals ready.shape ready.sound)

  moved-ready : (pool : Objects) (old new : ObjectMap) → shape_in new ≡ shape_in old → IsSound new → IsReady pool old → IsReady pool new
  moved-ready pool old new shape sound ready = record {
    working_set = ap working_sets shape ∙ ready.working_set;
    sound = sound;
    shape = shape ∙ ready.shape;
  }

  with-ready : (state : SetState) (objects : ObjectMap) (is : IsPoolInForce last state) → IsReady is.accepted objects → IsPoolInForce last (with_objects state objects)
  with-ready state objects is ready = record { accepted = is.accepted; is_last = is.is_last; verified = is.verified; ready = ready }

  run-ready : (state : SetState) (objects : ObjectMap) (audio : Audio) (is : IsPoolInForce last state) → IsReady is.accepted objects → IsPoolInForce last (after_run state objects audio)
  run-ready state objects audio is ready = record { accepted = is.accepted; is_last = is.is_last; verified = is.verified; ready = ready }

  -- ---- commands

  pub middle-ready : (pool : Objects) (old : ObjectMap) (command : Command) (middle : ObjectMap) → effect old command ≡ Ok middle → IsReady pool old → IsReady pool middle
  middle-ready pool old command middle done ready =
      let is : after old command ≡ middle = ap (left old) done in
      moved-ready pool old middle (ap shape_in (sym is) ∙ laws.shapes old command) (subst IsSound is (laws.order old command ready.sound)) ready

  done-in-force : (state : SetState) (command : Command) (audio : Audio) → IsPoolInForce last state → (r : Result ObjectMap ℕ) → effect state.objects command ≡ r
      → IsPoolInForce last (after_run state (after_done state.objects (events_of state.objects command) r) audio)
  done-in-force state command audio is (Ok middle) done =
      let ready = middle-ready is.accepted state.objects command middle done is.ready in
      run-ready state (store_of (run_of middle (events_of state.objects command))) audio is (ran-ready is.accepted middle (events_of state.objects command) is.verified ready)
  done-in-force state command audio is (Err bits) done = run-ready state state.objects audio is is.ready

  each-done : (command : Command) (o : Option SetState) → IsEach last o → IsEach last (option_map (state_after command) o)
  each-done command None is = tt
  each-done command (Some state) is = done-in-force state command (audio_after_command command state) is (effect state.objects command) refl

  command-keeps : (command : Command) (content : SetPool) → IsEach last content.pool → IsEach last (content_after command content).pool
  command-keeps command content is = cases (deletes command)
    where
      cases : (b : Bool) → IsEach last (cond b (record { pool = None; transfer = [] }) (record content { pool = option_map (state_after command) content.pool })).pool
      cases true = tt
      cases false = each-done command content.pool is

  -- ---- messages

  ended-keeps : (content : SetPool) (verdict : Verdict) → IsEach last content.pool → IsVerdict content verdict
      → IsEach (accepted_by verdict last) (after_verdict content verdict).pool
  ended-keeps content (Accepts objects) is right = cases content.pool
    where
      ready : IsReady (merged content.pool right.pool) objects
      ready = subst (IsReady (merged content.pool right.pool)) (sym right.objects_are)
          (laws.pools (merged content.pool right.pool) right.verified.stored right.verified.acceptable)

      cases : (o : Option SetState) → IsPoolInForce (Some objects) (with_objects_of o objects)
      cases None = record { accepted = merged content.pool right.pool; is_last = ap Some right.objects_are; verified = right.verified; ready = ready }
      cases (Some state) = record { accepted = merged content.pool right.pool; is_last = ap Some right.objects_are; verified = right.verified; ready = ready }
  ended-keeps content (Faulty fault) is right = is
  ended-keeps content (Refuses refusal) is right = is

  commanded-keeps : (content : SetPool) (o : Option Command) → IsEach last content.pool → IsEach last (commanded content o).content.pool
  commanded-keeps content None is = is
  commanded-keeps content (Some command) is = command-keeps command content is

  asked-keeps : (content : SetPool) (bytes : List ℕ) (o : Option (List ℕ)) → IsEach last content.pool → IsEach last (asked content bytes o).content.pool
  asked-keeps content bytes None is = commanded-keeps content (command_at bytes) is
  asked-keeps content bytes (Some reply) is = is

  handled-keeps : (profile : Profile) (content : SetPool) (verdict : Verdict) (bytes : List ℕ) → IsEach last content.pool → (ends_pool bytes ≡ true → IsVerdict content verdict)
      → IsEach (accepted_with (ends_pool bytes) verdict last) (handled profile content verdict bytes).content.pool
  handled-keeps profile content verdict [] is right = is
  handled-keeps profile content verdict (function ∷ bytes) is right = cases (eqb function TRANSFER) refl (eqb function END_OF_POOL) refl right
    where
      all : List ℕ
      all = function ∷ bytes

      cases : (b : Bool) → eqb function TRANSFER ≡ b → (c : Bool) → eqb function END_OF_POOL ≡ c → (c ≡ true → IsVerdict content verdict)
          → IsEach (accepted_with c verdict last) (cond b (transferred content bytes) (cond c (end_handled content verdict) (asked content all (technical_reply profile all)))).content.pool
      cases true first true second right = absurd (not-both function first second)
      cases true first false second right = is
      cases false first true second right = ended-keeps content verdict is (right refl)
      cases false first false second right = asked-keeps content all (technical_reply profile all) is

  message-keeps : (a : ℕ) (p : AddressView) (verdict : Verdict) (o : Option Set) (message : Option (List ℕ)) → IsEach last p.place.content.pool
      → (ends_transfer o message ≡ true → IsVerdict p.place.content verdict)
      → IsEach (accepted_with (ends_transfer o message) verdict last) (after_message a p verdict o message).place.content.pool
  message-keeps a p verdict (Some set) (Some bytes) is right = handled-keeps p.profile p.place.content verdict bytes is right
  message-keeps a p verdict (Some set) None is right = is
  message-keeps a p verdict None message is right = is

  unended : (o : Option Set) (verdict : Verdict) (pool : Option SetState) → IsEach last pool → IsEach (accepted_with (ends_transfer o None) verdict last) pool
  unended None verdict pool is = is
  unended (Some set) verdict pool is = is

  heard-keeps : (now a : ℕ) (p : AddressView) (n : FrameMeaning) (f : Frame) (verdict : Verdict) → IsJudged now a p n f verdict → IsEach last p.place.content.pool
      → IsEach (accepted_at now a p (Hears n f verdict) last) (outcome now a p (Hears n f verdict)).place.content.pool
  heard-keeps now a p (Claim name) f verdict judged is = unended p.set verdict (outcome now a p (Hears (Claim name) f verdict)).place.content.pool (cases p.set)
    where
      cases : (o : Option Set) → IsEach last (after_claim_heard (record p { place = heard_at now p.place }) o).place.content.pool
      cases None = is
      cases (Some set) = is
  heard-keeps now a p (Master count) f verdict judged is = unended p.set verdict (outcome now a p (Hears (Master count) f verdict)).place.content.pool (cases p.holder)
    where
      cases : (o : Option ℕ) → IsEach last (after_master a (record p { place = heard_at now p.place }) o count).place.content.pool
      cases None = is
      cases (Some holder) = is
  heard-keeps now a p (Member name) f verdict judged is = unended p.set verdict (outcome now a p (Hears (Member name) f verdict)).place.content.pool (cases p.set)
    where
      cases : (o : Option Set) → IsEach last (after_member (record p { place = heard_at now p.place }) o name).place.content.pool
      cases None = is
      cases (Some set) = is
  heard-keeps now a p ClaimRequest f verdict judged is = message-keeps a (record p { place = heard_at now p.place }) verdict p.set None is (λ e. judged e)
  heard-keeps now a p Nothing f verdict judged is = message-keeps a (record p { place = heard_at now p.place }) verdict p.set None is (λ e. judged e)
  heard-keeps now a p Message f verdict judged is =
      message-keeps a (record p { place = (came now p.terminal a (heard_at now p.place) Message f).place }) verdict p.set (Some f.bytes.items) is judged
  heard-keeps now a p Tp f verdict judged is =
      let c = came now p.terminal a (heard_at now p.place) Tp f in message-keeps a (record p { place = c.place }) verdict p.set c.message is judged
  heard-keeps now a p Etp f verdict judged is =
      let c = came now p.terminal a (heard_at now p.place) Etp f in message-keeps a (record p { place = c.place }) verdict p.set c.message is judged

  -- ---- the operator

  abbrev pub ActsInForce : Option operating.ActionResult → Type 0
  ActsInForce (Some (operating.Acts message start raised)) = IsPoolInForce last start × (length raised ≤ 3)
  ActsInForce _ = Unit {0}

  same-objects : (state new : SetState) → new.objects ≡ state.objects → IsPoolInForce last state → IsPoolInForce last new
  same-objects state new same is = record { accepted = is.accepted; is_last = is.is_last; verified = is.verified; ready = subst (IsReady is.accepted) (sym same) is.ready }

  press-in-force : (shown : Bool) (state : SetState) (mask id : ℕ) → IsPoolInForce last state → ActsInForce (Some (operating.press shown state mask id))
  press-in-force false state mask id is = tt
  press-in-force true state mask id is = cases (operating.key_message 1 id mask (finite.get state.objects id)) state.key
    where
      cases : (m : Option (List ℕ)) (k : Option HeldKey) → ActsInForce (Some (operating.press_with state mask id m k))
      cases None k = tt
      cases (Some m) (Some k) = tt
      cases (Some m) None = (same-objects state (operating.holding state (Some (operating.held id mask))) refl is, omega arith)

  release-in-force : (state : SetState) (id : ℕ) → IsPoolInForce last state → ActsInForce (Some (operating.release state id))
  release-in-force state id is = cases state.key
    where
      cases : (k : Option HeldKey) → ActsInForce (Some (operating.release_of state id k))
      cases None = tt
      cases (Some key) = by (eqb key.id id)
        where
          by : (b : Bool) → ActsInForce (Some (cond b (operating.Acts (operating.or_none (operating.key_message 0 id key.mask (finite.get state.objects id))) (operating.holding state None) (raise id events.KeyRelease ∷ [])) (operating.Refused refusals.NotPressed)))
          by true = (same-objects state (operating.holding state None) refl is, omega arith)
          by false = tt

  select-in-force : (shown : Bool) (state : SetState) (id : ℕ) → IsPoolInForce last state → ActsInForce (Some (operating.select shown state id))
  select-in-force false state id is = tt
  select-in-force true state id is = cases (operating.is_enabled (finite.get state.objects id))
    where
      cases : (e : Option Bool) → ActsInForce (Some (operating.select_if state id e))
      cases None = tt
      cases (Some false) = tt
      cases (Some true) = (same-objects state (operating.selecting_input state id) refl is, few-selected id state.input)

  put-in-force : (state : SetState) (new : ObjectMap) → shape_in new ≡ shape_in state.objects → IsSound new → IsPoolInForce last state → IsPoolInForce last (with_objects state new)
  put-in-force state new shape sound is = with-ready state new is (moved-ready is.accepted state.objects new shape sound is.ready)

  number-in-force : (state : SetState) (id n : ℕ) → IsPoolInForce last state → (r : Result ℕ OperatorRefusal) → ActsInForce (Some (number_entered state id n r))
  number-in-force state id n is (Err refusal) = tt
  number-in-force state id n is (Ok at) = (
    put-in-force state (put_at state.objects at (with_number n) (finite.get state.objects at))
        (laws.entries_shapes.numbers state.objects at n) (laws.entries_order.numbers state.objects at n is.ready.sound) is,
    few-entered id _,
  )

  text-in-force : (state : SetState) (id : ℕ) (text : List ℕ) → IsPoolInForce last state → (r : Result ℕ OperatorRefusal) → ActsInForce (Some (text_entered state id text r))
  text-in-force state id text is (Err refusal) = tt
  text-in-force state id text is (Ok at) = (
    put-in-force state (put_at state.objects at (with_text text) (finite.get state.objects at))
        (laws.entries_shapes.texts state.objects at text) (laws.entries_order.texts state.objects at text is.ready.sound) is,
    few-entered id _,
  )

  pub action-in-force : (state : SetState) (shown : Bool) (action : ActionValue) → IsPoolInForce last state → ActsInForce (action_on state shown action)
  action-in-force state shown (Press id) is = press-in-force shown state (active_in state.objects) id is
  action-in-force state shown (Release id) is = release-in-force state id is
  action-in-force state shown (Select id) is = select-in-force shown state id is
  action-in-force state false (Number id n) is = tt
  action-in-force state true (Number id n) is = number-in-force state id n is (number_place id n (finite.get state.objects id))
  action-in-force state false (Text id text) is = tt
  action-in-force state true (Text id text) is = text-in-force state id text is (text_place state.objects id text (finite.get state.objects id))
  action-in-force state shown (actions.Set address) is = tt

  acted-keeps : (now a : ℕ) (p : AddressView) (o : Option operating.ActionResult) → IsEach last p.place.content.pool → ActsInForce o → IsEach last (after_action now a p o).place.content.pool
  acted-keeps now a p None is acts = is
  acted-keeps now a p (Some (operating.Refused refusal)) is acts = is
  acted-keeps now a p (Some (operating.Acts message start raised)) is acts =
      either-each last (is_busy message p.place.sending) _ _ is
      (run-ready start (store_of (run_of start.objects raised)) (audio_of_run start.audio start.objects raised) acts.0 (ran-ready acts.0.accepted start.objects raised acts.0.verified acts.0.ready))

  operator-keeps : (now a : ℕ) (p : AddressView) (action : ActionValue) (shown : Bool) (o : Option SetState) → IsEach last p.place.content.pool → IsEach last o
      → IsEach last (after_operator now a p action shown o).place.content.pool
  operator-keeps now a p action shown None is each = is
  operator-keeps now a p action shown (Some state) is each = acted-keeps now a p (action_on state shown action) is (action-in-force state shown action each)

  -- ---- events of the Working Set

  raised-number : (state : SetState) (e : Event) → IsPoolInForce last state → IsPoolInForce last (raised_on state (event_number e))
  raised-number state e is =
      let shape = shape_in state.objects in
      let set = working_set_in state.objects in
      let raised = raise set e ∷ [] in
      run-ready state (store_of (run (budget shape set (event_number e)) state.objects (event_commands shape (listing set (event_number e))))) _ is
      (subst (IsReady is.accepted) (sym (one-run state.objects (budget shape set (event_number e)) (event_commands shape (listing set (event_number e)))))
      (ran-ready is.accepted state.objects raised is.verified is.ready))

  raised-in-force : (state : SetState) (event : ℕ) → (event ≡ 2) ⊎ (event ≡ 1) → IsPoolInForce last state → IsPoolInForce last (raised_on state event)
  raised-in-force state event (inl two) is = subst (λ (n : ℕ). IsPoolInForce last (raised_on state n)) (sym two) (raised-number state events.Deactivate is)
  raised-in-force state event (inr one) is = subst (λ (n : ℕ). IsPoolInForce last (raised_on state n)) (sym one) (raised-number state events.Activate is)

  raised-keeps : (event : ℕ) → (event ≡ 2) ⊎ (event ≡ 1) → (o : Option SetState) → IsEach last o → IsEach last (option_map (λ state. raised_on state event) o)
  raised-keeps event which None is = tt
  raised-keeps event which (Some state) is = raised-in-force state event which is

  -- ---- any act at an address

  changed-keeps : (p : AddressView) (o : Option Set) → IsEach last p.place.content.pool → IsEach last (after_change p o).place.content.pool
  changed-keeps p None is = is
  changed-keeps p (Some set) is = either-each last (stays_under set.name p.holder) _ _ is tt

  pub act-keeps : (now a : ℕ) (p : AddressView) (h : Act) → MayHappen now a p h → IsEach last p.place.content.pool
      → IsEach (accepted_at now a p h last) (outcome now a p h).place.content.pool
  act-keeps now a p (Hears n f verdict) may is = heard-keeps now a p n f verdict may is
  act-keeps now a p Rebinds may is = changed-keeps p p.set is
  act-keeps now a p (Preloads contents) may is = record { accepted = may.0; is_last = ap Some may.2; verified = may.1; ready = subst (IsReady may.0) (sym may.2) (laws.pools may.0 may.1.stored may.1.acceptable) }
  act-keeps now a p TpExpires may is = is
  act-keeps now a p EtpExpires may is = is
  act-keeps now a p SendingExpires may is = is
  act-keeps now a p FallsSilent may is = tt
  act-keeps now a p (Operates action shown) may is = operator-keeps now a p action shown p.place.content.pool is is
  act-keeps now a p (Raises event) may is = raised-keeps event may p.place.content.pool is
