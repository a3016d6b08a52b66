-- The pool of an address after an act is the result of the act's runs.
use Rattle.std.proofs.Common.{◌≡◌, ℕ, Bool, true, false, cond, eqb, List, [], ◌∷◌, ◌++◌, Option, Some, None, Result, Ok, Err, refl, sym, subst, inl, inr, ◌⊎◌}
use Rattle.std.specs.Option.{option_map}
use Rattle.vt_can.specs.declared.frames.frame.Frame.{Frame}
use Rattle.vt_can.specs.lines.Actions.{ActionValue}
use Rattle.vt_names.specs.Registry.{Set}
use Rattle.vt_commands.specs.declared.command.Command.{Command}
use Rattle.vt_commands.specs.declared.event.Event.{Event}
use Rattle.vt_commands.specs.declared.event.Event.TheVariants as events
use Rattle.vt_commands.specs.Commands.{command_at}
use Rattle.vt_commands.specs.Events.{event_number, raise}
use Rattle.vt_stores.specs.Stores.{ObjectMap}
use Rattle.vt_verify.specs.Budgets.{budget}
use Rattle.vt_verify.specs.Triggers.{listing}
use Rattle.vt_effects.specs.Effects.{effect}
use Rattle.vt_effects.specs.Soundness.{shape_in}
use Rattle.vt_machine.specs.SetStates.{SetState, working_set_in}
use Rattle.vt_macros.specs.Machines.{events_of, event_commands}
use Rattle.vt_machine.specs.OperatorActions as operating
use Rattle.vt_server.specs.message.CommandEffects.{after_done, deletes, state_after}
use Rattle.vt_server.specs.Judgements.{ends_transfer}
use Rattle.vt_server.specs.message.MessageEffects.{handled, ends_pool, transferred, end_handled, asked, commanded, TRANSFER, END_OF_POOL}
use Rattle.vt_node.specs.Messages.{technical_reply}
use Rattle.vt_node.specs.declared.profile.Profile.{Profile}
use Rattle.vt_server.specs.operator.ActionEffects.{action_on, is_busy, message_frames, sending_after, ran}
use Rattle.vt_server.specs.state.AddressViews.{AddressView, Act, Hears, Rebinds, Preloads, TpExpires, EtpExpires, SendingExpires, FallsSilent, Operates, Raises, outcome, after_action, after_change, after_claim_heard, after_master, after_member, after_message, after_operator, raised_on, refused_by, stays_under, unchanged, with_place, without_set}
use Rattle.vt_server.specs.state.AddressStates.{SetPool, heard_at, with_pool}
use Rattle.vt_server.specs.frame.SessionEffects.{came}
use Rattle.vt_server.specs.message.Verdicts.{Verdict, Accepts, Faulty, Refuses, after_verdict}
use Rattle.vt_server.specs.declared.output.OperatorFault.TheVariants.{Busy}
use Rattle.vt_node.specs.declared.bus.FrameMeaning.{FrameMeaning}
use Rattle.vt_node.specs.declared.bus.FrameMeaning.TheVariants.{Claim, ClaimRequest, Master, Member, Message, Tp, Etp, Nothing}
use Rattle.vt_laws.specs.Headline.{Run, accepted_at, accepted_with, runs_of_effect, runs_of_command, runs_of_message, runs_of_action, runs_of_operator, runs_of_event, runs_at}
use Rattle.vt_laws.specs.RunsOfSteps.{Lead, objects_after_run}
use Rattle.vt_laws.proofs.lemmas.pools.MessagesWithoutCommands.{piece-none, end-none, asked-none}
use Rattle.vt_laws.proofs.lemmas.runs.NoRunSticks.{one-run}

-- ---- runs in sequence

-- From a pool that remains, the runs lead to its objects afterwards. Without a pool none appears.
abbrev pub Follows : Option SetState → List Run → Option SetState → Type 0
Follows None rs None = Unit {0}
Follows None rs (Some new) = ⊥
Follows (Some old) rs None = Unit {0}
Follows (Some old) rs (Some new) = Lead old.objects rs new.objects

-- A removed pool follows any runs.
pub follows-none : (pool : Option SetState) (rs : List Run) → Follows pool rs None
follows-none None rs = tt
follows-none (Some state) rs = tt

-- An unchanged pool follows from no runs.
pub follows-same : (pool : Option SetState) → Follows pool [] pool
follows-same None = tt
follows-same (Some state) = refl

-- Two lists of runs in sequence compose.
pub lead-append : (old mid new : ObjectMap) (rs ss : List Run) → Lead old rs mid → Lead mid ss new → Lead old (rs ++ ss) new
lead-append old mid new [] ss first second = subst (λ (x : ObjectMap). Lead x ss new) first second
lead-append old mid new (run ∷ rs) ss first second = (first.0, lead-append (objects_after_run run) mid new rs ss first.1 second)

-- Two lists of runs in sequence compose for pools that may be removed.
pub follows-then : (x y z : Option SetState) (rs ss : List Run) → Follows x rs y → Follows y ss z → Follows x (rs ++ ss) z
follows-then None None None rs ss first second = tt
follows-then None None (Some new) rs ss first second = absurd second
follows-then None (Some mid) z rs ss first second = absurd first
follows-then (Some old) y None rs ss first second = tt
follows-then (Some old) None (Some new) rs ss first second = absurd second
follows-then (Some old) (Some mid) (Some new) rs ss first second = lead-append old.objects mid.objects new.objects rs ss first second

-- ---- commands

-- The objects after a command are those after its run; a refused command leaves them unchanged.
done-leads : (a : ℕ) (state : SetState) (command : Command) (r : Result ObjectMap ℕ)
    → Lead state.objects (runs_of_effect a state.objects command r) (after_done state.objects (events_of state.objects command) r)
done-leads a state command (Ok middle) = (refl, refl)
done-leads a state command (Err bits) = refl

-- A message without a command begins no run.
no-command : (a : ℕ) (pool : Option SetState) → Follows pool (runs_of_command a pool None) pool
no-command a None = tt
no-command a (Some state) = refl

-- A message other than a command leaves the pool unchanged.
unheard : (a : ℕ) (pool : Option SetState) (bytes : List ℕ) → command_at bytes ≡ None → Follows pool (runs_of_command a pool (command_at bytes)) pool
unheard a pool bytes none = subst (λ (c : Option Command). Follows pool (runs_of_command a pool c) pool) (sym none) (no-command a pool)

-- The pool after a command is the result of its run, or is deleted.
commanded-follows : (a : ℕ) (content : SetPool) (o : Option Command) → Follows content.pool (runs_of_command a content.pool o) (commanded content o).content.pool
commanded-follows a content None = no-command a content.pool
commanded-follows a content (Some command) = cases (deletes command)
  where
    each : (pool : Option SetState) → Follows pool (runs_of_command a pool (Some command)) (option_map (state_after command) pool)
    each None = tt
    each (Some state) = done-leads a state command (effect state.objects command)

    cases : (b : Bool) → Follows content.pool (runs_of_command a content.pool (Some command))
        (cond b (record { pool = None; transfer = [] }) (record content { pool = option_map (state_after command) content.pool })).pool
    cases true = follows-none content.pool (runs_of_command a content.pool (Some command))
    cases false = each content.pool

-- ---- messages

-- The pool after a command or a technical request is the result of its runs.
asked-follows : (profile : Profile) (a : ℕ) (content : SetPool) (function : ℕ) (bytes : List ℕ) (o : Option (List ℕ)) → technical_reply profile (function ∷ bytes) ≡ o
    → Follows content.pool (runs_of_command a content.pool (command_at (function ∷ bytes))) (asked content (function ∷ bytes) o).content.pool
asked-follows profile a content function bytes None is = commanded-follows a content (command_at (function ∷ bytes))
asked-follows profile a content function bytes (Some reply) is = unheard a content.pool (function ∷ bytes) (asked-none profile function bytes reply is)

-- The end of an upload that is not accepted leaves the pool unchanged.
ended-follows : (a : ℕ) (content : SetPool) (verdict : Verdict) (bytes : List ℕ) → ((last : Option ObjectMap) → accepted_with true verdict last ≡ last)
    → command_at bytes ≡ None → Follows content.pool (runs_of_command a content.pool (command_at bytes)) (after_verdict content verdict).pool
ended-follows a content (Accepts objects) bytes accepts none = let some : Some objects ≡ None = accepts None in absurd cc
ended-follows a content (Faulty fault) bytes accepts none = unheard a content.pool bytes none
ended-follows a content (Refuses refusal) bytes accepts none = unheard a content.pool bytes none

-- The pool after a message that accepts no pool is the result of its runs.
handled-follows : (profile : Profile) (a : ℕ) (content : SetPool) (verdict : Verdict) (bytes : List ℕ)
    → ((last : Option ObjectMap) → accepted_with (ends_pool bytes) verdict last ≡ last)
    → Follows content.pool (runs_of_command a content.pool (command_at bytes)) (handled profile content verdict bytes).content.pool
handled-follows profile a content verdict [] accepts = no-command a content.pool
handled-follows profile a content verdict (function ∷ bytes) accepts = cases (eqb function TRANSFER) refl (eqb function END_OF_POOL) refl accepts
  where
    all : List ℕ
    all = function ∷ bytes

    cases : (b : Bool) → eqb function TRANSFER ≡ b → (c : Bool) → eqb function END_OF_POOL ≡ c
        → ((last : Option ObjectMap) → accepted_with c verdict last ≡ last)
        → Follows content.pool (runs_of_command a content.pool (command_at all))
        (cond b (transferred content bytes) (cond c (end_handled content verdict) (asked content all (technical_reply profile all)))).content.pool
    cases true piece c ends accepts = unheard a content.pool all (piece-none function bytes piece)
    cases false piece true ends accepts = ended-follows a content verdict all accepts (end-none function bytes ends)
    cases false piece false ends accepts = asked-follows profile a content function bytes (technical_reply profile all) refl

-- The pool after a message to an address with or without a set is the result of its runs.
message-follows : (a : ℕ) (p : AddressView) (verdict : Verdict) (o : Option Set) (message : Option (List ℕ))
    → ((last : Option ObjectMap) → accepted_with (ends_transfer o message) verdict last ≡ last)
    → Follows p.place.content.pool (runs_of_message a o p.place.content.pool message) (after_message a p verdict o message).place.content.pool
message-follows a p verdict (Some set) (Some bytes) accepts = handled-follows p.profile a p.place.content verdict bytes accepts
message-follows a p verdict (Some set) None accepts = follows-same p.place.content.pool
message-follows a p verdict None message accepts = follows-same p.place.content.pool

-- Without a message the pool is unchanged.
silent-follows : (a : ℕ) (o : Option Set) (pool : Option SetState) → Follows pool (runs_of_message a o pool None) pool
silent-follows a None pool = follows-same pool
silent-follows a (Some set) pool = follows-same pool

-- The pool after a frame that accepts no pool is the result of its runs.
pub heard-follows : (now a : ℕ) (p : AddressView) (n : FrameMeaning) (f : Frame) (verdict : Verdict)
    → ((last : Option ObjectMap) → accepted_at now a p (Hears n f verdict) last ≡ last)
    → Follows p.place.content.pool (runs_at now a p (Hears n f verdict)) (outcome now a p (Hears n f verdict)).place.content.pool
heard-follows now a p (Claim name) f verdict accepts = cases p.set
  where
    cases : (o : Option Set) → Follows p.place.content.pool (runs_of_message a p.set p.place.content.pool None)
        (after_claim_heard (record p { place = heard_at now p.place }) o).place.content.pool
    cases None = silent-follows a p.set p.place.content.pool
    cases (Some set) = silent-follows a p.set p.place.content.pool
heard-follows now a p (Master count) f verdict accepts = cases p.holder
  where
    cases : (o : Option ℕ) → Follows p.place.content.pool (runs_of_message a p.set p.place.content.pool None)
        (after_master a (record p { place = heard_at now p.place }) o count).place.content.pool
    cases None = silent-follows a p.set p.place.content.pool
    cases (Some holder) = silent-follows a p.set p.place.content.pool
heard-follows now a p (Member name) f verdict accepts = cases p.set
  where
    cases : (o : Option Set) → Follows p.place.content.pool (runs_of_message a p.set p.place.content.pool None)
        (after_member (record p { place = heard_at now p.place }) o name).place.content.pool
    cases None = silent-follows a p.set p.place.content.pool
    cases (Some set) = silent-follows a p.set p.place.content.pool
heard-follows now a p ClaimRequest f verdict accepts = message-follows a (record p { place = heard_at now p.place }) verdict p.set None accepts
heard-follows now a p Nothing f verdict accepts = message-follows a (record p { place = heard_at now p.place }) verdict p.set None accepts
heard-follows now a p Message f verdict accepts =
    message-follows a (record p { place = (came now p.terminal a (heard_at now p.place) Message f).place }) verdict p.set (Some f.bytes.items) accepts
heard-follows now a p Tp f verdict accepts =
    let c = came now p.terminal a (heard_at now p.place) Tp f in message-follows a (record p { place = c.place }) verdict p.set c.message accepts
heard-follows now a p Etp f verdict accepts =
    let c = came now p.terminal a (heard_at now p.place) Etp f in message-follows a (record p { place = c.place }) verdict p.set c.message accepts

-- ---- the operator

-- The pool of the address is the given one, and is unchanged.
stays-there : (state : SetState) (pool : Option SetState) → pool ≡ Some state → Follows (Some state) [] pool
stays-there state pool is = subst (Follows (Some state) []) (sym is) refl

-- The pool after an action is the result of its run; a refused action leaves it unchanged.
action-follows : (now a : ℕ) (p : AddressView) (state : SetState) (o : Option operating.ActionResult) → p.place.content.pool ≡ Some state
    → Follows (Some state) (runs_of_action a p.place.sending state.objects o) (after_action now a p o).place.content.pool
action-follows now a p state None is = stays-there state p.place.content.pool is
action-follows now a p state (Some (operating.Refused refusal)) is = stays-there state p.place.content.pool is
action-follows now a p state (Some (operating.Acts message start raised)) is = cases (is_busy message p.place.sending)
  where
    cases : (b : Bool) → Follows (Some state) (cond b [] (record { address = a; before = state.objects; objects = start.objects; raised = raised } ∷ []))
        (cond b (refused_by p Busy) (with_place p (record (with_pool p.place (Some (ran start raised))) { sending = sending_after now message p.place.sending })
        (message_frames p.terminal a message))).place.content.pool
    cases true = stays-there state p.place.content.pool is
    cases false = (refl, refl)

-- The pool after an operator's action is the result of its run, with or without a pool.
operator-follows : (now a : ℕ) (p : AddressView) (action : ActionValue) (shown : Bool) (o : Option SetState) → p.place.content.pool ≡ o
    → Follows o (runs_of_operator a p.place.sending o (λ state. action_on state shown action)) (after_operator now a p action shown o).place.content.pool
operator-follows now a p action shown None is = subst (Follows None []) (sym is) tt
operator-follows now a p action shown (Some state) is = action-follows now a p state (action_on state shown action) is

-- ---- events of the Working Set

-- The objects after an event of the Working Set are those after its run.
raised-leads : (a : ℕ) (state : SetState) (e : Event)
    → Lead state.objects (record { address = a; before = state.objects; objects = state.objects; raised = raise (working_set_in state.objects) e ∷ [] } ∷ [])
    (raised_on state (event_number e)).objects
raised-leads a state e =
    let shape = shape_in state.objects in
    let set = working_set_in state.objects in
    (refl, one-run state.objects (budget shape set (event_number e)) (event_commands shape (listing set (event_number e))))

-- The pool after Activate or Deactivate is the result of its run.
event-follows : (a event : ℕ) → (event ≡ 2) ⊎ (event ≡ 1) → (o : Option SetState) → Follows o (runs_of_event a o event) (option_map (λ state. raised_on state event) o)
event-follows a event which None = tt
event-follows a event (inl two) (Some state) =
    subst (λ (n : ℕ). Follows (Some state) (runs_of_event a (Some state) n) (Some (raised_on state n))) (sym two) (raised-leads a state events.Deactivate)
event-follows a event (inr one) (Some state) =
    subst (λ (n : ℕ). Follows (Some state) (runs_of_event a (Some state) n) (Some (raised_on state n))) (sym one) (raised-leads a state events.Activate)

-- ---- an act

-- A change of the holder begins no run, and may close the set.
changed-follows : (p : AddressView) (o : Option Set) → Follows p.place.content.pool [] (after_change p o).place.content.pool
changed-follows p None = follows-same p.place.content.pool
changed-follows p (Some set) = cases (stays_under set.name p.holder)
  where
    cases : (b : Bool) → Follows p.place.content.pool [] (cond b (unchanged p) (without_set p)).place.content.pool
    cases true = follows-same p.place.content.pool
    cases false = follows-none p.place.content.pool []

-- An act that accepts no pool and raises no events but Activate and Deactivate.
abbrev pub MayFollow : ℕ → ℕ → AddressView → Act → Type 0
MayFollow now a p (Raises event) = (event ≡ 2) ⊎ (event ≡ 1)
MayFollow now a p act = (last : Option ObjectMap) → accepted_at now a p act last ≡ last

-- The pool after an act is the result of its runs.
pub act-follows : (now a : ℕ) (p : AddressView) (h : Act) → MayFollow now a p h
    → Follows p.place.content.pool (runs_at now a p h) (outcome now a p h).place.content.pool
act-follows now a p (Hears n f verdict) may = heard-follows now a p n f verdict may
act-follows now a p Rebinds may = changed-follows p p.set
act-follows now a p (Preloads contents) may = let some : Some contents ≡ None = may None in absurd cc
act-follows now a p TpExpires may = follows-same p.place.content.pool
act-follows now a p EtpExpires may = follows-same p.place.content.pool
act-follows now a p SendingExpires may = follows-same p.place.content.pool
act-follows now a p FallsSilent may = follows-none p.place.content.pool []
act-follows now a p (Operates action shown) may = operator-follows now a p action shown p.place.content.pool refl
act-follows now a p (Raises event) may = event-follows a event may p.place.content.pool
