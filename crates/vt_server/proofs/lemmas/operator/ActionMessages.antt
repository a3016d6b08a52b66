-- The effect of an operator's action on its set, and the message sent.
use Rattle.std.proofs.Common.{suc, ◌&&◌, ◌≡◌, ◌≤◌, ℕ, Bool, true, false, cond, is_some, List, [], ◌∷◌, length, Option, Some, None, Result, Ok, Err, true≢false, refl, sym, ap, subst, arith}
use Rattle.std.proofs.lemmas.Option.{same_Some}
use Rattle.std.proofs.lemmas.Bool.Decides.{nat_tests}
use Rattle.std.proofs.lemmas.Bool.{eqb-true}
use Rattle.std.specs.Prelude.{◌==◌}
use Rattle.std.specs.FinMap as finite
use Rattle.vt_can.specs.Assigned.{VT_TO_ECU}
use Rattle.vt_can.specs.lines.Actions.{ActionValue}
use Rattle.vt_can.specs.lines.Actions as actions
use Rattle.vt_transport.specs.Wire.{rts_frame}
use Rattle.vt_kinds.specs.declared.object.Object.TheVariants as objects
use Rattle.vt_commands.specs.declared.raising.Raised.{Raised}
use Rattle.vt_commands.specs.declared.event.Event.TheVariants as events
use Rattle.vt_commands.specs.Events.{raise}
use Rattle.vt_kinds.specs.Records.{Seen}
use Rattle.vt_machine.specs.declared.live.HeldKey.{HeldKey}
use Rattle.vt_machine.specs.declared.operator.Acted.{Acted}
use Rattle.vt_machine.specs.declared.operator.OperatorRefusal.{OperatorRefusal}
use Rattle.vt_machine.specs.declared.operator.OperatorRefusal.TheVariants as refusals
use Rattle.vt_machine.specs.OperatorEntries.{enter_number, number_message, enter_text, text_entered, text_place, text_message, number_entered, number_place}
use Rattle.vt_machine.specs.SetStates.{SetState, active_in}
use Rattle.vt_machine.specs.OperatorActions as operating
use Rattle.vt_machine.specs.OperatorActions.{ActionResult, Refused, Acts, HasActed, key_message, press_with, release_of, or_none, select_if, is_enabled}
use Rattle.vt_macros.specs.Machines.{store_of}
use Rattle.vt_server.specs.operator.ActionContracts.{Comes, IsShort}
use Rattle.vt_node.specs.Messages.{message_to}
use Rattle.vt_server.specs.operator.ActionEffects.{action_on, filled, is_long, message_frames, sending_after, ran}
use Rattle.vt_server.specs.state.AddressViews as parts
use Rattle.vt_server.specs.state.AddressViews.{refused_by, with_place, after_action}
use Rattle.vt_server.specs.state.AddressStates.{with_pool}
use Rattle.vt_server.specs.declared.output.OperatorFault.TheVariants as faults
use Rattle.vt_names.proofs.AddressesAfterClaim.{none-some}

-- ---- the effect of a call on the set

acted-is : (start new : SetState) (raised : List Raised) (steps : ℕ) → HasActed start raised steps new → new ≡ ran start raised
acted-is start new raised steps h = λ i. record { objects = sym (ap store_of h.has_run.ended) i; key = h.key i; input = h.input i; audio = h.audio i }

pub refused-is : (p q : SetState) (x : Option ActionResult) (refusal : OperatorRefusal) → Comes p x (Some (Err refusal)) q → (x ≡ Some (Refused refusal)) × (q ≡ p)
refused-is p q None refusal h = absurd h
refused-is p q (Some (Refused r)) refusal h = (ap (λ y. Some (Refused y)) (sym h.0), h.1)
refused-is p q (Some (Acts message start raised)) refusal h = absurd h

pub record IsActing (x : Option ActionResult) (message : List ℕ) (q : SetState) : Type 0 where
  pub start : SetState
  pub raised : List Raised
  pub is : x ≡ Some (Acts message start raised)
  pub left : q ≡ ran start raised

pub acting-is : (p q : SetState) (x : Option ActionResult) (acted : Acted) → Comes p x (Some (Ok acted)) q → IsActing x acted.message.items q
acting-is p q None acted h = absurd h
acting-is p q (Some (Refused r)) acted h = absurd h
acting-is p q (Some (Acts message start raised)) acted h = record {
  start = start;
  raised = raised;
  is = ap (λ m. Some (Acts m start raised)) (sym h.0);
  left = acted-is start q raised acted.steps h.1;
}

-- The effect of a call whose action is known.
pub comes-acts : (p q : SetState) (message : List ℕ) (start : SetState) (raised : List Raised) (result : Option (Result Acted OperatorRefusal))
    → Comes p (Some (Acts message start raised)) result q → q ≡ ran start raised
comes-acts p q message start raised None h = absurd h
comes-acts p q message start raised (Some (Err refusal)) h = absurd h
comes-acts p q message start raised (Some (Ok acted)) h = acted-is start q raised acted.steps h.1

-- ---- messages

pub not-long : (message : List ℕ) → length message ≤ 8 → is_long message ≡ false
not-long message short = grind (arith, nat_tests)

pub short-came : (now a : ℕ) (p : parts.AddressView) (message : List ℕ) (start : SetState) (raised : List Raised) → is_long message ≡ false
    → after_action now a p (Some (Acts message start raised)) ≡ with_place p (with_pool p.place (Some (ran start raised))) (message_frames p.terminal a message)
short-came now a p message start raised e =
    ap (λ (b : Bool). cond (b && is_some p.place.sending) (refused_by p faults.Busy)
    (with_place p (record (with_pool p.place (Some (ran start raised))) { sending = cond b (Some (record { last = now; session = record { pgn = VT_TO_ECU; bytes = message } })) p.place.sending })
    (message_frames p.terminal a message))) e

pub busy-came : (now a : ℕ) (p : parts.AddressView) (message : List ℕ) (start : SetState) (raised : List Raised) → is_long message ≡ true → is_some p.place.sending ≡ true
    → after_action now a p (Some (Acts message start raised)) ≡ refused_by p faults.Busy
busy-came now a p message start raised long busy =
    λ i. cond (long i && busy i) (refused_by p faults.Busy)
    (with_place p (record (with_pool p.place (Some (ran start raised))) { sending = sending_after now message p.place.sending }) (message_frames p.terminal a message))

pub long-came : (now a : ℕ) (p : parts.AddressView) (message : List ℕ) (start : SetState) (raised : List Raised) → is_long message ≡ true → is_some p.place.sending ≡ false
    → after_action now a p (Some (Acts message start raised))
    ≡ with_place p (record (with_pool p.place (Some (ran start raised))) { sending = Some (record { last = now; session = record { pgn = VT_TO_ECU; bytes = message } }) })
    (rts_frame p.terminal a (length message) VT_TO_ECU ∷ [])
long-came now a p [] start raised long free = absurd (true≢false (sym long))
long-came now a p (byte ∷ bytes) start raised long free =
    λ i. cond (long i && free i) (refused_by p faults.Busy)
    (with_place p (record (with_pool p.place (Some (ran start raised))) { sending = cond (long i) (Some (record { last = now; session = record { pgn = VT_TO_ECU; bytes = byte ∷ bytes } })) p.place.sending })
    (cond (long i) (rts_frame p.terminal a (length (byte ∷ bytes)) VT_TO_ECU ∷ []) (message_to p.terminal a (filled (byte ∷ bytes)) ∷ [])))

pub one-frame : (own a : ℕ) (message : List ℕ) → length message ≤ 8 → (length message == 0) ≡ false → message_to own a (filled message) ∷ [] ≡ message_frames own a message
one-frame own a [] short some = absurd (true≢false some)
one-frame own a (byte ∷ bytes) short some =
    sym (ap (λ b. cond b (rts_frame own a (length (byte ∷ bytes)) VT_TO_ECU ∷ []) (message_to own a (filled (byte ∷ bytes)) ∷ [])) (not-long (byte ∷ bytes) short))

pub no-frame : (own a : ℕ) (message : List ℕ) → (length message == 0) ≡ true → [] ≡ message_frames own a message
no-frame own a [] none = refl
no-frame own a (byte ∷ bytes) none = let none_left : suc (length bytes) ≡ 0 = eqb-true (suc (length bytes)) 0 none in absurd (omega arith)

-- ---- the messages of short actions have at most eight bytes

abbrev Fits : ActionResult → Type 0
Fits (Refused refusal) = Unit {0}
Fits (Acts message start raised) = length message ≤ 8

key-fits : (code id mask : ℕ) (o : Option Seen) (message : List ℕ) → key_message code id mask o ≡ Some message → length message ≤ 8
key-fits code id mask (Some (objects.Key o)) message is = let count : length message ≡ 8 = ap length (sym (same_Some _ message is)) in omega arith
key-fits code id mask (Some (objects.Button o)) message is = let count : length message ≡ 8 = ap length (sym (same_Some _ message is)) in omega arith
key-fits code id mask _ message is = absurd cc

press-fits : (state : SetState) (mask id : ℕ) (m : Option (List ℕ)) (key : Option HeldKey) → ((message : List ℕ) → m ≡ Some message → length message ≤ 8) → Fits (press_with state mask id m key)
press-fits state mask id None key fits = tt
press-fits state mask id (Some message) (Some key) fits = tt
press-fits state mask id (Some message) None fits = fits message refl

none-fits : (m : Option (List ℕ)) → ((message : List ℕ) → m ≡ Some message → length message ≤ 8) → length (or_none m) ≤ 8
none-fits None fits = omega arith
none-fits (Some message) fits = fits message refl

if-fits : (b : Bool) (x y : ActionResult) → Fits x → Fits y → Fits (cond b x y)
if-fits true x y f g = f
if-fits false x y f g = g

release-fits : (state : SetState) (id : ℕ) (key : Option HeldKey) → Fits (release_of state id key)
release-fits state id None = tt
release-fits state id (Some key) =
    if-fits (key.id == id) (Acts (or_none (key_message 0 id key.mask (finite.get state.objects id))) (operating.holding state None) (raise id events.KeyRelease ∷ [])) (Refused refusals.NotPressed)
    (none-fits (key_message 0 id key.mask (finite.get state.objects id)) (key-fits 0 id key.mask (finite.get state.objects id))) tt

select-fits : (state : SetState) (id : ℕ) (o : Option Bool) → Fits (select_if state id o)
select-fits state id None = tt
select-fits state id (Some false) = tt
select-fits state id (Some true) = omega arith

number-fits : (state : SetState) (id n : ℕ) (r : Result ℕ OperatorRefusal) → Fits (number_entered state id n r)
number-fits state id n (Err refusal) = tt
number-fits state id n (Ok place) = let count : length (number_message id n) ≡ 8 = refl in omega arith

text-fits : (state : SetState) (id : ℕ) (text : List ℕ) (r : Result ℕ OperatorRefusal) → length text ≤ 4 → Fits (text_entered state id text r)
text-fits state id text (Err refusal) short = tt
text-fits state id text (Ok place) short = let count : length (text_message id text) ≡ suc (suc (suc (suc (length text)))) = refl in omega arith

shown-fits : (shown : Bool) (f : Bool → ActionResult) → f false ≡ Refused refusals.NotShown → Fits (f true) → Fits (f shown)
shown-fits true f e h = h
shown-fits false f e h = subst Fits (sym e) tt

short-fits : (p : SetState) (shown : Bool) (action : ActionValue) (x : ActionResult) → IsShort action → action_on p shown action ≡ Some x → Fits x
short-fits p shown (actions.Press id) x short e =
    subst Fits (same_Some _ x e) (shown-fits shown (λ b. operating.press b p (active_in p.objects) id) refl
    (press-fits p (active_in p.objects) id (key_message 1 id (active_in p.objects) (finite.get p.objects id)) p.key (key-fits 1 id (active_in p.objects) (finite.get p.objects id))))
short-fits p shown (actions.Release id) x short e = subst Fits (same_Some _ x e) (release-fits p id p.key)
short-fits p shown (actions.Select id) x short e =
    subst Fits (same_Some _ x e) (shown-fits shown (λ b. operating.select b p id) refl (select-fits p id (is_enabled (finite.get p.objects id))))
short-fits p shown (actions.Number id n) x short e =
    subst Fits (same_Some _ x e) (shown-fits shown (λ b. enter_number b p id n) refl (number-fits p id n (number_place id n (finite.get p.objects id))))
short-fits p shown (actions.Text id text) x short e =
    subst Fits (same_Some _ x e) (shown-fits shown (λ b. enter_text b p id text) refl (text-fits p id text (text_place p.objects id text (finite.get p.objects id)) short))
short-fits p shown (actions.Set address) x short e = none-some e

pub short-message : (p : SetState) (shown : Bool) (action : ActionValue) (message : List ℕ) (start : SetState) (raised : List Raised)
    → IsShort action → action_on p shown action ≡ Some (Acts message start raised) → length message ≤ 8
short-message p shown action message start raised short e = short-fits p shown action (Acts message start raised) short e
