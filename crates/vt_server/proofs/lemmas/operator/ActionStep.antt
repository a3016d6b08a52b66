-- The operator's action on the shown set: the calls on the set and on the table of pools, and the outcome at its address.
use Rattle.std.proofs.Common.{suc, get_or, ◌≡◌, ◌≤◌, ◌<◌, ℕ, Bool, true, false, cond, not, is_some, List, [], ◌∷◌, ◌++◌, length, IfSome, Option, Some, None, Result, Ok, Err, refl, sym, ap, subst, ◌∙◌, append-nil, arith}
use Rattle.std.proofs.lemmas.Option.{same_Some}
use Rattle.std.proofs.lemmas.Bool.Decides.{same_from_decides, nat_tests}
use Rattle.std.specs.Prelude.{Decides, slice_set}
use Rattle.std.specs.FinMap as finite
use Rattle.std.specs.Option.{option_map}
use Rattle.vt_can.specs.Assigned.{VT_TO_ECU}
use Rattle.vt_can.specs.declared.frames.frame.Frame.{Frame}
use Rattle.vt_can.specs.declared.transport.sessions.Timed.{Timed}
use Rattle.vt_can.specs.lines.Actions.{ActionValue}
use Rattle.vt_can.specs.lines.Actions as actions
use Rattle.vt_can.specs.transport.Messages.{Message}
use Rattle.vt_can.proofs.lemmas.transport.ByAddress.{get-put, get-put_other}
use Rattle.vt_transport.specs.Wire.{rts_frame}
use Rattle.vt_commands.specs.declared.raising.Raised.{Raised}
use Rattle.vt_machine.specs.declared.operator.Acted.{Acted}
use Rattle.vt_machine.specs.declared.operator.OperatorRefusal.{OperatorRefusal}
use Rattle.vt_machine.specs.OperatorEntries.{enter_text, text_entered, text_place, text_message}
use Rattle.vt_machine.specs.SetStates.{SetState, active_in}
use Rattle.vt_machine.specs.OperatorActions.{ActionResult, Refused, Acts, refusal_of}
use Rattle.vt_shown.specs.ShownElements.{IsShown}
use Rattle.vt_server.specs.operator.ActionContracts.{IsSeenIn, Comes, Performs, PerformsAt, IsActedOn, WouldBeRefused, IsShort, TakesAction}
use Rattle.vt_server.specs.shown.ShownSet.{pool_shown, pool_shown_by, with_pool_at}
use Rattle.vt_node.specs.Nodes.{NodeState}
use Rattle.vt_server.specs.operator.ActionEffects.{action_on, object_acted_on, fault_of, is_long, message_frames, ran}
use Rattle.vt_server.specs.Outputs.{outputs_of}
use Rattle.vt_server.specs.state.AddressViews as parts
use Rattle.vt_server.specs.state.AddressViews.{Act, Operates, unchanged, refused_by, with_place, after_action, outcome}
use Rattle.vt_server.specs.state.AddressStates.{SetPool, AddressState, with_pool}
use Rattle.vt_server.specs.States.{places_by}
use Rattle.vt_server.specs.Steps.{selecting, has_no_set, no_set, at_shown}
use Rattle.vt_server.specs.Terminals.{State, part, pool_of, pool_at, put, to_address, after_acts, sent_by_acts}
use Rattle.vt_node.specs.AddressFunctions.{with_at}
use Rattle.vt_server.specs.state.PoolTables.{content_by}
use Rattle.vt_pool.specs.PoolUploads.{Arrived}
use Rattle.vt_server.specs.declared.output.OperatorFault.{OperatorFault}
use Rattle.vt_server.specs.declared.output.OperatorFault.TheVariants as faults
use Rattle.vt_server.specs.declared.output.Output.{Output}
use Rattle.vt_server.specs.declared.output.Output.TheVariants as declared
use Rattle.vt_server.proofs.lemmas.operator.ActionMessages.{refused-is, acting-is, comes-acts, not-long, short-came, busy-came, long-came, short-message}
use Rattle.vt_server.proofs.lemmas.acts.ComposedActs.{act-is, sent_by_one-is}
use Rattle.vt_node.proofs.ByAddress.{at-own, at-other}
use Rattle.vt_server.proofs.lemmas.state.WritesByAddress.{content-placed, put-place, put-kept}
use Rattle.vt_node.proofs.ByAddress.{place-written, places-same, places-written}
use Rattle.vt_names.proofs.AddressesAfterClaim.{none-some}

-- ---- the action on a pool

pub record IsPerformed (p : SetState) (action : ActionValue) (result : Option (Result Acted OperatorRefusal)) (pool : Option SetState) : Type 0 where
  pub after : SetState
  pub performs : Performs p action result after
  pub is : pool ≡ Some after

pub performed : (old : Option SetState) (p : SetState) (action : ActionValue) (result : Option (Result Acted OperatorRefusal)) (pool : Option SetState)
    → old ≡ Some p → PerformsAt old action result pool → IsPerformed p action result pool
performed None p action result pool e h = none-some e
performed (Some o) p action result None e h = absurd h
performed (Some o) p action result (Some q) e h =
    record { after = q; performs = subst (λ (x : SetState). Performs x action result q) (same_Some o p e) h; is = refl }

-- ---- the shown set

pub record IsShownAt (pools : ℕ → Option SetState) (shown : Option ℕ) (a : ℕ) : Type 0 where
  pub state : SetState
  pub at : shown ≡ Some a
  pub pool : pools a ≡ Some state

pub shown-at : (pools : ℕ → Option SetState) (shown : Option ℕ) (a : ℕ) → Some a ≡ option_map (λ (found : ℕ × SetState). found.0) (pool_shown_by pools shown) → IsShownAt pools shown a
shown-at pools None a e = none-some (sym e)
shown-at pools (Some b) a e = by (pools b) refl e
  where
    by : (q : Option SetState) → pools b ≡ q → Some a ≡ option_map (λ (found : ℕ × SetState). found.0) (with_pool_at b q) → IsShownAt pools (Some b) a
    by None is e = none-some (sym e)
    by (Some p) is e = let same = same_Some a b e in record { state = p; at = ap Some (sym same); pool = ap pools same ∙ is }

-- No pool is shown.
none-shown : (s : State) (o : Option ℕ) → None ≡ option_map (λ (found : ℕ × SetState). found.0) (pool_shown_by (pool_of s) o) → pool_at s o ≡ None
none-shown s None e = refl
none-shown s (Some b) e = by (pool_of s b) e
  where
    by : (q : Option SetState) → None ≡ option_map (λ (found : ℕ × SetState). found.0) (with_pool_at b q) → q ≡ None
    by None e = refl
    by (Some p) e = none-some e

-- ---- acts at the shown set

idle-shown : (u : State) (o : Option ℕ) (act : Act) → ((a : ℕ) → o ≡ Some a → outcome u.now a (part a u) act ≡ unchanged (part a u))
    → (after_acts u (at_shown o act) ≡ u) × (sent_by_acts u (at_shown o act) ≡ [])
idle-shown u None act idle = (refl, refl)
idle-shown u (Some a) act idle = (
  act-is u a act ∙ ap (λ (after : parts.AddressOutcome). put a after u) (idle a refl) ∙ put-kept a u (unchanged (part a u)) refl refl,
  ap (λ l. l ++ []) (sent_by_one-is u a act ∙ ap (λ (after : parts.AddressOutcome). to_address a after) (idle a refl)),
)

no-action : (now a : ℕ) (p : parts.AddressView) (action : ActionValue) (shown : Bool) (pool : Option SetState) → pool ≡ None → parts.after_operator now a p action shown pool ≡ unchanged p
no-action now a p action shown pool e = ap (parts.after_operator now a p action shown) e

set-idle : (now a : ℕ) (p : parts.AddressView) (address : ℕ) (shown : Bool) (pool : Option SetState) → parts.after_operator now a p (actions.Set address) shown pool ≡ unchanged p
set-idle now a p address shown None = refl
set-idle now a p address shown (Some state) = refl

-- ---- the selection of a set

pub is-there : {X Y : Type 0} (f : X → Y) (o : Option X) (q : Option Y) (b : Bool) → option_map f o ≡ q → is_some o ≡ b → is_some q ≡ b
is-there f None q b e is = ap is_some (sym e) ∙ is
is-there f (Some x) q b e is = ap is_some (sym e) ∙ is

seen-none : (s : State) (o : Option ℕ) (shown : Bool) → pool_at s s.shown ≡ None
    → IfSome o (λ id. IfSome (pool_at s s.shown) (λ state. Decides shown (IsShown state.objects (active_in state.objects) id)))
seen-none s None shown e = tt
seen-none s (Some id) shown e = subst (λ (q : Option SetState). IfSome q (λ state. Decides shown (IsShown state.objects (active_in state.objects) id))) (sym e) tt

module _ (s : State) (address : ℕ) (before : List Output) where
  abbrev selected : State
  selected = selecting s (actions.Set address)

  idle-here : (u : State) → (after_acts u (at_shown s.shown (Operates (actions.Set address) false)) ≡ u) × (sent_by_acts u (at_shown s.shown (Operates (actions.Set address) false)) ≡ [])
  idle-here u = idle-shown u s.shown (Operates (actions.Set address) false) (λ a e. set-idle u.now a (part a u) address false (pool_of u a))

  pub takes-set : is_some (pool_of s address) ≡ true → TakesAction s (actions.Set address) (record s { selected = Some address }) before before
  takes-set is = record {
    shown = false;
    seen = tt;
    state = sym (ap (λ b. cond b (record s { selected = Some address }) s) is) ∙ sym (idle-here selected).0;
    sent =
        sym (append-nil before)
        ∙ sym (λ i. before ++ outputs_of (no_set (not (is i)) ++ (idle-here selected).1 i));
  }

  pub takes-no_set : is_some (pool_of s address) ≡ false → (after : List Output) → after ≡ before ++ declared.Refused faults.NoSet ∷ [] → TakesAction s (actions.Set address) s before after
  takes-no_set is after e = record {
    shown = false;
    seen = tt;
    state = sym (ap (λ b. cond b (record s { selected = Some address }) s) is) ∙ sym (idle-here selected).0;
    sent = e ∙ sym (λ i. before ++ outputs_of (no_set (not (is i)) ++ (idle-here selected).1 i));
  }

-- ---- other actions, on the shown set

pub short-selects : (s : State) (action : ActionValue) → IsShort action → (selecting s action ≡ s) × (has_no_set s action ≡ not (is_some (pool_at s s.shown)))
short-selects s (actions.Press id) short = (refl, refl)
short-selects s (actions.Release id) short = (refl, refl)
short-selects s (actions.Select id) short = (refl, refl)
short-selects s (actions.Number id n) short = (refl, refl)
short-selects s (actions.Text id text) short = (refl, refl)
short-selects s (actions.Set address) short = absurd short

module _ (s : State) (action : ActionValue) (kept : (selecting s action ≡ s) × (has_no_set s action ≡ not (is_some (pool_at s s.shown)))) where
  pub takes-none : None ≡ option_map (λ (found : ℕ × SetState). found.0) (pool_shown s) → (before after : List Output) → after ≡ before ++ declared.Refused faults.NoSet ∷ []
      → TakesAction s action s before after
  takes-none none before after e =
      let empty : pool_at s s.shown ≡ None = none-shown s s.shown none in
      let u = selecting s action in
      let idle = idle-shown u s.shown (Operates action false)
      (λ a at. no-action u.now a (part a u) action false (pool_of u a) (ap (λ (v : State). pool_of v a) kept.0 ∙ ap (pool_at s) (sym at) ∙ empty)) in
      record {
        shown = false;
        seen = seen-none s (object_acted_on action) false empty;
        state = sym kept.0 ∙ sym idle.0;
        sent = e ∙ sym (λ i. before ++ outputs_of (no_set ((kept.1 ∙ ap (λ (q : Option SetState). not (is_some q)) empty) i) ++ idle.1 i));
      }

  -- The outcome of an action on the shown set.
  module _ (a : ℕ) (there : IsShownAt (pool_of s) s.shown a) (shown : Bool) (seen : IsSeenIn there.state (object_acted_on action) shown) where
    abbrev pub came : parts.AddressOutcome
    came = after_action s.now a (part a s) (action_on there.state shown action)

    at-pool : pool_at s s.shown ≡ Some there.state
    at-pool = ap (pool_at s) there.at ∙ there.pool

    act-came : outcome s.now a (part a s) (Operates action shown) ≡ came
    act-came = ap (parts.after_operator s.now a (part a s) action shown) there.pool

    pub takes : (after : parts.AddressOutcome) → came ≡ after → (t : State) → t ≡ put a after s → (before out : List Output) → out ≡ before ++ outputs_of (to_address a after)
        → TakesAction s action t before out
    takes after is t state before out sent = record {
      shown = shown;
      seen = subst (λ (q : Option SetState). IfSome (object_acted_on action) (λ id. IfSome q (λ p. Decides shown (IsShown p.objects (active_in p.objects) id)))) (sym at-pool) seen;
      state =
          state ∙ ap (λ (o : parts.AddressOutcome). put a o s) (sym (act-came ∙ is)) ∙ sym (act-is s a (Operates action shown))
          ∙ (λ i. after_acts (sym kept.0 i) (at_shown (sym there.at i) (Operates action shown)));
      sent =
          sent ∙ ap (λ l. before ++ outputs_of l)
          (sym (append-nil (to_address a after)) ∙ ap (λ (o : parts.AddressOutcome). to_address a o ++ []) (sym (act-came ∙ is))
          ∙ ap (λ l. l ++ []) (sym (sent_by_one-is s a (Operates action shown)))
          ∙ (λ i. no_set (sym (kept.1 ∙ ap (λ (q : Option SetState). not (is_some q)) at-pool) i)
          ++ sent_by_acts (sym kept.0 i) (at_shown (sym there.at i) (Operates action shown))));
    }

    -- The step of a refused action.
    pub takes-refused : (fault : OperatorFault) → came ≡ refused_by (part a s) fault → (t : State) → t ≡ s → (before out : List Output) → out ≡ before ++ declared.Refused fault ∷ []
        → TakesAction s action t before out
    takes-refused fault is t same before out sent =
        takes (refused_by (part a s) fault) is t (same ∙ sym (put-kept a s (refused_by (part a s) fault) refl refl)) before out sent

    -- The step of an action that is done, with a message of one frame.
    pub takes-acts : (message : List ℕ) (start : SetState) (raised : List Raised) → action_on there.state shown action ≡ Some (Acts message start raised) → length message ≤ 8
        → (q : SetState) → q ≡ ran start raised → (t : State) → t ≡ record s { places = with_at a (with_pool (s.places a) (Some q)) s.places }
        → (frames : List Frame) → frames ≡ message_frames s.claims.own a message
        → (before out : List Output) → out ≡ before ++ outputs_of (to_address a (with_place (part a s) (s.places a) frames)) → TakesAction s action t before out
    takes-acts message start raised is short q left t state frames frames-are before out sent =
        let after = with_place (part a s) (with_pool (s.places a) (Some q)) frames in
        takes after
        (ap (after_action s.now a (part a s)) is ∙ short-came s.now a (part a s) message start raised (not-long message short)
        ∙ (λ i. with_place (part a s) (with_pool (s.places a) (Some (sym left i))) (sym frames-are i)))
        t (state ∙ sym (put-place a s after refl)) before out sent

-- ---- a text whose message is sent in packets

would-refuse : (x : ActionResult) (r : OperatorRefusal) → Some r ≡ refusal_of x → x ≡ Refused r
would-refuse (Refused q) r e = ap Refused (sym (same_Some r q e))
would-refuse (Acts message start raised) r e = none-some (sym e)

record IsDone (x : ActionResult) (message : List ℕ) : Type 0 where
  pub start : SetState
  pub raised : List Raised
  pub is : x ≡ Acts message start raised

text-acts : (p : SetState) (id : ℕ) (text : List ℕ) (shown : Bool) → None ≡ refusal_of (enter_text shown p id text) → IsDone (enter_text shown p id text) (text_message id text)
text-acts p id text false e = none-some e
text-acts p id text true e = by (text_place p.objects id text (finite.get p.objects id)) e
  where
    by : (r : Result ℕ OperatorRefusal) → None ≡ refusal_of (text_entered p id text r) → IsDone (text_entered p id text r) (text_message id text)
    by (Err refusal) e = none-some e
    by (Ok place) e = record { start = _; raised = _; is = refl }

fault-at : (old : Option SetState) (p : SetState) (id : ℕ) (text : List ℕ) (result : Option OperatorRefusal) → old ≡ Some p → WouldBeRefused old id text result
    → WouldBeRefused (Some p) id text result
fault-at old p id text result e h = subst (λ (o : Option SetState). WouldBeRefused o id text result) e h

long-text : (id : ℕ) (text : List ℕ) → 4 < length text → is_long (text_message id text) ≡ true
long-text id text long =
    let count : length (text_message id text) ≡ suc (suc (suc (suc (length text)))) = refl in
    let more : 8 < length (text_message id text) = omega arith in
    grind (arith, nat_tests)

module _ (s : State) (a : ℕ) (there : IsShownAt (pool_of s) s.shown a) (id : ℕ) (text : List ℕ) where
  pub takes-fault : (refusal : OperatorRefusal) → WouldBeRefused (pool_of s a) id text (Some refusal) → (t : State) → t ≡ s
      → (before out : List Output) → out ≡ before ++ declared.Refused (fault_of refusal) ∷ [] → TakesAction s (actions.Text id text) t before out
  takes-fault refusal would t same before out sent =
      let w = fault-at (pool_of s a) there.state id text (Some refusal) there.pool would in
      takes-refused s (actions.Text id text) (refl, refl) a there w.0 w.1 (fault_of refusal)
      (ap (λ x. after_action s.now a (part a s) (Some x)) (would-refuse (enter_text w.0 there.state id text) refusal w.2)) t same before out sent

  module _ (would : WouldBeRefused (pool_of s a) id text None) (long : 4 < length text) where
    found : WouldBeRefused (Some there.state) id text None
    found = fault-at (pool_of s a) there.state id text None there.pool would

    done : IsDone (enter_text found.0 there.state id text) (text_message id text)
    done = text-acts there.state id text found.0 found.2

    pub takes-busy : is_some (s.places a).sending ≡ true → (t : State) → t ≡ s
        → (before out : List Output) → out ≡ before ++ declared.Refused faults.Busy ∷ [] → TakesAction s (actions.Text id text) t before out
    takes-busy busy t same before out sent =
        takes-refused s (actions.Text id text) (refl, refl) a there found.0 found.1 faults.Busy
        (ap (λ x. after_action s.now a (part a s) (Some x)) done.is ∙ busy-came s.now a (part a s) (text_message id text) done.start done.raised (long-text id text long) busy)
        t same before out sent

    abbrev pub session : Timed Message
    session = record { last = s.now; session = record { pgn = VT_TO_ECU; bytes = text_message id text } }

    pub takes-long : (s.places a).sending ≡ None → (result : Option (Result Acted OperatorRefusal)) (pool : Option SetState)
        → PerformsAt (pool_of s a) (actions.Text id text) result pool
        → (t : State) → t ≡ record s { places = with_at a (record (with_pool (s.places a) pool) { sending = Some session }) s.places }
        → (frame : Frame) → frame ≡ rts_frame s.claims.own a (length (text_message id text)) VT_TO_ECU
        → (before out : List Output) → out ≡ before ++ declared.Frame frame ∷ [] → TakesAction s (actions.Text id text) t before out
    takes-long free result pool performs t state frame frame-is before out sent =
        let h = performed (pool_of s a) there.state (actions.Text id text) result pool there.pool performs in
        let same : h.performs.shown ≡ found.0 = same_from_decides h.performs.shown found.0 h.performs.seen found.1 in
        let left : h.after ≡ ran done.start done.raised =
        comes-acts there.state h.after (text_message id text) done.start done.raised result
        (subst (λ (x : ActionResult). Comes there.state (Some x) result h.after) (ap (λ b. enter_text b there.state id text) same ∙ done.is) h.performs.comes) in
        let after = with_place (part a s) (record (with_pool (s.places a) pool) { sending = Some session }) (frame ∷ []) in
        takes s (actions.Text id text) (refl, refl) a there found.0 found.1 after
        (ap (λ x. after_action s.now a (part a s) (Some x)) done.is
        ∙ long-came s.now a (part a s) (text_message id text) done.start done.raised (long-text id text long) (ap is_some free)
        ∙ (λ i. with_place (part a s) (record (with_pool (s.places a) (sym (h.is ∙ ap Some left) i)) { sending = Some session }) (sym frame-is i ∷ [])))
        t (state ∙ sym (put-place a s after refl)) before out sent

-- ---- the writes of an action

pub performed-at : (old : Option SetState) (p q : SetState) (action : ActionValue) (result : Option (Result Acted OperatorRefusal)) → old ≡ Some p → Performs p action result q
    → PerformsAt old action result (Some q)
performed-at old p q action result e h = subst (λ (o : Option SetState). PerformsAt o action result (Some q)) (sym e) h

pub pools-written : (pools : List (Option SetState)) (transfers : List (Option Arrived)) (a n : ℕ) (pool : Option SetState) → n ≡ a → a < length pools
    → content_by (slice_set pools n pool) transfers ≡ with_at a (record (content_by pools transfers a) { pool = pool }) (content_by pools transfers)
pools-written pools transfers a n pool is within =
    let written = place-written pools a n pool is within in
    places-written a (content_by pools transfers) (content_by (slice_set pools n pool) transfers) (record (content_by pools transfers a) { pool = pool })
    (λ i. record (content_by pools transfers a) { pool = (ap (λ (f : ℕ → Option SetState). f a) written ∙ at-own a (λ q. get_or pools q None) pool) i })
    (λ b ne. λ i. record (content_by pools transfers b) { pool = (ap (λ (f : ℕ → Option SetState). f b) written ∙ at-other a b (λ q. get_or pools q None) pool ne) i })

module _ (s : State) (contents new : ℕ → SetPool) (node : NodeState) (heard : ℕ → Option ℕ) (is : s.places ≡ places_by contents node heard)
    (a : ℕ) (pool : Option SetState) (written : new ≡ with_at a (record (contents a) { pool = pool }) contents) where
  pub performed-places : places_by new node heard ≡ with_at a (with_pool (s.places a) pool) s.places
  performed-places =
      ap (λ (c : ℕ → SetPool). places_by c node heard) written
      ∙ content-placed contents node heard a (record (contents a) { pool = pool })
      ∙ ap (λ (p : ℕ → AddressState). with_at a (with_pool (p a) pool) p) (sym is)

  pub kept-places : pool ≡ pool_of s a → places_by new node heard ≡ s.places
  kept-places e = performed-places ∙ places-same a s.places (with_pool (s.places a) pool) (λ i. with_pool (s.places a) (sym e i))

  pub started-places : (timed : Timed Message)
      → places_by new (record node { sending = finite.insert node.sending a timed }) heard ≡ with_at a (record (with_pool (s.places a) pool) { sending = Some timed }) s.places
  started-places timed =
      places-written a s.places (places_by new (record node { sending = finite.insert node.sending a timed }) heard) (record (with_pool (s.places a) pool) { sending = Some timed })
      ((λ i. record (places_by contents node heard a) {
        content = (ap (λ (c : ℕ → SetPool). c a) written ∙ at-own a contents (record (contents a) { pool = pool })) i;
        sending = get-put node.sending a timed i;
      })
      ∙ ap (λ (p : ℕ → AddressState). record (with_pool (p a) pool) { sending = Some timed }) (sym is))
      (λ b ne. (λ i. record (places_by contents node heard b) {
        content = (ap (λ (c : ℕ → SetPool). c b) written ∙ at-other a b contents (record (contents a) { pool = pool }) ne) i;
        sending = get-put_other node.sending a b timed ne i;
      })
      ∙ ap (λ (p : ℕ → AddressState). p b) (sym is))

-- ---- calls on the table of pools

-- The step of an action done on the shown set.
module _ (s : State) (contents new : ℕ → SetPool) (node : NodeState) (heard : ℕ → Option ℕ) (is : s.places ≡ places_by contents node heard)
    (action : ActionValue) (short : IsShort action) (a : ℕ) (there : IsShownAt (pool_of s) s.shown a)
    (result : Option (Result Acted OperatorRefusal)) (acted : IsActedOn contents a action result new) where
  abbrev kept : (selecting s action ≡ s) × (has_no_set s action ≡ not (is_some (pool_at s s.shown)))
  kept = short-selects s action short

  same-pool : (contents a).pool ≡ Some there.state
  same-pool = ap (λ (p : ℕ → AddressState). (p a).content.pool) (sym is) ∙ there.pool

  pub takes-act-refused : (refusal : OperatorRefusal) → result ≡ Some (Err refusal) → (before out : List Output) → out ≡ before ++ declared.Refused (fault_of refusal) ∷ []
      → TakesAction s action (record s { places = places_by new node heard }) before out
  takes-act-refused refusal came-to before out sent =
      let h = performed (contents a).pool there.state action (Some (Err refusal)) acted.pool same-pool
      (subst (λ (r : Option (Result Acted OperatorRefusal)). PerformsAt (contents a).pool action r acted.pool) came-to acted.performs) in
      let r = refused-is there.state h.after (action_on there.state h.performs.shown action) refusal h.performs.comes in
      takes-refused s action kept a there h.performs.shown h.performs.seen (fault_of refusal) (ap (after_action s.now a (part a s)) r.0)
      (record s { places = places_by new node heard })
      (ap (λ (p : ℕ → AddressState). record s { places = p }) (kept-places s contents new node heard is a acted.pool acted.content (h.is ∙ ap Some r.1 ∙ sym there.pool)))
      before out sent

  pub takes-act-done : (done : Acted) → result ≡ Some (Ok done) → (frames : List Frame) → (length done.message.items ≤ 8 → frames ≡ message_frames s.claims.own a done.message.items)
      → (before out : List Output) → out ≡ before ++ outputs_of (to_address a (with_place (part a s) (s.places a) frames))
      → TakesAction s action (record s { places = places_by new node heard }) before out
  takes-act-done done came-to frames frames-are before out sent =
      let h = performed (contents a).pool there.state action (Some (Ok done)) acted.pool same-pool
      (subst (λ (r : Option (Result Acted OperatorRefusal)). PerformsAt (contents a).pool action r acted.pool) came-to acted.performs) in
      let x = acting-is there.state h.after (action_on there.state h.performs.shown action) done h.performs.comes in
      let fits = short-message there.state h.performs.shown action done.message.items x.start x.raised short x.is in
      takes-acts s action kept a there h.performs.shown h.performs.seen done.message.items x.start x.raised x.is fits h.after x.left
      (record s { places = places_by new node heard })
      (ap (λ (p : ℕ → AddressState). record s { places = p })
      (performed-places s contents new node heard is a acted.pool acted.content ∙ (λ i. with_at a (with_pool (s.places a) (h.is i)) s.places)))
      frames (frames-are fits) before out sent
