-- The events of an operator's action are those of its table, and no table leads to two lists of events.
use Rattle.std.proofs.Common.{◌≡◌, ◌≢◌, ◌==◌, ℕ, Bool, true, false, cond, List, [], ◌∷◌, Option, Some, None, refl, sym, ap, ap₂, subst, ◌∙◌}
use Rattle.std.proofs.lemmas.Bool.{both_ways, eqb-true, eqb-false}
use Rattle.std.proofs.lemmas.Option.{same_Some}
use Rattle.std.specs.Prelude.{Decides}
use Rattle.std.specs.FinMap as finite
use Rattle.vt_commands.specs.declared.event.Event.TheVariants as events
use Rattle.vt_commands.specs.declared.raising.Raised.{Raised}
use Rattle.vt_commands.specs.Events.{raise}
use Rattle.vt_effects.specs.Soundness.{IsSound}
use Rattle.vt_machine.specs.declared.live.HeldKey.{HeldKey}
use Rattle.vt_machine.specs.declared.operator.OperatorRefusal.TheVariants as refusals
use Rattle.vt_machine.specs.SetStates.{SetState}
use Rattle.vt_machine.specs.OperatorActions as operator
use Rattle.vt_machine.specs.OperatorActions.{Acts, ActionResult, select_events, select_if, selecting_input, is_enabled, press_with, key_message, holding, held, release_of, or_none}
use Rattle.vt_machine.specs.OperatorEntries.{enter_number, enter_text, entry_events}
use Rattle.vt_set_laws.specs.NewValues.{IsCounted, RaisesOfNew, NewValuesAreNew}
use Rattle.vt_set_laws.specs.RaisedEvents.{EventRow, Scene, Whose, IsActive, IsWhose, Holds, AreRaised, action_on, command_on, rows_at, commands_done, pressed, released, selected, entered, EventsAreRaised}
use Rattle.vt_set_laws.specs.RaisedEvents as table
use Rattle.vt_set_laws.proofs.EventsOfEntries.{acts_raised, new_values}
use Rattle.vt_set_laws.proofs.EventsOfCommands.{active_is, raised_done, commands, without_object, refused}

-- ---- keys

press_events : (state start : SetState) (mask id : ℕ) (made : Option (List ℕ)) (key : Option HeldKey) (message : List ℕ) (es : List Raised)
    → press_with state mask id made key ≡ Acts message start es → AreRaised (action_on id state start) pressed es
press_events state start mask id (Some first) None message es is =
    subst (AreRaised (action_on id state start) pressed)
    (acts_raised first message (holding state (Some (held id mask))) start (raise id events.KeyPress ∷ []) es is)
    (table.raised tt refl refl table.end)
press_events state start mask id (Some first) (Some key) message es is = absurd cc
press_events state start mask id None key message es is = absurd cc

presses : (shown : Bool) (state start : SetState) (mask id : ℕ) (message : List ℕ) (es : List Raised)
    → operator.press shown state mask id ≡ Acts message start es → AreRaised (action_on id state start) pressed es
presses true state start mask id message es is =
    press_events state start mask id (key_message 1 id mask (finite.get state.objects id)) state.key message es is
presses false state start mask id message es is = absurd cc

release_events : (state start : SetState) (id : ℕ) (key : Option HeldKey) (message : List ℕ) (es : List Raised)
    → release_of state id key ≡ Acts message start es → AreRaised (action_on id state start) released es
release_events state start id None message es is = absurd cc
release_events state start id (Some key) message es is = by (key.id == id) is
  where
    first : List ℕ
    first = or_none (key_message 0 id key.mask (finite.get state.objects id))

    by : (own : Bool)
        → cond own (Acts first (holding state None) (raise id events.KeyRelease ∷ [])) (operator.Refused refusals.NotPressed)
        ≡ Acts message start es
        → AreRaised (action_on id state start) released es
    by true ends =
        subst (AreRaised (action_on id state start) released)
        (acts_raised first message (holding state None) start (raise id events.KeyRelease ∷ []) es ends)
        (table.raised tt refl refl table.end)
    by false ends = absurd cc

releases : (state start : SetState) (id : ℕ) (message : List ℕ) (es : List Raised)
    → operator.release state id ≡ Acts message start es → AreRaised (action_on id state start) released es
releases state start id message es is = release_events state start id state.key message es is

-- ---- inputs

selected_events : (scene : Scene) (input : Option ℕ) → scene.input ≡ input → AreRaised scene selected (select_events scene.object input)
selected_events scene None is =
    table.not_raised (λ other id former. none_some id (sym is ∙ former))
    (table.raised (λ same. none_some scene.object (sym is ∙ same)) refl refl table.end)
  where
    none_some : (n : ℕ) → None ≡ Some n → ⊥
    none_some n e = cc
selected_events scene (Some old) is = by (old == scene.object) refl
  where
    by : (same : Bool) → (old == scene.object) ≡ same
        → AreRaised scene selected (cond same [] (raise old events.InputDeselected ∷ raise scene.object events.InputSelected ∷ []))
    by true same =
        let again = is ∙ ap Some (eqb-true old scene.object same) in
        table.not_raised (λ other id former. other again) (table.not_raised (λ other id own. other again) table.end)
    by false differs =
        let other = λ (e : scene.input ≡ Some scene.object). eqb-false old scene.object differs (same_Some old scene.object (sym is ∙ e)) in
        table.raised other is refl (table.raised other refl refl table.end)

select_result : (state start : SetState) (id : ℕ) (enabled : Option Bool) (message : List ℕ) (es : List Raised)
    → select_if state id enabled ≡ Acts message start es → AreRaised (action_on id state start) selected es
select_result state start id None message es is = absurd cc
select_result state start id (Some false) message es is = absurd cc
select_result state start id (Some true) message es is =
    subst (AreRaised (action_on id state start) selected)
    (acts_raised [] message (selecting_input state id) start (select_events id state.input) es is)
    (selected_events (action_on id state start) state.input refl)

selections : (shown : Bool) (state start : SetState) (id : ℕ) (message : List ℕ) (es : List Raised)
    → operator.select shown state id ≡ Acts message start es → AreRaised (action_on id state start) selected es
selections true state start id message es is = select_result state start id (is_enabled (finite.get state.objects id)) message es is
selections false state start id message es is = absurd cc

-- ---- entries

entered_events : (scene : Scene) (changed : Bool) → Decides changed (scene.after ≢ scene.before)
    → AreRaised scene entered (entry_events scene.object changed)
entered_events scene true decides =
    let other = decides.0 refl in
    table.raised tt refl refl (table.raised other refl refl (table.raised other refl refl table.end))
entered_events scene false decides =
    table.raised tt refl refl (table.not_raised (λ other id own. both_ways false refl (decides.1 other))
    (table.not_raised (λ other id own. both_ways false refl (decides.1 other)) table.end))

of_new : (state start : SetState) (id : ℕ) (es : List Raised) → RaisesOfNew id state start es
    → AreRaised (action_on id state start) entered es
of_new state start id es new =
    subst (AreRaised (action_on id state start) entered) (sym new.raised_are)
    (entered_events (action_on id state start) new.changed new.decides)

numbers : (shown : Bool) (state start : SetState) (id n : ℕ) (message : List ℕ) (es : List Raised) → IsSound state.objects
    → IsCounted (finite.get state.objects id) → enter_number shown state id n ≡ Acts message start es
    → AreRaised (action_on id state start) entered es
numbers true state start id n message es sound counted is =
    of_new state start id es (NewValuesAreNew.numbers new_values state start id n message es sound counted is)
numbers false state start id n message es sound counted is = absurd cc

texts : (shown : Bool) (state start : SetState) (id : ℕ) (text message : List ℕ) (es : List Raised)
    → enter_text shown state id text ≡ Acts message start es → AreRaised (action_on id state start) entered es
texts true state start id text message es is =
    of_new state start id es (NewValuesAreNew.texts new_values state start id text message es is)
texts false state start id text message es is = absurd cc

-- ---- one list for a table

same_whose : (scene : Scene) (whose : Whose) (id other : ℕ) → IsWhose scene whose id → IsWhose scene whose other → id ≡ other
same_whose scene table.Own id other one two = one ∙ sym two
same_whose scene table.FormerInput id other one two = same_Some id other (sym one ∙ two)
same_whose scene table.FormerMask id other one two =
    sym one.active ∙ active_is scene.before scene.object other one.working_set one.is_there two
same_whose scene table.PresentMask id other one two =
    sym one.active ∙ active_is scene.after scene.object other one.working_set one.is_there two

one_list : (scene : Scene) (rows : List EventRow) (es fs : List Raised) → AreRaised scene rows es → AreRaised scene rows fs → es ≡ fs
one_list scene [] [] [] table.end table.end = refl
one_list scene [] [] (f ∷ fs) one other = elim other [ ]
one_list scene [] (e ∷ es) fs one other = elim one [ ]
one_list scene (r ∷ rows) (e ∷ es) (f ∷ fs) (table.raised holds own at rest) (table.raised too its there left) =
    ap₂ (λ (x : Raised) (xs : List Raised). x ∷ xs)
    (ap₂ raise (same_whose scene r.whose e.id f.id own its) (same_Some e.event f.event (sym at ∙ there)))
    (one_list scene rows es fs rest left)
one_list scene (r ∷ rows) (e ∷ es) fs (table.raised holds own at rest) (table.not_raised never left) = absurd (never holds e.id own)
one_list scene (r ∷ rows) es (f ∷ fs) (table.not_raised never rest) (table.raised holds own at left) = absurd (never holds f.id own)
one_list scene (r ∷ rows) es fs (table.not_raised never rest) (table.not_raised nor left) = one_list scene rows es fs rest left

pub events_raised : EventsAreRaised
events_raised = record {
  presses = presses;
  releases = releases;
  selections = selections;
  numbers = numbers;
  texts = texts;
  commands = commands;
  without_object = without_object;
  done = raised_done;
  refused = refused;
  one_list = one_list;
}
