-- The events of a command are those of its table.
use Rattle.std.proofs.Common.{◌≡◌, ◌≢◌, ◌==◌, ◌++◌, ℕ, Bool, true, false, cond, List, [], ◌∷◌, Option, Some, None, Result, Ok, Err, is_ok, refl, sym, ap, subst, ◌∙◌}
use Rattle.std.proofs.lemmas.Bool.{eqb-true, eqb-false, eq-eqb}
use Rattle.std.proofs.lemmas.Option.{same_Some}
use Rattle.std.specs.Option.{option_map}
use Rattle.std.specs.FinMap as finite
use Rattle.vt_kinds.specs.declared.masks.WorkingSet.{WorkingSet}
use Rattle.vt_kinds.specs.declared.kinds.Kinds.TheVariants as sets
use Rattle.vt_kinds.specs.declared.object.Object.TheVariants as objects
use Rattle.vt_kinds.specs.Ids.{null_id}
use Rattle.vt_kinds.specs.Records.{Seen, kind_of}
use Rattle.vt_stores.specs.Stores.{ObjectMap}
use Rattle.vt_commands.specs.declared.command.Command.{Command}
use Rattle.vt_commands.specs.declared.command.Command.TheVariants.{HideShow, EnableDisable, ControlAudio, SetVolume, ChangeChildLocation, ChangeSize, ChangeBackgroundColour, ChangeNumericValue, ChangeEndPoint, ChangeFontAttributes, ChangeLineAttributes, ChangeFillAttributes, ChangeActiveMask, ChangeSoftKeyMask, ChangeAttribute, ChangePriority, ChangeListItem, DeletePool, ChangeStringValue, ChangeChildPosition, ExecuteMacro}
use Rattle.vt_commands.specs.declared.event.Event.TheVariants as events
use Rattle.vt_commands.specs.declared.event.Event.{Event}
use Rattle.vt_commands.specs.Events.{raise, by_state, event_at, row_events}
use Rattle.vt_commands.specs.Commands.{function_of}
use Rattle.vt_commands.specs.Targets.{object_of}
use Rattle.vt_effects.specs.Changes.{is_one_of}
use Rattle.vt_effects.specs.Errors as errors
use Rattle.vt_effects.specs.Effects.{kind_in, effect}
use Rattle.vt_effects.proofs.lemmas.stores.OneChangedObject.{get_there}
use Rattle.vt_macros.specs.Machines as machines
use Rattle.vt_macros.specs.Machines.{mask_of, hide, mask_events, events_of}
use Rattle.vt_set_laws.specs.RaisedEvents.{EventRow, Scene, Whose, IsActive, IsWhose, Holds, AreRaised, action_on, command_on, rows_at, commands_done, pressed, released, selected, entered, EventsAreRaised}
use Rattle.vt_set_laws.specs.RaisedEvents as table
use Rattle.vt_set_laws.proofs.RefusedFaults.{effect_made, effect_missing}

-- ---- the active mask

-- the rows of Change Active Mask
abbrev mask_changed : List EventRow
mask_changed = rows_at commands_done 0xAD

-- the events of a change from a Working Set's active mask to another
pub active_is : (store : ObjectMap) (set mask : ℕ) (o : WorkingSet) → finite.get store set ≡ Some (objects.WorkingSet o)
    → IsActive store set mask
    → o.active_mask ≡ mask
active_is store set mask o at active = ap (λ (found : Option Seen). mask_of found) (sym at ∙ active.is_there) ∙ active.active

mask_table : (scene : Scene) (old new : WorkingSet) (mask : ℕ) → finite.get scene.before scene.object ≡ Some (objects.WorkingSet old)
    → finite.get scene.after scene.object ≡ Some (objects.WorkingSet new) → new.active_mask ≡ mask → mask ≢ null_id
    → AreRaised scene mask_changed (mask_events old.active_mask scene.object mask)
mask_table scene old new mask before after is not_null = by (old.active_mask == mask) refl
  where
    was : old.active_mask ≢ null_id → IsActive scene.before scene.object old.active_mask
    was there = record { working_set = old; is_there = before; active = refl; not_null = there }

    present : IsActive scene.after scene.object mask
    present = record { working_set = new; is_there = after; active = is; not_null = not_null }

    none_null : (id : ℕ) → old.active_mask ≡ null_id → IsActive scene.before scene.object id → ⊥
    none_null id null active = active.not_null (sym (active_is scene.before scene.object id old before active) ∙ null)

    rest : old.active_mask ≢ mask → Holds scene table.OtherMask
    rest differs both one other =
        differs (active_is scene.before scene.object both old before one
        ∙ sym (active_is scene.after scene.object both new after other) ∙ is)

    last : old.active_mask ≢ mask
        → AreRaised scene (table.row 7 table.Own table.Always ∷ table.row 3 table.PresentMask table.OtherMask ∷ [])
        (raise scene.object events.ActiveMask ∷ raise mask events.Show ∷ [])
    last differs = table.raised tt refl refl (table.raised (rest differs) present refl table.end)

    hidden : old.active_mask ≢ mask → (null : Bool) → (old.active_mask == null_id) ≡ null
        → AreRaised scene mask_changed (cond null [] (raise old.active_mask events.Hide ∷ [])
        ++ (raise scene.object events.ActiveMask ∷ raise mask events.Show ∷ []))
    hidden differs true null =
        table.not_raised (λ other id former. none_null id (eqb-true old.active_mask null_id null) former) (last differs)
    hidden differs false there =
        table.raised (rest differs) (was (eqb-false old.active_mask null_id there)) refl (last differs)

    by : (same : Bool) → (old.active_mask == mask) ≡ same
        → AreRaised scene mask_changed (cond same (raise scene.object events.ActiveMask ∷ [])
        (hide old.active_mask ++ row_events (ChangeActiveMask scene.object mask)))
    by true same =
        let e = eqb-true old.active_mask mask same in
        let both = was (λ null. not_null (sym e ∙ null)) in
        let stays = λ (other : Holds scene table.OtherMask). other mask (subst (IsActive scene.before scene.object) e both) present in
        table.not_raised (λ other id former. stays other)
        (table.raised tt refl refl (table.not_raised (λ other id now. stays other) table.end))
    by false differs = hidden (eqb-false old.active_mask mask differs) (old.active_mask == null_id) refl

kind_of_null : (store : ObjectMap) (mask : ℕ) → finite.get store null_id ≡ None → is_one_of sets.Masks (kind_in store mask) ≡ true
    → mask ≢ null_id
kind_of_null store mask none may is =
    let never : false ≡ true =
    sym (ap (λ (found : Option Seen). is_one_of sets.Masks (option_map kind_of found)) (ap (finite.get store) is ∙ none)) ∙ may in
    absurd cc

pub raised_done : (store new : ObjectMap) (command : Command) → ◌≡◌ {A = Result ObjectMap ℕ} (effect store command) (Ok new)
    → machines.raised store command ≡ events_of store command
unfolding machines.raised
raised_done store new command is = ap (λ (r : Result ObjectMap ℕ). cond (is_ok r) (events_of store command) []) is

inserted : {A : Type 0} (one other : A) → ◌≡◌ {A = Result A ℕ} (Ok one) (Ok other) → one ≡ other
inserted one other is = cc

-- a Working Set with another active mask
abbrev with_mask : WorkingSet → ℕ → WorkingSet
with_mask w mask = record w { active_mask = mask }

mask_written : (store new : ObjectMap) (set mask : ℕ) (w : WorkingSet) → finite.get store null_id ≡ None
    → ◌≡◌ {A = Result ObjectMap ℕ} (effect store (ChangeActiveMask set mask)) (Ok new) → finite.get store set ≡ Some (objects.WorkingSet w)
    → (may : Bool) → is_one_of sets.Masks (kind_in store mask) ≡ may
    → AreRaised (command_on set (ChangeActiveMask set mask) store new) mask_changed (mask_events w.active_mask set mask)
mask_written store new set mask w null ends at true may =
    mask_table (command_on set (ChangeActiveMask set mask) store new) w (with_mask w mask) mask at written refl
    (kind_of_null store mask null may)
  where
    made : ◌≡◌ {A = Result ObjectMap ℕ} (effect store (ChangeActiveMask set mask))
        (Ok (finite.insert store set (objects.WorkingSet (with_mask w mask))))
    made =
        effect_made store (ChangeActiveMask set mask) set (objects.WorkingSet w) (Ok (objects.WorkingSet (with_mask w mask))) refl at
        (ap (λ (b : Bool). cond b (Ok (objects.WorkingSet (with_mask w mask))) (Err errors.VALUE)) may)

    written : finite.get new set ≡ Some (objects.WorkingSet (with_mask w mask))
    written =
        ap (λ (n : ObjectMap). finite.get n set) (sym (inserted _ new (sym made ∙ ends)))
        ∙ get_there store set (objects.WorkingSet (with_mask w mask)) set (eq-eqb set set refl)
mask_written store new set mask w null ends at false may =
    let never : ◌≡◌ {A = Result ObjectMap ℕ} (Err errors.VALUE) (Ok new) =
    sym (effect_made store (ChangeActiveMask set mask) set (objects.WorkingSet w) (Err errors.VALUE) refl at
    (ap (λ (b : Bool). cond b (Ok (objects.WorkingSet (with_mask w mask))) (Err errors.VALUE)) may)) ∙ ends in
    absurd cc

mask_found : (store new : ObjectMap) (set mask : ℕ) → finite.get store null_id ≡ None
    → ◌≡◌ {A = Result ObjectMap ℕ} (effect store (ChangeActiveMask set mask)) (Ok new) → (found : Option Seen)
    → finite.get store set ≡ found
    → AreRaised (command_on set (ChangeActiveMask set mask) store new) mask_changed (mask_events (mask_of found) set mask)
mask_found store new set mask null ends (Some (objects.WorkingSet w)) at =
    mask_written store new set mask w null ends at (is_one_of sets.Masks (kind_in store mask)) refl
mask_found store new set mask null ends None at =
    let never : ◌≡◌ {A = Result ObjectMap ℕ} (Err errors.OBJECT) (Ok new) =
    sym (effect_missing store (ChangeActiveMask set mask) set refl at) ∙ ends in
    absurd cc
mask_found store new set mask null ends (Some o) at =
    let never : ◌≡◌ {A = Result ObjectMap ℕ} (Err errors.OBJECT) (Ok new) =
    sym (effect_made store (ChangeActiveMask set mask) set o (Err errors.OBJECT) refl at refl) ∙ ends in
    absurd cc

-- ---- commands

own_event : (scene : Scene) (n id : ℕ) (event : Event) → ◌≡◌ {A = Option ℕ} (Some id) (Some scene.object) → event_at n ≡ Some event
    → AreRaised scene (table.row n table.Own table.Always ∷ []) (raise id event ∷ [])
own_event scene n id event own is = table.raised tt (same_Some id scene.object own) is table.end

-- the first event for state 1, and the second for state 0
event_of_state : (scene : Scene) (on off id state : ℕ) (shown hidden : Event) → ◌≡◌ {A = Option ℕ} (Some id) (Some scene.object)
    → scene.state ≡ Some state → event_at on ≡ Some shown → event_at off ≡ Some hidden
    → AreRaised scene (table.row on table.Own table.StateOne ∷ table.row off table.Own table.StateZero ∷ [])
    (by_state id state hidden shown)
event_of_state scene on off id state shown hidden own is first second = by (state == 1) (state == 0) refl refl
  where
    object : id ≡ scene.object
    object = same_Some id scene.object own

    not_so : (n : ℕ) → (state == n) ≡ false → scene.state ≡ Some n → ⊥
    not_so n differs e = eqb-false state n differs (same_Some state n (sym is ∙ e))

    two : ◌≡◌ {A = Option ℕ} (Some 1) (Some 0) → ⊥
    two e = cc

    by : (one zero : Bool) → (state == 1) ≡ one → (state == 0) ≡ zero
        → AreRaised scene (table.row on table.Own table.StateOne ∷ table.row off table.Own table.StateZero ∷ [])
        (cond one (raise id shown ∷ []) (cond zero (raise id hidden ∷ []) []))
    by true zero one other =
        let so = is ∙ ap Some (eqb-true state 1 one) in
        table.raised so object first (table.not_raised (λ e i o. two (sym so ∙ e)) table.end)
    by false true one other =
        table.not_raised (λ e i o. not_so 1 one e) (table.raised (is ∙ ap Some (eqb-true state 0 other)) object second table.end)
    by false false one other =
        table.not_raised (λ e i o. not_so 1 one e) (table.not_raised (λ e i o. not_so 0 other e) table.end)

-- the rows of a command's function
abbrev rows_of : Command → List EventRow
rows_of command = rows_at commands_done (function_of command)

pub commands : (store new : ObjectMap) (command : Command) (object : ℕ) → finite.get store null_id ≡ None → object_of command ≡ Some object
    → ◌≡◌ {A = Result ObjectMap ℕ} (effect store command) (Ok new)
    → AreRaised (command_on object command store new) (rows_of command) (events_of store command)
commands store new (HideShow id state) object null own ends =
    event_of_state (command_on object (HideShow id state) store new) 3 4 id state events.Show events.Hide own refl refl refl
commands store new (EnableDisable id state) object null own ends =
    event_of_state (command_on object (EnableDisable id state) store new) 5 6 id state events.Enable events.Disable own refl refl refl
commands store new (ChangeChildLocation parent child dx dy) object null own ends =
    own_event (command_on object (ChangeChildLocation parent child dx dy) store new) 14 parent events.ChildLocation own refl
commands store new (ChangeSize id width height) object null own ends =
    own_event (command_on object (ChangeSize id width height) store new) 15 id events.Size own refl
commands store new (ChangeBackgroundColour id colour) object null own ends =
    own_event (command_on object (ChangeBackgroundColour id colour) store new) 10 id events.BackgroundColour own refl
commands store new (ChangeNumericValue id value) object null own ends =
    own_event (command_on object (ChangeNumericValue id value) store new) 16 id events.Value own refl
commands store new (ChangeEndPoint id width height direction) object null own ends =
    own_event (command_on object (ChangeEndPoint id width height direction) store new) 18 id events.EndPoint own refl
commands store new (ChangeFontAttributes id colour size type style) object null own ends =
    own_event (command_on object (ChangeFontAttributes id colour size type style) store new) 11 id events.Font own refl
commands store new (ChangeLineAttributes id colour width art) object null own ends =
    own_event (command_on object (ChangeLineAttributes id colour width art) store new) 12 id events.Line own refl
commands store new (ChangeFillAttributes id type colour pattern) object null own ends =
    own_event (command_on object (ChangeFillAttributes id type colour pattern) store new) 13 id events.Fill own refl
commands store new (ChangeActiveMask set mask) object null own ends =
    subst (λ (id : ℕ). AreRaised (command_on id (ChangeActiveMask set mask) store new) mask_changed
    (events_of store (ChangeActiveMask set mask)))
    (same_Some set object own) (mask_found store new set mask null ends (finite.get store set) refl)
commands store new (ChangeSoftKeyMask type mask keys) object null own ends =
    own_event (command_on object (ChangeSoftKeyMask type mask keys) store new) 8 mask events.SoftKeyMask own refl
commands store new (ChangeAttribute id number value) object null own ends =
    own_event (command_on object (ChangeAttribute id number value) store new) 9 id events.Attribute own refl
commands store new (ChangePriority id priority) object null own ends =
    own_event (command_on object (ChangePriority id priority) store new) 17 id events.Priority own refl
commands store new (ChangeListItem id index item) object null own ends = table.end
commands store new (ChangeStringValue id length text) object null own ends =
    own_event (command_on object (ChangeStringValue id length text) store new) 16 id events.Value own refl
commands store new (ChangeChildPosition parent child x y) object null own ends =
    own_event (command_on object (ChangeChildPosition parent child x y) store new) 26 parent events.ChildPosition own refl
commands store new (ExecuteMacro id) object null own ends =
    own_event (command_on object (ExecuteMacro id) store new) 0 id events.RunByName own refl
commands store new (ControlAudio count frequency on off) object null own ends = absurd cc
commands store new (SetVolume volume) object null own ends = absurd cc
commands store new DeletePool object null own ends = absurd cc

pub without_object : (store : ObjectMap) (command : Command) → object_of command ≡ None → events_of store command ≡ []
without_object store (ControlAudio count frequency on off) is = refl
without_object store (SetVolume volume) is = refl
without_object store DeletePool is = refl
without_object store _ is = absurd cc

pub refused : (store : ObjectMap) (command : Command) (bits : ℕ) → ◌≡◌ {A = Result ObjectMap ℕ} (effect store command) (Err bits)
    → machines.raised store command ≡ []
unfolding machines.raised
refused store command bits is = ap (λ (r : Result ObjectMap ℕ). cond (is_ok r) (events_of store command) []) is
