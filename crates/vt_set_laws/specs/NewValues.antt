-- The events of a new value are raised exactly if an operator's entry changes the objects (docs/PROFILE.md, "The
-- operator").
use Rattle.std.specs.Prelude.{◌≡◌, ◌≢◌, ◌≤◌, ℕ, Bool, true, if◌then◌else◌, List, [], ◌∷◌, length, Decides, Option, Some}
use Rattle.std.specs.FinMap as finite
use Rattle.vt_kinds.specs.declared.object.Object.TheVariants as objects
use Rattle.vt_commands.specs.declared.event.Event.TheVariants as events
use Rattle.vt_commands.specs.declared.raising.Raised.{Raised}
use Rattle.vt_commands.specs.Events.{raise}
use Rattle.vt_kinds.specs.Records.{Seen}
use Rattle.vt_effects.specs.Soundness.{IsSound}
use Rattle.vt_machine.specs.OperatorEntries.{enter_number, enter_text}
use Rattle.vt_machine.specs.SetStates.{SetState}
use Rattle.vt_machine.specs.OperatorActions.{Acts}

-- a list has at most as many items as its record can count
abbrev pub IsCounted : Option Seen → Type 0
IsCounted (Some (objects.InputList o)) = length o.items ≤ 255
IsCounted _ = Unit {0}

-- The events are those of an entry, with those of a new value exactly if the objects have changed.
pub record RaisesOfNew (id : ℕ) (old new : SetState) (raised : List Raised) : Type 0 where
  pub changed : Bool
  pub decides : Decides changed (new.objects ≢ old.objects)
  pub raised_are : raised ≡ raise id events.EntryOfValue
      ∷ (if changed then raise id events.EntryOfNewValue ∷ raise id events.Value ∷ [] else [])

pub record NewValuesAreNew : Type 0 where
  pub numbers : (state start : SetState) (id n : ℕ) (message : List ℕ) (raised : List Raised) → IsSound state.objects
      → IsCounted (finite.get state.objects id) → enter_number true state id n ≡ Acts message start raised → RaisesOfNew id state start raised
  pub texts : (state start : SetState) (id : ℕ) (text message : List ℕ) (raised : List Raised)
      → enter_text true state id text ≡ Acts message start raised → RaisesOfNew id state start raised
