-- The object of a store before and after a command.
use Rattle.std.proofs.Common.{◌≡◌, ℕ, true, Option, Some, None, Result, Ok, Err, refl, sym, ap, subst, ◌∙◌}
use Rattle.std.specs.List.{AllByRecursion}
use Rattle.std.specs.FinMap as finite
use Rattle.vt_kinds.specs.declared.slot.Slot.{Slot}
use Rattle.vt_commands.specs.declared.command.Command.{Command}
use Rattle.vt_kinds.specs.Records.{Seen, kind_of}
use Rattle.vt_kinds.specs.References.{slots_of}
use Rattle.vt_stores.specs.Stores.{ObjectMap}
use Rattle.vt_commands.specs.Targets.{object_of}
use Rattle.vt_stores.specs.Shapes.{Fixed, fixed}
use Rattle.vt_effects.specs.Changes.{left, other_id, changed}
use Rattle.vt_effects.specs.Effects.{missing_error, keeps_order, other_kind, insert_ok, changed_at, changed_in}
use Rattle.vt_effects.proofs.lemmas.objects.KindAndReferences.{MayWrite, changes_keep, slots_after}

-- the object of an ID before and after a command, before any test of the store's order
pub record Changed (m : ObjectMap) (id : ℕ) (old new : Seen) (command : Command) : Type 0 where
  pub at : finite.get m id ≡ Some old
  pub for : object_of command ≡ Some id
  pub made : ◌≡◌ {A = Result Seen ℕ} (changed command (other_kind m (other_id command)) old) (Ok new)

-- a change that keeps the store in order
pub record Made (m : ObjectMap) (id : ℕ) (old new : Seen) (command : Command) : Type 0 where
  pub change : Changed m id old new command
  pub open change use *
  pub kept : keeps_order m command (finite.insert m id new) ≡ true

pub fixed_same : (m : ObjectMap) (id : ℕ) (old new : Seen) (command : Command) → Changed m id old new command → fixed new ≡ fixed old
fixed_same m id old new command c = ap fixed (sym (ap (left old) c.made)) ∙ changes_keep command (other_kind m (other_id command)) old

pub kinds_same : (m : ObjectMap) (id : ℕ) (old new : Seen) (command : Command) → Changed m id old new command → kind_of new ≡ kind_of old
kinds_same m id old new command c = ap (λ (f : Fixed). f.kind) (fixed_same m id old new command c)

pub slots_made : (P : Slot → Type 0) (m : ObjectMap) (id : ℕ) (old new : Seen) (command : Command) → Changed m id old new command → AllByRecursion P (slots_of old)
    → MayWrite P command (other_kind m (other_id command)) (kind_of old) → AllByRecursion P (slots_of new)
slots_made P m id old new command c before may =
    subst (λ (o : Seen). AllByRecursion P (slots_of o)) (ap (left old) c.made) (slots_after P command (other_kind m (other_id command)) old before may)

-- A property of all errors and of all stores with a changed object holds for the result of a command.
put_case : (Q : Result ObjectMap ℕ → Type 0) (m : ObjectMap) (id : ℕ) (old : Seen) (command : Command) (made : Result Seen ℕ) → finite.get m id ≡ Some old
    → object_of command ≡ Some id → changed command (other_kind m (other_id command)) old ≡ made → ((error : ℕ) → Q (Err error))
    → ((old new : Seen) → Changed m id old new command → Q (Ok (finite.insert m id new))) → Q (insert_ok m id made)
put_case Q m id old command (Err error) at for made failed done = failed error
put_case Q m id old command (Ok new) at for made failed done = done old new (record { at = at; for = for; made = made })

pub changed_case : (Q : Result ObjectMap ℕ → Type 0) (m : ObjectMap) (id : ℕ) (command : Command) → object_of command ≡ Some id → ((error : ℕ) → Q (Err error))
    → ((old new : Seen) → Changed m id old new command → Q (Ok (finite.insert m id new))) → Q (changed_in m id command (other_kind m (other_id command)))
changed_case Q m id command for failed done = by (finite.get m id) refl
  where
    by : (found : Option Seen) → finite.get m id ≡ found → Q (changed_at m id command (other_kind m (other_id command)) found)
    by None at = failed (missing_error command)
    by (Some old) at = put_case Q m id old command _ at for refl failed done
