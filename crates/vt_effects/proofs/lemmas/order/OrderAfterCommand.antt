-- No command breaks the order of references and chains.
use Rattle.std.proofs.Common.{◌≡◌, ℕ, Bool, true, false, nat_le, Option, Some, None, Ok, refl, sym, subst}
use Rattle.std.specs.FinMap as finite
use Rattle.vt_commands.specs.declared.command.Command.{Command}
use Rattle.vt_commands.specs.declared.command.Command.TheVariants.{SetVolume}
use Rattle.vt_kinds.specs.Records.{Seen}
use Rattle.vt_stores.specs.Stores.{ObjectMap}
use Rattle.vt_commands.specs.Targets.{object_of}
use Rattle.vt_effects.specs.Changes.{if_passed, left, other_id}
use Rattle.vt_effects.specs.Errors.{bit}
use Rattle.vt_effects.specs.Effects.{without_object, changed_for, changed_by, keeps_order, value_error, in_order, other_kind, effect_on, effect, after}
use Rattle.vt_effects.specs.Soundness.{IsSound}
use Rattle.vt_effects.proofs.lemmas.stores.ObjectBeforeAndAfter.{Changed, Made, changed_case}
use Rattle.vt_effects.proofs.lemmas.order.SlotsInOrder.{slots_in_order}
use Rattle.vt_effects.proofs.lemmas.inclusions.ShortChains.{shallow_after}

-- a command without an object changes nothing
without : (m : ObjectMap) (command : Command) → left m (without_object m command) ≡ m
without m (SetVolume volume) = by (nat_le volume 100)
  where
    by : (b : Bool) → left m (if_passed b (bit 4) m) ≡ m
    by true = refl
    by false = refl
without m _ = refl

-- ---- properties that hold before a command and after each change hold after the command

pub by_changed : (Q : ObjectMap → Type 0) (m : ObjectMap) (command : Command) → Q m → ((id : ℕ) (old new : Seen) → Changed m id old new command → Q (finite.insert m id new))
    → Q (left m (changed_by m command (other_kind m (other_id command))))
by_changed Q m command before of = by (object_of command) refl
  where
    by : (object : Option ℕ) → object_of command ≡ object → Q (left m (changed_for m command (other_kind m (other_id command)) object))
    by None for = subst Q (sym (without m command)) before
    by (Some id) for = changed_case (λ made. Q (left m made)) m id command for (λ error. before) (of id)

by_kept : (Q : ObjectMap → Type 0) (m n : ObjectMap) (command : Command) → Q m → (keeps_order m command n ≡ true → Q n) → Q (left m (in_order m command (Ok n)))
by_kept Q m n command before of = by (keeps_order m command n) refl
  where
    by : (b : Bool) → keeps_order m command n ≡ b → Q (left m (if_passed b (value_error command) n))
    by true kept = of kept
    by false kept = before

pub by_effect : (Q : ObjectMap → Type 0) (m : ObjectMap) (command : Command) → Q m → ((id : ℕ) (old new : Seen) → Made m id old new command → Q (finite.insert m id new))
    → Q (after m command)
unfolding effect
by_effect Q m command before of = by (object_of command) refl
  where
    by : (object : Option ℕ) → object_of command ≡ object → Q (left m (effect_on m command object))
    by None for = subst Q (sym (without m command)) before
    by (Some id) for =
        changed_case (λ made. Q (left m (in_order m command made))) m id command for (λ error. before)
        (λ old new c. by_kept Q m (finite.insert m id new) command before (λ kept. of id old new (record { change = c; kept = kept })))

pub commands_keep_order : (m : ObjectMap) (command : Command) → IsSound m → IsSound (after m command)
commands_keep_order m command sound =
    by_effect IsSound m command sound
    (λ id old new made. record {
      slots = slots_in_order m id old new command made (IsSound.slots sound);
      shallow = shallow_after m id old new command made (IsSound.shallow sound);
    })
