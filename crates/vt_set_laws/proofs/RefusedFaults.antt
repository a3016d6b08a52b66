-- In a store in order a command has a fault exactly if it is refused for one of its IDs.
use Rattle.std.proofs.Common.{◌≡◌, ◌<◌, ◌++◌, ℕ, zero, suc, Bool, true, false, eqb, List, [], ◌∷◌, length, map, Option, Some, None, Result, Ok, Err, refl, sym, ap, ◌∙◌, arith, true≢false}
use Rattle.std.proofs.lemmas.Bool.{eqb-true, eq-eqb, or_left, or_right, false_from_ne_true}
use Rattle.std.proofs.lemmas.Map.Views.{Contains-from_any}
use Rattle.std.specs.Prelude.{Contains, slice_index_or}
use Rattle.std.specs.List.{list_any}
use Rattle.std.specs.FinMap as finite
use Rattle.vt_kinds.specs.declared.kind.Kind.{Kind}
use Rattle.vt_kinds.specs.declared.fields.Attribute.{Attribute}
use Rattle.vt_kinds.specs.declared.fields.ValueType.{ValueType}
use Rattle.vt_kinds.specs.declared.fields.ValueType.TheVariants as types
use Rattle.vt_kinds.specs.declared.object.Object.TheVariants as objects
use Rattle.vt_kinds.specs.Attributes.{attribute_at}
use Rattle.vt_kinds.specs.Ids.{null_id}
use Rattle.vt_kinds.specs.Records.{Seen, kind_of}
use Rattle.vt_commands.specs.declared.command.Command.{Command}
use Rattle.vt_commands.specs.declared.command.Command.TheVariants.{ChangeNumericValue, ChangeAttribute}
use Rattle.vt_commands.specs.declared.target.Target.{Target}
use Rattle.vt_commands.specs.Targets.{object_of, attribute_value, referred, targets}
use Rattle.vt_stores.specs.Stores.{ObjectMap}
use Rattle.vt_effects.specs.Fields.{low_word}
use Rattle.vt_effects.specs.Changes.{if_passed, other_id, changed}
use Rattle.vt_effects.specs.Effects.{missing_error, insert_ok, changed_at, changed_for, keeps_order, value_error, in_order, other_kind, effect_on, effect}
use Rattle.vt_effects.specs.Soundness.{IsSound, shape_in}
use Rattle.vt_macros.specs.Machines.{Stuck, fault}
use Rattle.vt_set_laws.specs.FaultsOfCommands.{is_id, is_reference, has_other, id_errors, earlier_errors, HasOtherCause, HasNoFault, IsForId, IsRefused, later_ids, second_ids, FaultsAreRefusals}
use Rattle.vt_set_laws.specs.FaultsOfCommands as faults
use Rattle.vt_set_laws.proofs.StandingTargets.{all_stand, faultless_if, stand_if, faultless_without, missing_falls, all_own}
use Rattle.vt_set_laws.proofs.JudgedChanges.{IsRefusal, IsJudged, judges}

-- an element is found by its number
among_at : (n : ℕ) (ns : List ℕ) (place : ℕ) → place < length ns → slice_index_or ns place n ≡ n → list_any (eqb n) ns ≡ true
among_at n [] place lt is = absurd (omega (arith, lt))
among_at n (x ∷ ns) zero lt is = or_left (eqb n x) (list_any (eqb n) ns) (eq-eqb n x (sym is))
among_at n (x ∷ ns) (suc place) lt is = or_right (eqb n x) (list_any (eqb n) ns) (among_at n ns place (omega (arith, lt)) is)

among : (n : ℕ) (ns : List ℕ) → Contains ns n → list_any (eqb n) ns ≡ true
among n ns inside = among_at n ns inside.0 inside.1 inside.2

same_error : {A : Type 0} (one error : ℕ) → ◌≡◌ {A = Result A ℕ} (Err one) (Err error) → one ≡ error
same_error one error is = cc

failed : (test : Bool) (fails error : ℕ) (new : ObjectMap) → ◌≡◌ {A = Result ObjectMap ℕ} (if_passed test fails new) (Err error)
    → test ≡ false
failed true fails error new is = absurd cc
failed false fails error new is = refl

-- ---- the effect of a command with an object

abbrev made_of : ObjectMap → Command → Seen → Result Seen ℕ
made_of m command o = changed command (other_kind m (other_id command)) o

effect_found : (m : ObjectMap) (command : Command) (id : ℕ) (found : Option Seen) → object_of command ≡ Some id → finite.get m id ≡ found
    → ◌≡◌ {A = Result ObjectMap ℕ} (effect m command) (in_order m command (changed_at m id command (other_kind m (other_id command)) found))
unfolding effect
effect_found m command id found names at =
    ap (effect_on m command) names
    ∙ ap (λ (o : Option Seen). in_order m command (changed_at m id command (other_kind m (other_id command)) o)) at

pub effect_missing : (m : ObjectMap) (command : Command) (id : ℕ) → object_of command ≡ Some id → finite.get m id ≡ None
    → ◌≡◌ {A = Result ObjectMap ℕ} (effect m command) (Err (missing_error command))
effect_missing m command id names at = effect_found m command id None names at

-- the result of a change is that of the command, unless the changed store is not in order
pub effect_made : (m : ObjectMap) (command : Command) (id : ℕ) (o : Seen) (made : Result Seen ℕ) → object_of command ≡ Some id
    → finite.get m id ≡ Some o
    → made_of m command o ≡ made → ◌≡◌ {A = Result ObjectMap ℕ} (effect m command) (in_order m command (insert_ok m id made))
effect_made m command id o made names at is =
    effect_found m command id (Some o) names at ∙ ap (λ (r : Result Seen ℕ). in_order m command (insert_ok m id r)) is

-- ---- a command that is done

found_done : (m n : ObjectMap) (command : Command) (id : ℕ) → IsSound m → finite.get m null_id ≡ None → object_of command ≡ Some id
    → ◌≡◌ {A = Result ObjectMap ℕ} (effect m command) (Ok n) → (found : Option Seen) → finite.get m id ≡ found
    → fault (shape_in m) command ≡ None
found_done m n command id sound null names ends None at =
    let never : ◌≡◌ {A = Result ObjectMap ℕ} (Err (missing_error command)) (Ok n) = sym (effect_missing m command id names at) ∙ ends in
    absurd cc
found_done m n command id sound null names ends (Some o) at = by (all_stand m command) refl
  where
    by : (b : Bool) → all_stand m command ≡ b → fault (shape_in m) command ≡ None
    by true all = faultless_if m command all
    by false falls =
        let refusal = IsJudged.refused (judges m id sound null command o at) (sym (all_own m command id o null names at) ∙ falls) in
        let never : ◌≡◌ {A = Result ObjectMap ℕ} (Err (IsRefusal.error refusal)) (Ok n) =
        sym (effect_made m command id o (Err (IsRefusal.error refusal)) names at (IsRefusal.is refusal)) ∙ ends in
        absurd cc

done_faultless : (m n : ObjectMap) (command : Command) → IsSound m → finite.get m null_id ≡ None
    → ◌≡◌ {A = Result ObjectMap ℕ} (effect m command) (Ok n) → fault (shape_in m) command ≡ None
done_faultless m n command sound null ends = by (object_of command) refl
  where
    by : (object : Option ℕ) → object_of command ≡ object → fault (shape_in m) command ≡ None
    by None names = faultless_without m command names
    by (Some id) names = found_done m n command id sound null names ends (finite.get m id) refl

-- ---- a command without a fault

-- what a refusal for an ID has as its cause
cause : (m : ObjectMap) (command : Command) (id error : ℕ) (o : Seen) → IsSound m → finite.get m null_id ≡ None
    → object_of command ≡ Some id
    → finite.get m id ≡ Some o → all_stand m command ≡ true → ◌≡◌ {A = Result ObjectMap ℕ} (effect m command) (Err error)
    → Contains (id_errors command o) error → HasOtherCause m command o
cause m command id error o sound null names at all ends inside =
    by (made_of m command o) refl (sym (effect_made m command id o (made_of m command o) names at refl) ∙ ends)
  where
    by : (made : Result Seen ℕ) → made_of m command o ≡ made
        → ◌≡◌ {A = Result ObjectMap ℕ} (in_order m command (insert_ok m id made)) (Err error)
        → HasOtherCause m command o
    by (Ok new) is ended =
        faults.order (ap (changed_for m command (other_kind m (other_id command))) names
        ∙ ap (changed_at m id command (other_kind m (other_id command))) at ∙ ap (insert_ok m id) is)
        (failed (keeps_order m command (finite.insert m id new)) (value_error command) error (finite.insert m id new) ended)
    by (Err fails) is ended =
        faults.object (IsJudged.quiet (judges m id sound null command o at) (sym (all_own m command id o null names at) ∙ all) error
        (is ∙ ap (λ (n : ℕ). Err n) (same_error fails error ended)) (among error (id_errors command o) inside))

found_faultless : (m : ObjectMap) (command : Command) (id error : ℕ) → IsSound m → finite.get m null_id ≡ None → object_of command ≡ Some id
    → all_stand m command ≡ true → ◌≡◌ {A = Result ObjectMap ℕ} (effect m command) (Err error) → (found : Option Seen)
    → finite.get m id ≡ found
    → HasNoFault m command id error
found_faultless m command id error sound null names all ends None at = absurd (true≢false (sym all ∙ missing_falls m command id names at))
found_faultless m command id error sound null names all ends (Some o) at =
    record { object = o; is_there = at; cause = cause m command id error o sound null names at all ends }

faultless : (m : ObjectMap) (command : Command) (id error : ℕ) → IsSound m → finite.get m null_id ≡ None → object_of command ≡ Some id
    → fault (shape_in m) command ≡ None → ◌≡◌ {A = Result ObjectMap ℕ} (effect m command) (Err error) → HasNoFault m command id error
faultless m command id error sound null names none ends =
    found_faultless m command id error sound null names (stand_if m command none) ends (finite.get m id) refl

-- ---- a command with a fault

-- a target of a command with a fault does not stand
falls_by : (m : ObjectMap) (command : Command) (why : Stuck) → fault (shape_in m) command ≡ Some why → all_stand m command ≡ false
falls_by m command why is = false_from_ne_true (all_stand m command) (λ all. none (faultless_if m command all))
  where
    none : fault (shape_in m) command ≡ None → ⊥
    none e =
        let never : None ≡ Some why = sym e ∙ is in
        absurd cc

found_faulty : (m : ObjectMap) (command : Command) (id : ℕ) → IsSound m → finite.get m null_id ≡ None → object_of command ≡ Some id
    → all_stand m command ≡ false → (found : Option Seen) → finite.get m id ≡ found → IsRefused m command
found_faulty m command id sound null names falls None at =
    record { error = missing_error command; refused = effect_missing m command id names at; for_id = faults.missing names at }
found_faulty m command id sound null names falls (Some o) at =
    let refusal = IsJudged.refused (judges m id sound null command o at) (sym (all_own m command id o null names at) ∙ falls) in
    record {
      error = IsRefusal.error refusal;
      refused = effect_made m command id o (Err (IsRefusal.error refusal)) names at (IsRefusal.is refusal);
      for_id =
          faults.wrong names at
          (Contains-from_any eqb-true (IsRefusal.error refusal) (id_errors command o ++ earlier_errors command) (IsRefusal.among refusal));
    }

faulty : (m : ObjectMap) (command : Command) (why : Stuck) → IsSound m → finite.get m null_id ≡ None → fault (shape_in m) command ≡ Some why
    → IsRefused m command
faulty m command why sound null is = by (object_of command) refl
  where
    by : (object : Option ℕ) → object_of command ≡ object → IsRefused m command
    by None names =
        let never : None ≡ Some why = sym (faultless_without m command names) ∙ is in
        absurd cc
    by (Some id) names = found_faulty m command id sound null names (falls_by m command why is) (finite.get m id) refl

-- ---- the second ID of a command

value_ids : (kind : Kind) (type : ValueType) (value : ℕ)
    → map (λ (t : Target). t.id) (referred kind type value) ≡ second_ids (is_id type) (Some (low_word value))
value_ids kind (types.Reference place) value = refl
value_ids kind _ value = refl

attribute_ids : (kind : Kind) (attribute : Option Attribute) (value : ℕ)
    → map (λ (t : Target). t.id) (attribute_value kind attribute value) ≡ second_ids (is_reference attribute) (Some (low_word value))
attribute_ids kind None value = refl
attribute_ids kind (Some attribute) value = value_ids kind attribute.value_type value

others : (command : Command) (o : Seen)
    → later_ids (targets (Some (kind_of o)) command) ≡ second_ids (has_other command o) (other_id command)
others (ChangeNumericValue id value) (objects.ObjectPointer o) = refl
others (ChangeNumericValue id value) _ = refl
others (ChangeAttribute id number value) o = attribute_ids (kind_of o) (attribute_at (kind_of o) number) value
others _ o = refl

pub faults_refused : FaultsAreRefusals
faults_refused = record {
  done = λ store new command. done_faultless store new command;
  faultless = faultless;
  faulty = faulty;
  others = others;
}
