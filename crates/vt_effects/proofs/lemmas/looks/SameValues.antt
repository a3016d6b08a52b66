-- A command that writes what is there already changes nothing.
use Rattle.std.proofs.Common.{◌≡◌, ℕ, ◌==◌, Bool, true, false, nat_le, ◌&&◌, Option, Some, None, Result, Ok, Err, refl, sym, ap}
use Rattle.std.proofs.lemmas.Bool.{eqb-true}
use Rattle.vt_kinds.specs.declared.kind.Kind.{Kind}
use Rattle.vt_kinds.specs.declared.object.Object.TheVariants as objects
use Rattle.vt_commands.specs.declared.command.Command.{Command}
use Rattle.vt_commands.specs.declared.command.Command.TheVariants.{HideShow, EnableDisable, ChangeNumericValue, ChangeActiveMask, DeletePool}
use Rattle.vt_kinds.specs.Records.{Seen}
use Rattle.vt_effects.specs.Changes.{left, if_passed, is_state, with_lowest_bit, changed, hide_show, enable_disable, change_value, change_active_mask}
use Rattle.vt_effects.specs.Fields.{low_byte, low_word}
use Rattle.vt_effects.specs.Looks.{has_hidden_state, has_enabled_state, has_value, has_active, writes_same}

second : (a b : Bool) → (a && b) ≡ true → b ≡ true
second true b e = e
second false b e = absurd cc

-- a test before a change that changes nothing
same_if : (test : Bool) (error : ℕ) (o new : Seen) → new ≡ o → left o (if_passed test error new) ≡ o
same_if true error o new same = same
same_if false error o new same = refl

hidden_same : (state : ℕ) (o : Seen) → has_hidden_state state o ≡ true → left o (hide_show state o) ≡ o
hidden_same state (objects.Container o) is =
    same_if (is_state state) _ (objects.Container o) _ (ap (λ (n : ℕ). objects.Container (record o { hidden = n })) (sym (eqb-true o.hidden _ is)))
hidden_same state _ is = refl

state_same : (state : ℕ) (o : Seen) → has_enabled_state state o ≡ true → left o (enable_disable state o) ≡ o
state_same state (objects.InputBoolean o) is =
    same_if (is_state state) _ (objects.InputBoolean o) _ (ap (λ (n : ℕ). objects.InputBoolean (record o { enabled = n })) (sym (eqb-true o.enabled _ is)))
state_same state (objects.InputString o) is =
    same_if (is_state state) _ (objects.InputString o) _ (ap (λ (n : ℕ). objects.InputString (record o { enabled = n })) (sym (eqb-true o.enabled _ is)))
state_same state (objects.InputNumber o) is =
    same_if (is_state state) _ (objects.InputNumber o) _ (ap (λ (n : ℕ). objects.InputNumber (record o { options_two = n })) (sym (eqb-true o.options_two _ is)))
state_same state (objects.InputList o) is =
    same_if (is_state state) _ (objects.InputList o) _ (ap (λ (n : ℕ). objects.InputList (record o { options = n })) (sym (eqb-true o.options _ is)))
state_same state _ is = refl

value_same : (named : Option Kind) (n : ℕ) (o : Seen) → has_value n o ≡ true → left o (change_value named n o) ≡ o
value_same named n (objects.InputBoolean o) is =
    same_if _ _ (objects.InputBoolean o) _ (ap (λ (v : ℕ). objects.InputBoolean (record o { value = v })) (sym (eqb-true o.value _ is)))
value_same named n (objects.InputNumber o) is =
    same_if _ _ (objects.InputNumber o) _ (ap (λ (v : ℕ). objects.InputNumber (record o { value = v })) (sym (eqb-true o.value _ is)))
value_same named n (objects.InputList o) is =
    same_if _ _ (objects.InputList o) _ (ap (λ (v : ℕ). objects.InputList (record o { value = v })) (sym (eqb-true o.value _ is)))
value_same named n (objects.OutputNumber o) is = ap (λ (v : ℕ). objects.OutputNumber (record o { value = v })) (sym (eqb-true o.value _ is))
value_same named n (objects.Meter o) is = ap (λ (v : ℕ). objects.Meter (record o { value = v })) (sym (eqb-true o.value _ is))
value_same named n (objects.LinearBar o) is = ap (λ (v : ℕ). objects.LinearBar (record o { value = v })) (sym (eqb-true o.value _ is))
value_same named n (objects.ArchedBar o) is = ap (λ (v : ℕ). objects.ArchedBar (record o { value = v })) (sym (eqb-true o.value _ is))
value_same named n (objects.NumberVariable o) is = ap (λ (v : ℕ). objects.NumberVariable (record o { value = v })) (sym (eqb-true o.value _ is))
value_same named n (objects.ObjectPointer o) is =
    same_if _ _ (objects.ObjectPointer o) _ (ap (λ (v : ℕ). objects.ObjectPointer (record o { value = v })) (sym (eqb-true o.value _ is)))
value_same named n _ is = refl

active_same : (named : Option Kind) (mask : ℕ) (o : Seen) → has_active mask o ≡ true → left o (change_active_mask named mask o) ≡ o
active_same named mask (objects.WorkingSet o) is =
    same_if _ _ (objects.WorkingSet o) _ (ap (λ (v : ℕ). objects.WorkingSet (record o { active_mask = v })) (sym (eqb-true o.active_mask _ is)))
active_same named mask _ is = refl

pub object_stays : (command : Command) (named : Option Kind) (o : Seen) → writes_same command o ≡ true → left o (changed command named o) ≡ o
object_stays (HideShow id state) named o is = hidden_same state o (second _ _ is)
object_stays (EnableDisable id state) named o is = state_same state o (second _ _ is)
object_stays (ChangeNumericValue id value) named o is = value_same named value o is
object_stays (ChangeActiveMask set mask) named o is = active_same named mask o is
object_stays DeletePool named o is = absurd cc
object_stays _ named o is = cc
