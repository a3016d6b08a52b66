-- An entry of the operator raises the events of a new value exactly if it changes the objects.
use Rattle.std.proofs.Common.{◌≡◌, ◌≢◌, ◌≤◌, ◌<◌, ◌%◌, ◌==◌, ◌&&◌, ℕ, Bool, true, false, not, cond, eqb, List, length, Option, Some, None, Result, Ok, Err, refl, sym, ap, subst, ◌∙◌, arith, mod-eq_of_lt}
use Rattle.std.proofs.lemmas.Bool.{and_parts, both_ways, false_from_ne_true, not-true, not_from_false, eqb-true, eq-eqb, leb-true, ltb-true}
use Rattle.std.proofs.lemmas.Bool.Decides.{Decides-like}
use Rattle.std.proofs.lemmas.Option.{same_Some}
use Rattle.std.specs.Prelude.{Decides, IsTrue, nat_le, nat_lt}
use Rattle.std.specs.Option.{option_map}
use Rattle.std.specs.Cmp.{nat_cmp_total}
use Rattle.std.specs.FinMap as finite
use Rattle.vt_kinds.specs.declared.kind.Kind.{Kind}
use Rattle.vt_kinds.specs.declared.kind.Kind.TheVariants as kinds
use Rattle.vt_kinds.specs.declared.kinds.Kinds.{Kinds}
use Rattle.vt_kinds.specs.declared.kinds.Kinds.TheVariants as sets
use Rattle.vt_kinds.specs.declared.place.Place.TheVariants as places
use Rattle.vt_kinds.specs.declared.input_fields.InputBoolean.{InputBoolean}
use Rattle.vt_kinds.specs.declared.input_fields.InputNumber.{InputNumber}
use Rattle.vt_kinds.specs.declared.input_fields.InputList.{InputList}
use Rattle.vt_kinds.specs.declared.input_fields.InputString.{InputString}
use Rattle.vt_kinds.specs.declared.variables.NumberVariable.{NumberVariable}
use Rattle.vt_kinds.specs.declared.variables.StringVariable.{StringVariable}
use Rattle.vt_kinds.specs.declared.object.Object.TheVariants as objects
use Rattle.vt_kinds.specs.Ids.{null_id}
use Rattle.vt_kinds.specs.Records.{Seen, kind_of}
use Rattle.vt_kinds.specs.References.{allowed, slot}
use Rattle.vt_kinds.specs.Texts.{filled_up}
use Rattle.vt_commands.specs.declared.raising.Raised.{Raised}
use Rattle.vt_stores.specs.Stores.{ObjectMap}
use Rattle.vt_effects.specs.Fields.{low_byte}
use Rattle.vt_effects.specs.Changes.{is_one_of}
use Rattle.vt_effects.specs.Effects.{kind_in, pointer_value}
use Rattle.vt_effects.specs.Soundness.{IsSound, is_in_order, value_fits}
use Rattle.vt_effects.proofs.lemmas.stores.OneChangedObject.{get_there, get_other, first_of}
use Rattle.vt_machine.specs.declared.operator.OperatorRefusal.{OperatorRefusal}
use Rattle.vt_machine.specs.declared.operator.OperatorRefusal.TheVariants as refusals
use Rattle.vt_machine.specs.OperatorEntries.{kept_at, entry_events, put_at, number_of, with_number, is_number, place_if, number_place, number_entered, enter_number, text_of, with_text, text_in, text_at, text_fits, same_text, text_place, text_entered, enter_text}
use Rattle.vt_machine.specs.SetStates.{SetState, with_objects}
use Rattle.vt_machine.specs.OperatorActions.{Acts}
use Rattle.vt_set_laws.specs.NewValues.{IsCounted, RaisesOfNew, NewValuesAreNew}
use Rattle.vt_set_laws.proofs.FilledTexts.{filled_decides}

-- ---- replaced objects

-- replacing an object by itself changes nothing
insert_same : (m : ObjectMap) (id : ℕ) (o : Seen) → finite.get m id ≡ Some o → finite.insert m id o ≡ m
insert_same m id o at = finite.same_map nat_cmp_total finite.nat_cmp-IsAntisymmetric _ _ (λ q. by q (eqb q id) refl)
  where
    by : (q : ℕ) (b : Bool) → eqb q id ≡ b → finite.get (finite.insert m id o) q ≡ finite.get m q
    by q true same = get_there m id o q same ∙ sym at ∙ ap (finite.get m) (sym (eqb-true q id same))
    by q false other = get_other m id o q other

-- only an equal object leaves the store unchanged
inserted_is : (m : ObjectMap) (id : ℕ) (o new : Seen) → finite.get m id ≡ Some o → finite.insert m id new ≡ m → new ≡ o
inserted_is m id o new at is =
    same_Some new o (sym (get_there m id new id (eq-eqb id id refl)) ∙ ap (λ (n : ObjectMap). finite.get n id) is ∙ at)

-- a test whether a change leaves the object unchanged decides whether it leaves the store unchanged
decides_put : (m : ObjectMap) (id : ℕ) (change : Seen → Seen) (o : Seen) (b : Bool) → finite.get m id ≡ Some o → Decides b (change o ≡ o)
    → Decides (not b) (put_at m id change (finite.get m id) ≢ m)
decides_put m id change o b at decides =
    subst (λ (found : Option Seen). Decides (not b) (put_at m id change found ≢ m)) (sym at) (
      (λ other is. both_ways b (not-true b other) (decides.1 (inserted_is m id o (change o) at is))),
      (λ other. not_from_false b (false_from_ne_true b (λ same. other (ap (finite.insert m id) (decides.0 same) ∙ insert_same m id o at)))),
    )

acts_state : (first message : List ℕ) (state start : SetState) (raised others : List Raised)
    → Acts first state raised ≡ Acts message start others → state ≡ start
acts_state first message state start raised others is = cc

pub acts_raised : (first message : List ℕ) (state start : SetState) (raised others : List Raised)
    → Acts first state raised ≡ Acts message start others → raised ≡ others
acts_raised first message state start raised others is = cc

-- the object of an ID, and a test whether a change leaves it unchanged
record IsKept (m : ObjectMap) (at : ℕ) (change : Seen → Seen) (test : Option Seen → Bool) : Type 0 where
  object : Seen
  there : finite.get m at ≡ Some object
  decides : Decides (test (Some object)) (change object ≡ object)

raises : (state start : SetState) (id at : ℕ) (change : Seen → Seen) (test : Option Seen → Bool) (first message : List ℕ) (raised : List Raised)
    → IsKept state.objects at change test
    → Acts first (with_objects state (put_at state.objects at change (finite.get state.objects at)))
    (entry_events id (not (test (finite.get state.objects at)))) ≡ Acts message start raised → RaisesOfNew id state start raised
raises state start id at change test first message raised kept is =
    let m = state.objects in
    let changed = not (test (finite.get m at)) in
    record {
      changed = changed;
      decides =
          subst (λ (new : SetState). Decides changed (new.objects ≢ m))
          (acts_state first message (with_objects state (put_at m at change (finite.get m at))) start (entry_events id changed) raised is)
          (decides_put m at change kept.object (test (finite.get m at)) kept.there
          (subst (λ (found : Option Seen). Decides (test found) (change kept.object ≡ kept.object)) (sym kept.there) kept.decides));
      raised_are = sym (acts_raised first message (with_objects state (put_at m at change (finite.get m at))) start (entry_events id changed) raised is);
    }

placed : (enabled passes : Bool) (refusal : OperatorRefusal) (place at : ℕ) → place_if enabled passes refusal place ≡ Ok at
    → (passes ≡ true) × (place ≡ at)
placed true true refusal place at is = (refl, ok_same place at is)
  where
    ok_same : (n m : ℕ) → ◌≡◌ {A = Result ℕ OperatorRefusal} (Ok n) (Ok m) → n ≡ m
    ok_same n m e = cc
placed true false refusal place at is = absurd cc
placed false passes refusal place at is = absurd cc

-- ---- numbers

-- the new number is the object's own exactly if the object is unchanged
by_value : (n value : ℕ) (o new : Seen) → number_of o ≡ Some value → number_of new ≡ Some n → (n ≡ value → new ≡ o)
    → Decides (value == n) (new ≡ o)
by_value n value o new has gets same =
    ((λ e. same (sym (eqb-true value n e))), (λ e. eq-eqb value n (same_Some value n (sym has ∙ ap number_of (sym e) ∙ gets))))

one_byte : (n : ℕ) → n < 256 → low_byte n ≡ n
one_byte n lt = mod-eq_of_lt lt

boolean_decides : (n : ℕ) (o : InputBoolean) → n < 256
    → Decides (is_number n (Some (objects.InputBoolean o))) (with_number n (objects.InputBoolean o) ≡ objects.InputBoolean o)
boolean_decides n o lt =
    by_value n o.value (objects.InputBoolean o) (with_number n (objects.InputBoolean o)) refl (ap Some (one_byte n lt))
    (λ e. ap (λ (v : ℕ). objects.InputBoolean (record o { value = v })) (one_byte n lt ∙ e))

list_decides : (n : ℕ) (o : InputList) → n < 256
    → Decides (is_number n (Some (objects.InputList o))) (with_number n (objects.InputList o) ≡ objects.InputList o)
list_decides n o lt =
    by_value n o.value (objects.InputList o) (with_number n (objects.InputList o)) refl (ap Some (one_byte n lt))
    (λ e. ap (λ (v : ℕ). objects.InputList (record o { value = v })) (one_byte n lt ∙ e))

number_decides : (n : ℕ) (o : InputNumber)
    → Decides (is_number n (Some (objects.InputNumber o))) (with_number n (objects.InputNumber o) ≡ objects.InputNumber o)
number_decides n o =
    by_value n o.value (objects.InputNumber o) (with_number n (objects.InputNumber o)) refl refl
    (λ e. ap (λ (v : ℕ). objects.InputNumber (record o { value = v })) e)

variable_decides : (n : ℕ) (o : NumberVariable)
    → Decides (is_number n (Some (objects.NumberVariable o))) (with_number n (objects.NumberVariable o) ≡ objects.NumberVariable o)
variable_decides n o =
    by_value n o.value (objects.NumberVariable o) (with_number n (objects.NumberVariable o)) refl refl
    (λ e. ap (λ (v : ℕ). objects.NumberVariable (record o { value = v })) e)

number_variable : (found : Option Seen) → is_one_of sets.NumberVariables (option_map kind_of found) ≡ true
    → (o : NumberVariable) × (found ≡ Some (objects.NumberVariable o))
number_variable None is = absurd cc
number_variable (Some (objects.NumberVariable o)) is = (o, refl)
number_variable (Some o) is = absurd cc

-- a number is stored in the input, or in the Number Variable of the input
number_kept : (m : ObjectMap) (id n : ℕ) (input : Seen) (kind : Kind) (variable at : ℕ) → finite.get m id ≡ Some input
    → Decides (is_number n (Some input)) (with_number n input ≡ input) → allowed kind places.Variable ≡ sets.NumberVariables
    → IsTrue (is_in_order m (slot kind places.Variable variable)) → kept_at id variable ≡ at → IsKept m at (with_number n) (is_number n)
number_kept m id n input kind variable at there decides allows order is = by (variable == null_id) order is
  where
    by : (b : Bool)
        → IsTrue (cond b true (is_one_of (allowed kind places.Variable) (kind_in m variable)
        && value_fits m (slot kind places.Variable variable) (pointer_value (finite.get m variable))))
        → cond b id variable ≡ at → IsKept m at (with_number n) (is_number n)
    by true null place = record { object = input; there = ap (finite.get m) (sym place) ∙ there; decides = decides }
    by false named place =
        let may = first_of (is_one_of (allowed kind places.Variable) (kind_in m variable))
        (value_fits m (slot kind places.Variable variable) (pointer_value (finite.get m variable))) named in
        let found = number_variable (finite.get m variable) (ap (λ (s : Kinds). is_one_of s (kind_in m variable)) (sym allows) ∙ may) in
        record { object = objects.NumberVariable found.0; there = ap (finite.get m) (sym place) ∙ found.1; decides = variable_decides n found.0 }

few : (n : ℕ) → n ≤ 1 → n < 256
few n le = omega (arith, le)

within : (n count : ℕ) → n < count → count ≤ 255 → n < 256
within n count lt le = omega (arith, lt, le)

number_placed : (m : ObjectMap) (id n at : ℕ) (found : Option Seen) → finite.get m id ≡ found → IsSound m → IsCounted found
    → number_place id n found ≡ Ok at → IsKept m at (with_number n) (is_number n)
number_placed m id n at (Some (objects.InputBoolean o)) there sound counted is =
    let place = placed (not (o.enabled == 0)) (nat_le n 1) refusals.Range (kept_at id o.variable) at is in
    number_kept m id n (objects.InputBoolean o) kinds.InputBoolean o.variable at there (boolean_decides n o (few n (leb-true n 1 place.0))) refl
    (sound.slots id (objects.InputBoolean o) there).1.0 place.1
number_placed m id n at (Some (objects.InputNumber o)) there sound counted is =
    let place = placed (o.options_two % 2 == 1) (nat_le o.min n && nat_le n o.max) refusals.Range (kept_at id o.variable) at is in
    number_kept m id n (objects.InputNumber o) kinds.InputNumber o.variable at there (number_decides n o) refl
    (sound.slots id (objects.InputNumber o) there).1.0 place.1
number_placed m id n at (Some (objects.InputList o)) there sound counted is =
    let place = placed (o.options % 2 == 1) (nat_lt n (length o.items)) refusals.Range (kept_at id o.variable) at is in
    number_kept m id n (objects.InputList o) kinds.InputList o.variable at there
    (list_decides n o (within n (length o.items) (ltb-true n (length o.items) place.0) counted)) refl
    (sound.slots id (objects.InputList o) there).0 place.1
number_placed m id n at None there sound counted is = absurd cc
number_placed m id n at (Some o) there sound counted is = absurd cc

numbers : (state start : SetState) (id n : ℕ) (message : List ℕ) (raised : List Raised) → IsSound state.objects
    → IsCounted (finite.get state.objects id) → enter_number true state id n ≡ Acts message start raised → RaisesOfNew id state start raised
numbers state start id n message raised sound counted is = by (number_place id n (finite.get state.objects id)) refl is
  where
    by : (place : Result ℕ OperatorRefusal) → number_place id n (finite.get state.objects id) ≡ place
        → number_entered state id n place ≡ Acts message start raised → RaisesOfNew id state start raised
    by (Ok at) place entered =
        raises state start id at (with_number n) (is_number n) _ message raised
        (number_placed state.objects id n at (finite.get state.objects id) refl sound counted place) entered
    by (Err refusal) place entered = absurd cc

-- ---- texts

string_decides : (text : List ℕ) (o : InputString (List ℕ)) → length text ≤ length o.text
    → Decides (same_text text (Some o.text)) (with_text text (objects.InputString o) ≡ objects.InputString o)
string_decides text o le =
    Decides-like (same_text text (Some o.text)) (λ e. ap (λ (t : List ℕ). objects.InputString (record o { text = t })) e)
    (λ e. same_Some (filled_up (length o.text) text) o.text (ap text_of e)) (filled_decides text o.text le)

string_variable_decides : (text : List ℕ) (o : StringVariable (List ℕ)) → length text ≤ length o.text
    → Decides (same_text text (Some o.text)) (with_text text (objects.StringVariable o) ≡ objects.StringVariable o)
string_variable_decides text o le =
    Decides-like (same_text text (Some o.text)) (λ e. ap (λ (t : List ℕ). objects.StringVariable (record o { text = t })) e)
    (λ e. same_Some (filled_up (length o.text) text) o.text (ap text_of e)) (filled_decides text o.text le)

text_kept : (m : ObjectMap) (at : ℕ) (text : List ℕ) (found : Option Seen) → finite.get m at ≡ found → text_fits text (text_in found) ≡ true
    → IsKept m at (with_text text) (λ o. same_text text (text_in o))
text_kept m at text (Some (objects.InputString o)) there fits =
    record { object = objects.InputString o; there = there; decides = string_decides text o (leb-true (length text) (length o.text) fits) }
text_kept m at text (Some (objects.StringVariable o)) there fits =
    record { object = objects.StringVariable o; there = there; decides = string_variable_decides text o (leb-true (length text) (length o.text) fits) }
text_kept m at text None there fits = absurd cc
text_kept m at text (Some o) there fits = absurd cc

text_placed : (m : ObjectMap) (id at : ℕ) (text : List ℕ) (found : Option Seen) → text_place m id text found ≡ Ok at
    → text_fits text (text_at m at) ≡ true
text_placed m id at text (Some (objects.InputString o)) is =
    let kept = text_fits text (text_at m (kept_at id o.variable)) in
    let place = placed (not (o.enabled == 0)) (nat_le (length text) (length o.text) && kept) refusals.TooLong (kept_at id o.variable) at is in
    subst (λ (a : ℕ). text_fits text (text_at m a) ≡ true) place.1 (and_parts (nat_le (length text) (length o.text)) kept place.0).1
text_placed m id at text None is = absurd cc
text_placed m id at text (Some o) is = absurd cc

texts : (state start : SetState) (id : ℕ) (text message : List ℕ) (raised : List Raised) → enter_text true state id text ≡ Acts message start raised
    → RaisesOfNew id state start raised
texts state start id text message raised is = by (text_place state.objects id text (finite.get state.objects id)) refl is
  where
    by : (place : Result ℕ OperatorRefusal) → text_place state.objects id text (finite.get state.objects id) ≡ place
        → text_entered state id text place ≡ Acts message start raised → RaisesOfNew id state start raised
    by (Ok at) place entered =
        raises state start id at (with_text text) (λ o. same_text text (text_in o)) _ message raised
        (text_kept state.objects at text (finite.get state.objects at) refl
        (text_placed state.objects id at text (finite.get state.objects id) place)) entered
    by (Err refusal) place entered = absurd cc

pub new_values : NewValuesAreNew
new_values = record { numbers = numbers; texts = texts }
