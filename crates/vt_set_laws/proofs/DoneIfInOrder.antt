-- A command is done exactly if the store is in order after its change.
use Rattle.std.proofs.Common.{◌≡◌, ◌<◌, ◌↔◌, ℕ, zero, suc, Bool, true, false, cond, nat_lt, length, set, Option, Some, None, Result, Ok, Err, refl, sym, ap, subst, ◌∙◌}
use Rattle.std.proofs.lemmas.Bool.{ltb-true}
use Rattle.std.specs.Prelude.{IsTrue}
use Rattle.std.specs.FinMap as finite
use Rattle.vt_kinds.specs.declared.kind.Kind.{Kind}
use Rattle.vt_kinds.specs.declared.input_fields.InputList.{InputList}
use Rattle.vt_kinds.specs.declared.variables.ObjectPointer.{ObjectPointer}
use Rattle.vt_kinds.specs.declared.object.Object.TheVariants as objects
use Rattle.vt_kinds.specs.Ids.{null_id}
use Rattle.vt_kinds.specs.Records.{Seen}
use Rattle.vt_commands.specs.declared.command.Command.{Command}
use Rattle.vt_commands.specs.declared.command.Command.TheVariants.{ChangeNumericValue, ChangeAttribute, ChangeListItem}
use Rattle.vt_commands.specs.Targets.{object_of}
use Rattle.vt_stores.specs.Stores.{ObjectMap}
use Rattle.vt_stores.proofs.SortedEntries.{true_both}
use Rattle.vt_effects.specs.Fields.{low_word}
use Rattle.vt_effects.specs.Changes.{if_passed, left, other_id, change_item, change_value, change_attribute, changed}
use Rattle.vt_effects.specs.Effects.{kind_in, pointer_value, places_allow, value_drawn, chains_are_short, pointer_may, keeps_order, value_error, in_order, other_kind, insert_ok, changed_at, changed_for, changed_by, effect_on, effect, after}
use Rattle.vt_effects.specs.Soundness.{IsSound, CommandsKeepOrder}
use Rattle.vt_set_laws.specs.CommandOrder.{OrderDecides}
use Rattle.vt_set_laws.proofs.AllowedPointersAndItems.{places_allow_value, item_drawn}
use Rattle.vt_set_laws.proofs.ChainTestPasses.{short_by_shallow}

-- ---- stores that pass the test are in order

done_for : (m n : ObjectMap) (command : Command) (object : Option ℕ)
    → ◌≡◌ {A = Result ObjectMap ℕ} (changed_for m command (other_kind m (other_id command)) object) (Ok n)
    → keeps_order m command n ≡ true → left m (effect_on m command object) ≡ n
done_for m n command None made kept = ap (left m) made
done_for m n command (Some id) made kept =
    ap (λ (r : Result ObjectMap ℕ). left m (in_order m command r)) made ∙ ap (λ (b : Bool). left m (if_passed b (value_error command) n)) kept

done : (m n : ObjectMap) (command : Command) → ◌≡◌ {A = Result ObjectMap ℕ} (changed_by m command (other_kind m (other_id command))) (Ok n)
    → keeps_order m command n ≡ true
    → after m command ≡ n
unfolding effect
done m n command made kept = done_for m n command (object_of command) made kept

-- ---- the changed object

record IsPut (m n : ObjectMap) (id : ℕ) (made : Result Seen ℕ) : Type 0 where
  new : Seen
  is : made ≡ Ok new
  store : finite.insert m id new ≡ n

is_put : (m n : ObjectMap) (id : ℕ) (made : Result Seen ℕ) → ◌≡◌ {A = Result ObjectMap ℕ} (insert_ok m id made) (Ok n) → IsPut m n id made
is_put m n id (Ok new) is = record { new = new; is = refl; store = cc }
is_put m n id (Err error) is = absurd cc

passed_is : (test : Bool) (error : ℕ) (o new : Seen) → ◌≡◌ {A = Result Seen ℕ} (if_passed test error o) (Ok new) → o ≡ new
passed_is true error o new is = cc
passed_is false error o new is = absurd cc

value_of_pointer : (named : Option Kind) (value : ℕ) (p : ObjectPointer) (new : Seen)
    → ◌≡◌ {A = Result Seen ℕ} (change_value named value (objects.ObjectPointer p)) (Ok new)
    → objects.ObjectPointer (record p { value = low_word value }) ≡ new
value_of_pointer named value p new made = passed_is _ _ (objects.ObjectPointer (record p { value = low_word value })) new made

attribute_of_pointer : (named : Option Kind) (number value : ℕ) (p : ObjectPointer) (new : Seen)
    → ◌≡◌ {A = Result Seen ℕ} (change_attribute named number value (objects.ObjectPointer p)) (Ok new) → objects.ObjectPointer (record p { value = low_word value }) ≡ new
attribute_of_pointer named zero value p new made = absurd cc
attribute_of_pointer named (suc zero) value p new made = passed_is _ _ (objects.ObjectPointer (record p { value = low_word value })) new made
attribute_of_pointer named (suc (suc number)) value p new made = absurd cc

tested_is : (first test : Bool) (error other : ℕ) (o new : Seen)
    → ◌≡◌ {A = Result Seen ℕ} (cond {A = Result Seen ℕ} first (if_passed test error o) (Err other)) (Ok new)
    → (first ≡ true) × (o ≡ new)
tested_is true test error other o new is = (refl, passed_is test error o new is)
tested_is false test error other o new is = absurd cc

item_of_list : (named : Option Kind) (index item : ℕ) (o : InputList) (new : Seen)
    → ◌≡◌ {A = Result Seen ℕ} (change_item named index item (objects.InputList o)) (Ok new)
    → (index < length o.items) × (objects.InputList (record o { items = set o.items index item }) ≡ new)
item_of_list named index item o new made =
    let parts = tested_is (nat_lt index (length o.items)) _ _ _ (objects.InputList (record o { items = set o.items index item })) new made in
    (ltb-true index (length o.items) parts.0, parts.1)

-- ---- stores in order pass the test

pointer_kept : (m n : ObjectMap) (id value : ℕ) (command : Command) (named : Option Kind) → finite.get m null_id ≡ None → IsSound m → IsSound n
    → ((p : ObjectPointer) (new : Seen) → ◌≡◌ {A = Result Seen ℕ} (changed command named (objects.ObjectPointer p)) (Ok new) → objects.ObjectPointer (record p { value = value }) ≡ new)
    → (found : Option Seen) → finite.get m id ≡ found → ◌≡◌ {A = Result ObjectMap ℕ} (changed_at m id command named found) (Ok n)
    → pointer_may m id value (pointer_value found) n ≡ true
pointer_kept m n id value command named null sound ordered of (Some (objects.ObjectPointer p)) at made =
    let here = is_put m n id (changed command named (objects.ObjectPointer p)) made in
    true_both (places_allow m id value) (chains_are_short n)
    (places_allow_value m id value p null at sound
    (subst IsSound (sym (ap (finite.insert m id) (of p here.new here.is) ∙ here.store)) ordered))
    (short_by_shallow n (IsSound.shallow ordered))
pointer_kept m n id value command named null sound ordered of _ at made = refl

item_kept : (m n : ObjectMap) (list index item : ℕ) (named : Option Kind) → finite.get m null_id ≡ None → IsSound n → (found : Option Seen) → finite.get m list ≡ found
    → ◌≡◌ {A = Result ObjectMap ℕ} (changed_at m list (ChangeListItem list index item) named found) (Ok n) → value_drawn m (pointer_value (finite.get m item)) ≡ true
item_kept m n list index item named null ordered (Some (objects.InputList o)) at made =
    let here = is_put m n list (change_item named index item (objects.InputList o)) made in
    let parts = item_of_list named index item o here.new here.is in
    item_drawn m list index item o null at parts.0 (subst IsSound (sym (ap (finite.insert m list) parts.1 ∙ here.store)) ordered)
item_kept m n list index item named null ordered _ at made = absurd cc

kept : (m n : ObjectMap) (command : Command) → IsSound m → finite.get m null_id ≡ None
    → ◌≡◌ {A = Result ObjectMap ℕ} (changed_by m command (other_kind m (other_id command))) (Ok n) → IsSound n → keeps_order m command n ≡ true
kept m n (ChangeListItem list index item) sound null made ordered =
    true_both (value_drawn m (pointer_value (finite.get m item))) (chains_are_short n)
    (item_kept m n list index item (kind_in m item) null ordered (finite.get m list) refl made) (short_by_shallow n (IsSound.shallow ordered))
kept m n (ChangeNumericValue id value) sound null made ordered =
    pointer_kept m n id (low_word value) (ChangeNumericValue id value) (kind_in m (low_word value)) null sound ordered (value_of_pointer (kind_in m (low_word value)) value)
    (finite.get m id) refl made
kept m n (ChangeAttribute id number value) sound null made ordered =
    pointer_kept m n id (low_word value) (ChangeAttribute id number value) (kind_in m (low_word value)) null sound ordered (attribute_of_pointer (kind_in m (low_word value)) number value)
    (finite.get m id) refl made
kept m n _ sound null made ordered = refl

order_decided : CommandsKeepOrder → (m n : ObjectMap) (command : Command) → IsSound m → finite.get m null_id ≡ None
    → ◌≡◌ {A = Result ObjectMap ℕ} (changed_by m command (other_kind m (other_id command))) (Ok n) → IsTrue (keeps_order m command n) ↔ IsSound n
order_decided keep m n command sound null made = (λ is. subst IsSound (done m n command made is) (keep m command sound), kept m n command sound null made)

-- the changed store is the effect, if the tests are passed
effect_by : (m n : ObjectMap) (command : Command) (o : Option ℕ)
    → ◌≡◌ {A = Result ObjectMap ℕ} (changed_for m command (other_kind m (other_id command)) o) (Ok n) → keeps_order m command n ≡ true
    → ◌≡◌ {A = Result ObjectMap ℕ} (effect_on m command o) (Ok n)
effect_by m n command None made is = made
effect_by m n command (Some id) made is =
    ap (in_order m command) made ∙ ap (λ (b : Bool). if_passed b (value_error command) n) is

-- a command that is done leaves the changed store
left_of : (m n : ObjectMap) (command : Command) → ◌≡◌ {A = Result ObjectMap ℕ} (effect m command) (Ok n) → after m command ≡ n
left_of m n command is = ap (left m) is

effect_decided : CommandsKeepOrder → (m n : ObjectMap) (command : Command) → IsSound m → finite.get m null_id ≡ None
    → ◌≡◌ {A = Result ObjectMap ℕ} (changed_by m command (other_kind m (other_id command))) (Ok n)
    → (◌≡◌ {A = Result ObjectMap ℕ} (effect m command) (Ok n)) ↔ IsSound n
unfolding effect
effect_decided keep m n command sound null made = (
  λ is. subst IsSound (left_of m n command is) (keep m command sound),
  λ ordered. effect_by m n command (object_of command) made (kept m n command sound null made ordered),
)

pub decided : CommandsKeepOrder → OrderDecides
decided keep = record { tested = order_decided keep; done = effect_decided keep }
