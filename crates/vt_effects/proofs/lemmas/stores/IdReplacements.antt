-- Commands that replace an ID, the restored ID, and commands that could replace one but do not.
use Rattle.std.proofs.Common.{◌≡◌, ◌&&◌, ℕ, zero, suc, Bool, true, false, cond, nat_lt, List, [], ◌∷◌, set, length, Option, Some, None, Result, Ok, Err, refl, sym, ap, ◌∙◌}
use Rattle.std.proofs.lemmas.Option.{same_Some}
use Rattle.std.proofs.lemmas.Bool.{ltb-true}
use Rattle.std.specs.Prelude.{slice_get}
use Rattle.std.specs.Option.{option_map}
use Rattle.std.specs.FinMap as finite
use Rattle.vt_kinds.specs.declared.kind.Kind.{Kind}
use Rattle.vt_kinds.specs.declared.kind.Kind.TheVariants as kinds
use Rattle.vt_kinds.specs.declared.place.Place.TheVariants as places
use Rattle.vt_kinds.specs.declared.input_fields.InputList.{InputList}
use Rattle.vt_kinds.specs.declared.variables.ObjectPointer.{ObjectPointer}
use Rattle.vt_kinds.specs.declared.object.Object.TheVariants as objects
use Rattle.vt_commands.specs.declared.command.Command.{Command}
use Rattle.vt_commands.specs.declared.command.Command.TheVariants.{ChangeNumericValue, ChangeAttribute, ChangeListItem}
use Rattle.vt_kinds.specs.Records.{Seen}
use Rattle.vt_stores.specs.Stores.{ObjectMap}
use Rattle.vt_commands.specs.Targets.{object_of}
use Rattle.vt_chains.proofs.IdIndices.{someone}
use Rattle.vt_effects.specs.declared.replacements.Replacement.{Replacement}
use Rattle.vt_effects.specs.Fields.{low_word}
use Rattle.vt_effects.specs.Changes.{if_passed, may_refer, other_id, change_item, changed}
use Rattle.vt_effects.specs.Errors.{bit}
use Rattle.vt_effects.specs.Effects.{pointer_value, pointer_may, chains_are_short, keeps_order, other_kind}
use Rattle.vt_effects.specs.Replacements.{item_at, replacement, replacement_by, new_id_fits, restored}
use Rattle.vt_effects.proofs.lemmas.stores.ObjectBeforeAndAfter.{Changed}
use Rattle.vt_effects.proofs.lemmas.order.SlotsInOrder.{passed_is, attribute_of_pointer}

-- ---- the restored ID

set_back : (xs : List ℕ) (i x y : ℕ) → slice_get xs i ≡ Some y → set (set xs i x) i y ≡ xs
set_back [] i x y is = absurd cc
set_back (z ∷ xs) zero x y is = ap (λ (w : ℕ). w ∷ xs) (sym (same_Some z y is))
set_back (z ∷ xs) (suc i) x y is = ap (λ (l : List ℕ). z ∷ l) (set_back xs i x y is)

pointer_back : (p : ObjectPointer) (new : Seen) (command : Command) (value before : ℕ) → objects.ObjectPointer (record p { value = value }) ≡ new → p.value ≡ before
    → restored command before (objects.ObjectPointer (record p { value = value })) ≡ objects.ObjectPointer (record p { value = before })
    → restored command before new ≡ objects.ObjectPointer p
pointer_back p new command value before is at back =
    ap (restored command before) (sym is) ∙ back ∙ ap (λ (v : ℕ). objects.ObjectPointer (record p { value = v })) (sym at)

number_back : (kind_of_other : Option Kind) (it value before : ℕ) (old new : Seen)
    → ◌≡◌ {A = Result Seen ℕ} (changed (ChangeNumericValue it value) kind_of_other old) (Ok new) → pointer_value (Some old) ≡ Some before
    → restored (ChangeNumericValue it value) before new ≡ old
number_back kind_of_other it value before (objects.ObjectPointer p) new made at =
    pointer_back p new (ChangeNumericValue it value) (low_word value) before (passed_is _ _ (objects.ObjectPointer (record p { value = low_word value })) new made) (same_Some p.value before at) refl
number_back kind_of_other it value before _ new made at = absurd cc

attribute_back : (kind_of_other : Option Kind) (it number value before : ℕ) (old new : Seen)
    → ◌≡◌ {A = Result Seen ℕ} (changed (ChangeAttribute it number value) kind_of_other old) (Ok new) → pointer_value (Some old) ≡ Some before
    → restored (ChangeAttribute it number value) before new ≡ old
attribute_back kind_of_other it number value before (objects.ObjectPointer p) new made at =
    pointer_back p new (ChangeAttribute it number value) (low_word value) before (attribute_of_pointer kind_of_other number value p new made) (same_Some p.value before at) refl
attribute_back kind_of_other it number value before _ new made at = absurd cc

list_by : (o : InputList) (b c : Bool) (index item before list : ℕ) (new : Seen)
    → ◌≡◌ {A = Result Seen ℕ} (cond b (if_passed c (bit 2) (objects.InputList (record o { items = set o.items index item }))) (Err (bit 1))) (Ok new)
    → slice_get o.items index ≡ Some before → restored (ChangeListItem list index item) before new ≡ objects.InputList o
list_by o true c index item before list new made at =
    ap (restored (ChangeListItem list index item) before) (sym (passed_is c (bit 2) _ new made))
    ∙ ap (λ (l : List ℕ). objects.InputList (record o { items = l })) (set_back o.items index item before at)
list_by o false c index item before list new made at = absurd cc

item_back : (kind_of_other : Option Kind) (list index item before : ℕ) (old new : Seen)
    → ◌≡◌ {A = Result Seen ℕ} (changed (ChangeListItem list index item) kind_of_other old) (Ok new) → item_at index (Some old) ≡ Some before
    → restored (ChangeListItem list index item) before new ≡ old
item_back kind_of_other list index item before (objects.InputList o) new made at =
    list_by o (nat_lt index (length o.items)) (may_refer kinds.InputList (places.Item index) item kind_of_other) index item before list new made at
item_back kind_of_other list index item before _ new made at = absurd cc

-- ---- a command that replaces an ID

mapped : (h x : ℕ) (o : Option ℕ) (r : Replacement) → option_map (replacement h x) o ≡ Some r → (o ≡ Some r.before) × (r.holder ≡ h) × (r.after ≡ x)
mapped h x None r is = absurd cc
mapped h x (Some b) r is = (ap (λ q. Some q.before) same, sym (ap (λ q. q.holder) same), sym (ap (λ q. q.after) same))
  where
    same : replacement h x b ≡ r
    same = same_Some (replacement h x b) r is

-- the object of the command, its other ID, its tests, and the object with the ID restored
pub record Parts (m : ObjectMap) (command : Command) (r : Replacement) : Type 0 where
  pub for : object_of command ≡ Some r.holder
  pub names : other_id command ≡ Some r.after
  pub order : (n : ObjectMap) → keeps_order m command n ≡ (new_id_fits m command && chains_are_short n)
  pub back : (old new : Seen) → Changed m r.holder old new command → restored command r.before new ≡ old

pub parts_of : (m : ObjectMap) (command : Command) (r : Replacement) → replacement_by m command ≡ Some r → Parts m command r
parts_of m (ChangeNumericValue it value) r is =
    let of = mapped it (low_word value) (pointer_value (finite.get m it)) r is in
    record {
      for = ap Some (sym of.1);
      names = ap Some (sym of.2);
      order = λ n. ap (λ (o : Option ℕ). pointer_may m it (low_word value) o n) of.0;
      back = λ old new c. number_back (other_kind m (Some (low_word value))) it value r.before old new c.made (ap pointer_value (sym (ap (finite.get m) (sym of.1) ∙ c.at)) ∙ of.0);
    }
parts_of m (ChangeAttribute it number value) r is =
    let of = mapped it (low_word value) (pointer_value (finite.get m it)) r is in
    record {
      for = ap Some (sym of.1);
      names = ap Some (sym of.2);
      order = λ n. ap (λ (o : Option ℕ). pointer_may m it (low_word value) o n) of.0;
      back = λ old new c. attribute_back (other_kind m (Some (low_word value))) it number value r.before old new c.made (ap pointer_value (sym (ap (finite.get m) (sym of.1) ∙ c.at)) ∙ of.0);
    }
parts_of m (ChangeListItem list index item) r is =
    let of = mapped list item (item_at index (finite.get m list)) r is in
    record {
      for = ap Some (sym of.1);
      names = ap Some (sym of.2);
      order = λ n. refl;
      back = λ old new c. item_back (other_kind m (Some item)) list index item r.before old new c.made (ap (item_at index) (sym (ap (finite.get m) (sym of.1) ∙ c.at)) ∙ of.0);
    }
parts_of m _ r is = absurd cc

-- ---- a command without a replacement

pub unmapped : (h : ℕ → Replacement) (o : Option ℕ) → option_map h o ≡ None → o ≡ None
unmapped h None is = refl
unmapped h (Some x) is = absurd cc

item_by : (xs : List ℕ) (i : ℕ) (b : Bool) (made : Result Seen ℕ) (new : Seen) → nat_lt i (length xs) ≡ b → ◌≡◌ {A = Result Seen ℕ} (cond b made (Err 2)) (Ok new)
    → slice_get xs i ≡ None → ⊥
item_by xs i true made new lt ok none = let at = someone xs i (ltb-true i (length xs) lt) in cc (at.1)
item_by xs i false made new lt ok none = cc

item_there : (kind_of_other : Option Kind) (index item : ℕ) (o new : Seen) → ◌≡◌ {A = Result Seen ℕ} (change_item kind_of_other index item o) (Ok new)
    → item_at index (Some o) ≡ None → ⊥
item_there kind_of_other index item (objects.InputList o) new made none = item_by o.items index (nat_lt index (length o.items)) _ new refl made none
item_there kind_of_other index item _ new made none = cc

-- a changed item had a former item
pub item_replaced : (m : ObjectMap) (id : ℕ) (old new : Seen) (list index item : ℕ) → Changed m id old new (ChangeListItem list index item)
    → replacement_by m (ChangeListItem list index item) ≡ None → ⊥
item_replaced m id old new list index item c none =
    item_there (other_kind m (Some item)) index item old new c.made
    (sym (ap (item_at index) (ap (finite.get m) (same_Some list id c.for) ∙ c.at)) ∙ unmapped _ (item_at index (finite.get m list)) none)

pub kept_none : (m n : ObjectMap) (id : ℕ) (old new : Seen) (command : Command) → Changed m id old new command → replacement_by m command ≡ None → keeps_order m command n ≡ true
kept_none m n id old new (ChangeListItem list index item) c none = absurd (item_replaced m id old new list index item c none)
kept_none m n id old new (ChangeNumericValue it value) c none =
    ap (λ (o : Option ℕ). pointer_may m it (low_word value) o n) (unmapped _ (pointer_value (finite.get m it)) none)
kept_none m n id old new (ChangeAttribute it number value) c none =
    ap (λ (o : Option ℕ). pointer_may m it (low_word value) o n) (unmapped _ (pointer_value (finite.get m it)) none)
kept_none m n id old new _ c none = refl
