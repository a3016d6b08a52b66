-- A command keeps the kind of an object, its macro entries and its macro bytes. Each reference afterwards is a former one
-- or one that the command may write.
use Rattle.std.proofs.Common.{◌≡◌, ◌⊎◌, inl, inr, ◌+◌, ℕ, zero, suc, ℤ, ◌==◌, Bool, true, false, cond, not, List, [], ◌∷◌, map, set, slice_get, IfSome, Option, Some, None, Result, Ok, Err, refl, sym, subst, arith}
use Rattle.std.specs.Prelude.{Contains}
use Rattle.std.specs.List.{AllByRecursion}
use Rattle.std.proofs.lemmas.Bool.{eq-eqb}
use Rattle.std.proofs.lemmas.List.Elements.{recursion_from_All, Contains-get_or}
use Rattle.vt_kinds.specs.declared.kind.Kind.{Kind}
use Rattle.vt_kinds.specs.declared.kind.Kind.TheVariants as kinds
use Rattle.vt_kinds.specs.declared.kinds.Kinds.TheVariants as sets
use Rattle.vt_kinds.specs.declared.place.Place.{Place}
use Rattle.vt_kinds.specs.declared.place.Place.TheVariants as places
use Rattle.vt_kinds.specs.declared.slot.Slot.{Slot}
use Rattle.vt_kinds.specs.declared.entries.Child.{Child}
use Rattle.vt_kinds.specs.declared.fields.Attribute.{Attribute}
use Rattle.vt_kinds.specs.declared.fields.Field.TheVariants as fields
use Rattle.vt_kinds.specs.declared.fields.ValueType.{ValueType}
use Rattle.vt_kinds.specs.declared.fields.ValueType.TheVariants as types
use Rattle.vt_kinds.specs.declared.object.Object.TheVariants as objects
use Rattle.vt_commands.specs.declared.command.Command.{Command}
use Rattle.vt_commands.specs.declared.command.Command.TheVariants.{HideShow, EnableDisable, ChangeChildLocation, ChangeSize, ChangeBackgroundColour, ChangeNumericValue, ChangeEndPoint, ChangeFontAttributes, ChangeLineAttributes, ChangeFillAttributes, ChangeActiveMask, ChangeSoftKeyMask, ChangeAttribute, ChangePriority, ChangeListItem, ChangeStringValue, ChangeChildPosition, ExecuteMacro}
use Rattle.vt_kinds.specs.Records.{Seen, kind_of}
use Rattle.vt_kinds.specs.References.{slot, slots_of, slots_listed}
use Rattle.vt_kinds.specs.Attributes.{attribute_at, attributes_of, attribute_numbered, byte}
use Rattle.vt_stores.specs.Shapes.{fixed}
use Rattle.vt_effects.specs.Fields.{low_word, with_field}
use Rattle.vt_effects.specs.Changes.{left, if_passed, is_one_of, may_refer, takes, other_id, child_at, move_child, moved_child, placed, stands_in, leaves, for_child, change_location, change_position, put_children, in_parent, put_attribute, changed, writes, is_attribute, IsWritten}
use Rattle.vt_effects.specs.Errors.{bit}

-- the object keeps its fixed part, and its slots have a property
record Leaves (P : Slot → Type 0) (o : Seen) (made : Result Seen ℕ) : Type 0 where
  kept : fixed (left o made) ≡ fixed o
  slots : AllByRecursion P (slots_of (left o made))

-- the slots that a command may write have a property
abbrev pub MayWrite : (Slot → Type 0) → Command → Option Kind → Kind → Type 0
MayWrite P command kind_of_other kind =
    (place : Place) (id : ℕ) → other_id command ≡ Some id → writes command place kind ≡ true → may_refer kind place id kind_of_other ≡ true → P (slot kind place id)

-- ---- children keep their IDs

abbrev ids : List Child → List ℕ
ids children = map (λ c. c.id) children

moved_id : (child : ℕ) (move : Child → Child) (c : Child) → Child.id (move c) ≡ c.id → Child.id (child_at child move c) ≡ c.id
moved_id child move c same = by (c.id == child)
  where
    by : (b : Bool) → Child.id (cond b (move c) c) ≡ c.id
    by true = same
    by false = refl

moved_ids : (child : ℕ) (move : Child → Child) → ((c : Child) → Child.id (move c) ≡ c.id) → (children : List Child)
    → ids (move_child child move children) ≡ ids children
moved_ids child move same [] = refl
moved_ids child move same (c ∷ children) = cc (moved_id child move c (same c), moved_ids child move same children)

child_stays : (child : ℕ) (kind_of_other : Option Kind) (children : List Child) (made : Result (List Child) ℕ) → ids (left children made) ≡ ids children
    → ids (left children (for_child child kind_of_other children made)) ≡ ids children
child_stays child None children made stay = refl
child_stays child (Some kind) children made stay = by (stands_in child children)
  where
    by : (b : Bool) → ids (left children (cond b made (Err (bit 0)))) ≡ ids children
    by true = stay
    by false = refl

location_stays : (kind_of_other : Option Kind) (child dx dy : ℕ) (children : List Child) → ids (left children (change_location kind_of_other child dx dy children)) ≡ ids children
location_stays kind_of_other child dx dy children = child_stays child kind_of_other children _ (by (leaves child dx dy children))
  where
    by : (b : Bool) → ids (left children (if_passed (not b) (bit 4) (move_child child (moved_child dx dy) children))) ≡ ids children
    by true = refl
    by false = moved_ids child (moved_child dx dy) (λ c. refl) children

position_stays : (kind_of_other : Option Kind) (child : ℕ) (x y : ℤ) (children : List Child) → ids (left children (change_position kind_of_other child x y children)) ≡ ids children
position_stays kind_of_other child x y children = child_stays child kind_of_other children _ (moved_ids child (placed x y) (λ c. refl) children)

-- ---- attributes by number

at_index : (Q : Attribute → Type 0) (attributes : List Attribute) (index : ℕ) → AllByRecursion Q attributes → IfSome (slice_get attributes index) Q
at_index Q [] index all = tt
at_index Q (a ∷ attributes) zero all = all.0
at_index Q (a ∷ attributes) (suc index) all = at_index Q attributes index all.1

at_number : (Q : Attribute → Type 0) (attributes : List Attribute) (number : ℕ) → AllByRecursion Q attributes → IfSome (attribute_numbered attributes number) Q
at_number Q attributes zero all = tt
at_number Q attributes (suc index) all = at_index Q attributes index all

-- the options of an Input List are outside the list of attributes
at_attribute : (Q : Attribute → Type 0) (kind : Kind) (number : ℕ) → AllByRecursion Q (byte fields.Options ∷ attributes_of kind) → IfSome (attribute_at kind number) Q
at_attribute Q kinds.InputList number all = by (number == 5)
  where
    by : (b : Bool) → IfSome (cond b (Some (byte fields.Options)) (attribute_numbered (attributes_of kinds.InputList) number)) Q
    by true = all.0
    by false = at_number Q (attributes_of kinds.InputList) number all.1
at_attribute Q kind number all = at_number Q (attributes_of kind) number all.1

mask_may : (mask : ℕ) (kind_of_other : Option Kind) → is_one_of sets.Masks kind_of_other ≡ true → may_refer kinds.WorkingSet places.ActiveMask mask kind_of_other ≡ true
mask_may mask kind_of_other is = by (mask == 0xFFFF)
  where
    by : (b : Bool) → cond b true (is_one_of sets.Masks kind_of_other) ≡ true
    by true = refl
    by false = is

module _ (P : Slot → Type 0) where
  -- a change under a test
  tested : (test : Bool) (made : Result Seen ℕ) (error : ℕ) (o : Seen) → AllByRecursion P (slots_of o) → (test ≡ true → Leaves P o made)
      → Leaves P o (cond test made (Err error))
  tested true made error o old of = of refl
  tested false made error o old of = assumption

  passes : (test : Bool) (error : ℕ) (o new : Seen) → fixed new ≡ fixed o → AllByRecursion P (slots_of o) → (test ≡ true → AllByRecursion P (slots_of new))
      → Leaves P o (if_passed test error new)
  passes test error o new kept old of = tested test (Ok new) error o old (λ passed. record { kept = kept; slots = of passed })

  -- a change under two tests
  both_pass : (first test : Bool) (error other : ℕ) (o new : Seen) → fixed new ≡ fixed o → AllByRecursion P (slots_of o)
      → (test ≡ true → AllByRecursion P (slots_of new)) → Leaves P o (cond {A = Result Seen ℕ} first (if_passed test error new) (Err other))
  both_pass first test error other o new kept old of = tested first (if_passed test error new) other o old (λ _. passes test error o new kept old of)

  put_children_leave : (o : Seen) (parent : List Child → Seen) (children : List Child) (made : Result (List Child) ℕ) → ids (left children made) ≡ ids children
      → ((new : List Child) → fixed (parent new) ≡ fixed o) → ((new : List Child) → ids new ≡ ids children → slots_of (parent new) ≡ slots_of o)
      → AllByRecursion P (slots_of o) → Leaves P o (put_children parent made)
  put_children_leave o parent children (Ok new) stay kept same old = record { kept = kept new; slots = subst (AllByRecursion P) (sym (same new stay)) old }
  put_children_leave o parent children (Err error) stay kept same old = assumption

  in_parent_leaves : (change : List Child → Result (List Child) ℕ) (o : Seen) → ((children : List Child) → ids (left children (change children)) ≡ ids children)
      → AllByRecursion P (slots_of o) → Leaves P o (in_parent change o)
  in_parent_leaves change (objects.WorkingSet o) stay old =
      put_children_leave (objects.WorkingSet o) _ o.children (change o.children) (stay o.children) (λ new. refl) (λ new same. cc) old
  in_parent_leaves change (objects.DataMask o) stay old =
      put_children_leave (objects.DataMask o) _ o.children (change o.children) (stay o.children) (λ new. refl) (λ new same. cc) old
  in_parent_leaves change (objects.AlarmMask o) stay old =
      put_children_leave (objects.AlarmMask o) _ o.children (change o.children) (stay o.children) (λ new. refl) (λ new same. cc) old
  in_parent_leaves change (objects.Container o) stay old =
      put_children_leave (objects.Container o) _ o.children (change o.children) (stay o.children) (λ new. refl) (λ new same. cc) old
  in_parent_leaves change (objects.Key o) stay old =
      put_children_leave (objects.Key o) _ o.children (change o.children) (stay o.children) (λ new. refl) (λ new same. cc) old
  in_parent_leaves change (objects.Button o) stay old =
      put_children_leave (objects.Button o) _ o.children (change o.children) (stay o.children) (λ new. refl) (λ new same. cc) old
  in_parent_leaves change _ stay old = assumption

  listed_set : (kind : Kind) (start index at item : ℕ) (items : List ℕ) → start + index ≡ at → AllByRecursion P (slots_listed kind places.Item start items)
      → P (slot kind (places.Item at) item) → AllByRecursion P (slots_listed kind places.Item start (set items index item))
  listed_set kind start index at item [] is old new = old
  listed_set kind start zero at item (x ∷ items) is old new = let same : start ≡ at = omega arith in (rw same new, old.1)
  listed_set kind start (suc index) at item (x ∷ items) is old new = (old.0, listed_set kind (suc start) index at item items (omega arith) old.1 new)

  -- a field of a type gets an ID that is allowed there, if the field is a reference
  abbrev Given : Kind → ℕ → ValueType → Type 0
  Given kind n (types.Reference place) = cond (is_attribute place kind) (P (slot kind place (low_word n))) (Unit {0})
  Given kind n _ = Unit {0}

  given_by : (kind_of_other : Option Kind) (kind : Kind) (n : ℕ)
      → ((place : Place) → is_attribute place kind ≡ true → may_refer kind place (low_word n) kind_of_other ≡ true → P (slot kind place (low_word n)))
      → (type : ValueType) → takes kind type n kind_of_other ≡ true → Given kind n type
  given_by kind_of_other kind n may (types.Reference place) passed = by (is_attribute place kind) refl
    where
      by : (b : Bool) → is_attribute place kind ≡ b → cond b (P (slot kind place (low_word n))) (Unit {0})
      by true is = may place is passed
      by false is = tt
  given_by kind_of_other kind n may _ passed = tt

  -- an attribute that may be written
  abbrev IsPut : ℕ → Seen → Attribute → Type 0
  IsPut n o a = Given (kind_of o) n a.value_type → Leaves P o (Ok (with_field a.field n o))

  fields_leave : (n : ℕ) (o : Seen) → AllByRecursion P (slots_of o) → AllByRecursion (IsPut n o) (byte fields.Options ∷ attributes_of (kind_of o))
  fields_leave n (objects.WorkingSet o) old = assumption
  fields_leave n _ old = assumption

  attribute_leaves : (kind_of_other : Option Kind) (n : ℕ) (o : Seen) (found : Option Attribute) → IfSome found (IsPut n o) → AllByRecursion P (slots_of o)
      → ((type : ValueType) → takes (kind_of o) type n kind_of_other ≡ true → Given (kind_of o) n type) → Leaves P o (put_attribute found kind_of_other n o)
  attribute_leaves kind_of_other n o None put old given = assumption
  attribute_leaves kind_of_other n o (Some a) put old given = tested _ _ _ _ old (λ passed. put (given a.value_type passed))

  commands_leave : (command : Command) (kind_of_other : Option Kind) (o : Seen) → AllByRecursion P (slots_of o) → MayWrite P command kind_of_other (kind_of o)
      → Leaves P o (changed command kind_of_other o)
  commands_leave (HideShow id state) kind_of_other (objects.Container o) old may = passes _ _ _ _ refl old (λ _. old)
  commands_leave (EnableDisable id state) kind_of_other (objects.InputBoolean o) old may = passes _ _ _ _ refl old (λ _. old)
  commands_leave (EnableDisable id state) kind_of_other (objects.InputString o) old may = passes _ _ _ _ refl old (λ _. old)
  commands_leave (EnableDisable id state) kind_of_other (objects.InputNumber o) old may = passes _ _ _ _ refl old (λ _. old)
  commands_leave (EnableDisable id state) kind_of_other (objects.InputList o) old may = passes _ _ _ _ refl old (λ _. old)
  commands_leave (ChangeChildLocation parent child dx dy) kind_of_other o old may = in_parent_leaves _ o (location_stays kind_of_other child dx dy) old
  commands_leave (ChangeSize id width height) kind_of_other (objects.Container o) old may = assumption
  commands_leave (ChangeBackgroundColour id colour) kind_of_other (objects.WorkingSet o) old may = assumption
  commands_leave (ChangeNumericValue id value) kind_of_other (objects.InputBoolean o) old may = passes _ _ _ _ refl old (λ _. old)
  commands_leave (ChangeNumericValue id value) kind_of_other (objects.InputNumber o) old may = passes _ _ _ _ refl old (λ _. old)
  commands_leave (ChangeNumericValue id value) kind_of_other (objects.InputList o) old may = passes _ _ _ _ refl old (λ _. old)
  commands_leave (ChangeNumericValue id value) kind_of_other (objects.ObjectPointer o) old may =
      passes _ _ _ _ refl old (λ passed. (may places.Value (low_word value) refl refl passed, tt))
  commands_leave (ChangeEndPoint id width height direction) kind_of_other (objects.Line o) old may = passes _ _ _ _ refl old (λ _. old)
  commands_leave (ChangeFontAttributes id colour size type style) kind_of_other (objects.Font o) old may = assumption
  commands_leave (ChangeLineAttributes id colour width art) kind_of_other (objects.LineAttributes o) old may = assumption
  commands_leave (ChangeFillAttributes id type colour pattern) kind_of_other (objects.FillAttributes o) old may =
      passes _ _ _ _ refl old (λ passed. (may places.Pattern pattern refl refl passed, tt))
  commands_leave (ChangeActiveMask id mask) kind_of_other (objects.WorkingSet o) old may =
      passes _ _ _ _ refl old (λ passed. (may places.ActiveMask mask refl refl (mask_may mask kind_of_other passed), old.1))
  commands_leave (ChangeSoftKeyMask type mask keys) kind_of_other (objects.DataMask o) old may =
      both_pass _ _ _ _ _ _ refl old (λ passed. (may places.SoftKeyMask keys refl refl passed, old.1))
  commands_leave (ChangeSoftKeyMask type mask keys) kind_of_other (objects.AlarmMask o) old may =
      both_pass _ _ _ _ _ _ refl old (λ passed. (may places.SoftKeyMask keys refl refl passed, old.1))
  commands_leave (ChangeAttribute id number value) kind_of_other o old may =
      tested _ _ _ _ old (λ _. attribute_leaves kind_of_other value o _ (at_attribute (IsPut value o) (kind_of o) number (fields_leave value o old)) old
      (given_by kind_of_other (kind_of o) value (λ place. may place (low_word value) refl)))
  commands_leave (ChangePriority id priority) kind_of_other (objects.AlarmMask o) old may = passes _ _ _ _ refl old (λ _. old)
  commands_leave (ChangeListItem id index item) kind_of_other (objects.InputList o) old may =
      both_pass _ _ _ _ _ _ refl old (λ passed.
      (old.0, listed_set kinds.InputList 0 index index item o.items (omega arith) old.1 (may (places.Item index) item refl (eq-eqb index index refl) passed)))
  commands_leave (ChangeStringValue id count text) kind_of_other (objects.InputString o) old may = passes _ _ _ _ refl old (λ _. old)
  commands_leave (ChangeStringValue id count text) kind_of_other (objects.OutputString o) old may = passes _ _ _ _ refl old (λ _. old)
  commands_leave (ChangeStringValue id count text) kind_of_other (objects.StringVariable o) old may = passes _ _ _ _ refl old (λ _. old)
  commands_leave (ChangeChildPosition parent child x y) kind_of_other o old may = in_parent_leaves _ o (position_stays kind_of_other child x y) old
  commands_leave (ExecuteMacro id) kind_of_other (objects.Macro o) old may = passes _ _ _ _ refl old (λ _. old)
  commands_leave _ kind_of_other _ old may = assumption

  pub slots_after : (command : Command) (kind_of_other : Option Kind) (o : Seen) → AllByRecursion P (slots_of o) → MayWrite P command kind_of_other (kind_of o)
      → AllByRecursion P (slots_of (left o (changed command kind_of_other o)))
  slots_after command kind_of_other o old may = Leaves.slots (commands_leave command kind_of_other o old may)

pub changes_keep : (command : Command) (kind_of_other : Option Kind) (o : Seen) → fixed (left o (changed command kind_of_other o)) ≡ fixed o
changes_keep command kind_of_other o =
    Leaves.kept (commands_leave (λ s. Unit {0}) command kind_of_other o (recursion_from_All (λ s. Unit {0}) (slots_of o) (λ k d lt. tt)) (λ place id other written stands. tt))

pub references_written : (command : Command) (kind_of_other : Option Kind) (o : Seen)
    → AllByRecursion (λ s. Contains (slots_of o) s ⊎ IsWritten command kind_of_other (kind_of o) s) (slots_of (left o (changed command kind_of_other o)))
references_written command kind_of_other o =
    slots_after _ command kind_of_other o (recursion_from_All _ (slots_of o) (λ k d lt. inl (Contains-get_or (slots_of o) k d lt)))
    (λ place id other written stands. inr (record { place = place; id = id; is = refl; other = other; written = written; allowed = stands }))
