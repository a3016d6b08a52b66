-- A command is refused for the kind of its object exactly if that kind is not allowed for the command.
use Rattle.std.proofs.Common.{◌≡◌, ℕ, ℤ, Bool, true, false, cond, not, ◌==◌, eqb, List, [], ◌∷◌, Option, Some, None, Result, Ok, Err, refl, sym, ap, subst, ◌∙◌, true≢false, arith}
use Rattle.std.proofs.lemmas.Bool.{eq-eqb}
use Rattle.vt_kinds.specs.declared.kind.Kind.{Kind}
use Rattle.vt_kinds.specs.declared.kinds.Kinds.{Kinds}
use Rattle.vt_kinds.specs.declared.kinds.Kinds.TheVariants as sets
use Rattle.vt_kinds.specs.declared.entries.Child.{Child}
use Rattle.vt_kinds.specs.declared.fields.Attribute.{Attribute}
use Rattle.vt_kinds.specs.declared.object.Object.TheVariants as objects
use Rattle.vt_kinds.specs.Records.{Seen, kind_of}
use Rattle.vt_kinds.specs.References.{is_member}
use Rattle.vt_kinds.specs.Attributes.{attribute_at}
use Rattle.vt_commands.specs.declared.command.Command.{Command}
use Rattle.vt_commands.specs.declared.command.Command.TheVariants.{HideShow, EnableDisable, ControlAudio, SetVolume, ChangeChildLocation, ChangeSize, ChangeBackgroundColour, ChangeNumericValue, ChangeEndPoint, ChangeFontAttributes, ChangeLineAttributes, ChangeFillAttributes, ChangeActiveMask, ChangeSoftKeyMask, ChangeAttribute, ChangePriority, ChangeListItem, DeletePool, ChangeStringValue, ChangeChildPosition, ExecuteMacro}
use Rattle.vt_commands.specs.declared.target.Target.{Target}
use Rattle.vt_commands.specs.Targets.{object_of, targets}
use Rattle.vt_effects.specs.Changes.{if_passed, stands_in, moved_child, move_child, for_child, change_location, change_position, put_children, in_parent, hide_show, enable_disable, for_kinds, change_value, change_fill_attributes, change_active_mask, change_soft_key_mask, put_attribute, change_attribute, change_item, change_text, execute_macro, changed}
use Rattle.vt_effects.specs.Errors.{bit}
use Rattle.vt_set_laws.specs.CommandKinds.{kind_error, children_in, lacks, mask_type, has_other_cause, first_id, KindsAreThoseOfChanges}

-- A change of an object of another kind is the error, and of an object of these kinds only for another cause.
record IsDecided (kinds : Kinds) (error : ℕ) (cause : Bool) (o : Seen) (made : Result Seen ℕ) : Type 0 where
  others : is_member kinds (kind_of o) ≡ false → made ≡ Err error
  these : is_member kinds (kind_of o) ≡ true → made ≡ Err error → cause ≡ true

-- an object of another kind
other : (kinds : Kinds) (error : ℕ) (cause : Bool) (o : Seen) → is_member kinds (kind_of o) ≡ false → IsDecided kinds error cause o (Err error)
other kinds error cause o never = record { others = λ _. refl; these = λ among _. absurd cc }

-- an object of one of these kinds
one_of : (kinds : Kinds) (error : ℕ) (cause : Bool) (o : Seen) (made : Result Seen ℕ) → is_member kinds (kind_of o) ≡ true → (made ≡ Err error → cause ≡ true)
    → IsDecided kinds error cause o made
one_of kinds error cause o made among of = record { others = λ never. absurd cc; these = λ _. of }

done : (kinds : Kinds) (error : ℕ) (cause : Bool) (o new : Seen) → is_member kinds (kind_of o) ≡ true → IsDecided kinds error cause o (Ok new)
done kinds error cause o new among = one_of kinds error cause o (Ok new) among (λ is. absurd cc)

-- the error of a result
abbrev error_of : {A : Type 0} → Result A ℕ → ℕ
error_of (Err error) = error
error_of (Ok new) = 0

differs : (fails error : ℕ) → eqb fails error ≡ false → ◌≡◌ {A = Result Seen ℕ} (Err fails) (Err error) → ⊥
differs fails error differ is =
    let same : fails ≡ error = ap error_of is in
    true≢false (sym (eq-eqb fails error same) ∙ differ)

if_differs : (test : Bool) (fails error : ℕ) (new : Seen) → eqb fails error ≡ false → ◌≡◌ {A = Result Seen ℕ} (if_passed test fails new) (Err error) → ⊥
if_differs true fails error new differ is = absurd cc
if_differs false fails error new differ is = differs fails error differ is

tested : (kinds : Kinds) (error : ℕ) (cause : Bool) (o : Seen) (test : Bool) (fails : ℕ) (new : Seen) → is_member kinds (kind_of o) ≡ true → eqb fails error ≡ false
    → IsDecided kinds error cause o (if_passed test fails new)
tested kinds error cause o test fails new among differ = one_of kinds error cause o (if_passed test fails new) among (λ is. absurd (if_differs test fails error new differ is))

-- a change under two tests
tested_both : (kinds : Kinds) (error : ℕ) (cause : Bool) (o : Seen) (first : Bool) (other_error : ℕ) (test : Bool) (fails : ℕ) (new : Seen)
    → is_member kinds (kind_of o) ≡ true → eqb fails error ≡ false → (first ≡ false → other_error ≡ error → cause ≡ true)
    → IsDecided kinds error cause o (cond {A = Result Seen ℕ} first (if_passed test fails new) (Err other_error))
tested_both kinds error cause o true other_error test fails new among differ of = tested kinds error cause o test fails new among differ
tested_both kinds error cause o false other_error test fails new among differ of = one_of kinds error cause o (Err other_error) among (λ is. of refl (ap error_of is))

of_kinds : (kinds : Kinds) (o : Seen) (made : Result Seen ℕ) → (◌≡◌ {A = Result Seen ℕ} made (Err (bit 0)) → ⊥)
    → IsDecided kinds (bit 0) false o (for_kinds kinds o made)
of_kinds kinds o made never = by (is_member kinds (kind_of o)) refl
  where
    by : (b : Bool) → is_member kinds (kind_of o) ≡ b → IsDecided kinds (bit 0) false o (cond b made (Err (bit 0)))
    by true among = one_of _ _ _ o made among (λ is. absurd (never is))
    by false among = other _ _ _ o among

-- ---- the changes of each command

writes : (kinds : Kinds) (o new : Seen) → IsDecided kinds (bit 0) false o (for_kinds kinds o (Ok new))
writes kinds o new = of_kinds kinds o (Ok new) (λ is. absurd cc)

writes_if : (kinds : Kinds) (test : Bool) (o new : Seen) → IsDecided kinds (bit 0) false o (for_kinds kinds o (if_passed test (bit 1) new))
writes_if kinds test o new = of_kinds kinds o (if_passed test (bit 1) new) (if_differs test (bit 1) (bit 0) new refl)

hides : (state : ℕ) (o : Seen) → IsDecided sets.Containers (bit 1) false o (hide_show state o)
hides state (objects.Container c) = tested _ _ _ (objects.Container c) _ _ _ refl refl
hides state o = other _ _ _ o refl

enables : (state : ℕ) (o : Seen) → IsDecided sets.Inputs (bit 1) false o (enable_disable state o)
enables state (objects.InputBoolean c) = tested _ _ _ (objects.InputBoolean c) _ _ _ refl refl
enables state (objects.InputString c) = tested _ _ _ (objects.InputString c) _ _ _ refl refl
enables state (objects.InputNumber c) = tested _ _ _ (objects.InputNumber c) _ _ _ refl refl
enables state (objects.InputList c) = tested _ _ _ (objects.InputList c) _ _ _ refl refl
enables state o = other _ _ _ o refl

put_error : (parent : List Child → Seen) (error : ℕ) (made : Result (List Child) ℕ) → ◌≡◌ {A = Result Seen ℕ} (put_children parent made) (Err error)
    → made ≡ Err error
put_error parent error (Ok children) is = absurd cc
put_error parent error (Err fails) is =
    let same : fails ≡ error = ap error_of is in
    ap (λ (n : ℕ). Err n) same

-- a move is refused for the kind, or for a child that is not in its parent
moves : (change : List Child → Result (List Child) ℕ) (child : ℕ) (o : Seen)
    → ((children : List Child) → ◌≡◌ {A = Result (List Child) ℕ} (change children) (Err (bit 0)) → not (stands_in child children) ≡ true)
    → IsDecided sets.Parents (bit 0) (lacks (children_in o) child) o (in_parent change o)
moves change child (objects.WorkingSet c) of = one_of _ _ _ (objects.WorkingSet c) _ refl (λ is. of c.children (put_error _ (bit 0) (change c.children) is))
moves change child (objects.DataMask c) of = one_of _ _ _ (objects.DataMask c) _ refl (λ is. of c.children (put_error _ (bit 0) (change c.children) is))
moves change child (objects.AlarmMask c) of = one_of _ _ _ (objects.AlarmMask c) _ refl (λ is. of c.children (put_error _ (bit 0) (change c.children) is))
moves change child (objects.Container c) of = one_of _ _ _ (objects.Container c) _ refl (λ is. of c.children (put_error _ (bit 0) (change c.children) is))
moves change child (objects.Key c) of = one_of _ _ _ (objects.Key c) _ refl (λ is. of c.children (put_error _ (bit 0) (change c.children) is))
moves change child (objects.Button c) of = one_of _ _ _ (objects.Button c) _ refl (λ is. of c.children (put_error _ (bit 0) (change c.children) is))
moves change child o of = other _ _ _ o refl

standing : (b : Bool) (moved : Result (List Child) ℕ) → (◌≡◌ {A = Result (List Child) ℕ} moved (Err (bit 0)) → ⊥)
    → ◌≡◌ {A = Result (List Child) ℕ} (cond b moved (Err (bit 0))) (Err (bit 0)) → not b ≡ true
standing true moved never is = absurd (never is)
standing false moved never is = refl

not_standing : (child : ℕ) (named : Option Kind) (children : List Child) (moved : Result (List Child) ℕ) → (◌≡◌ {A = Result (List Child) ℕ} moved (Err (bit 0)) → ⊥)
    → ◌≡◌ {A = Result (List Child) ℕ} (for_child child named children moved) (Err (bit 0)) → not (stands_in child children) ≡ true
not_standing child None children moved never is =
    let same : 2 ≡ 1 = ap error_of is in
    absurd (omega (arith, same))
not_standing child (Some kind) children moved never is = standing (stands_in child children) moved never is

passes : (test : Bool) (children : List Child) → ◌≡◌ {A = Result (List Child) ℕ} (if_passed test (bit 4) children) (Err (bit 0)) → ⊥
passes true children is = absurd cc
passes false children is =
    let same : 16 ≡ 1 = ap error_of is in
    absurd (omega (arith, same))

moves_by : (named : Option Kind) (child dx dy : ℕ) (o : Seen)
    → IsDecided sets.Parents (bit 0) (lacks (children_in o) child) o (in_parent (change_location named child dx dy) o)
moves_by named child dx dy o =
    moves (change_location named child dx dy) child o (λ children is. not_standing child named children _ (λ e. passes _ (move_child child (moved_child dx dy) children) e) is)

moves_to : (named : Option Kind) (child : ℕ) (x y : ℤ) (o : Seen)
    → IsDecided sets.Parents (bit 0) (lacks (children_in o) child) o (in_parent (change_position named child x y) o)
moves_to named child x y o = moves (change_position named child x y) child o (λ children is. not_standing child named children _ (λ e. absurd cc) is)

values : (named : Option Kind) (n : ℕ) (o : Seen) → IsDecided sets.Numeric (bit 0) false o (change_value named n o)
values named n (objects.InputBoolean c) = tested _ _ _ (objects.InputBoolean c) _ _ _ refl refl
values named n (objects.InputNumber c) = tested _ _ _ (objects.InputNumber c) _ _ _ refl refl
values named n (objects.InputList c) = tested _ _ _ (objects.InputList c) _ _ _ refl refl
values named n (objects.OutputNumber c) = done _ _ _ (objects.OutputNumber c) _ refl
values named n (objects.Meter c) = done _ _ _ (objects.Meter c) _ refl
values named n (objects.LinearBar c) = done _ _ _ (objects.LinearBar c) _ refl
values named n (objects.ArchedBar c) = done _ _ _ (objects.ArchedBar c) _ refl
values named n (objects.NumberVariable c) = done _ _ _ (objects.NumberVariable c) _ refl
values named n (objects.ObjectPointer c) = tested _ _ _ (objects.ObjectPointer c) _ _ _ refl refl
values named n o = other _ _ _ o refl

fill_attributes : (named : Option Kind) (type colour pattern : ℕ) (o : Seen)
    → IsDecided sets.FillAttributes (bit 0) false o (change_fill_attributes named type colour pattern o)
fill_attributes named type colour pattern (objects.FillAttributes c) = tested _ _ _ (objects.FillAttributes c) _ _ _ refl refl
fill_attributes named type colour pattern o = other _ _ _ o refl

active_masks : (named : Option Kind) (mask : ℕ) (o : Seen) → IsDecided sets.WorkingSets (bit 0) false o (change_active_mask named mask o)
active_masks named mask (objects.WorkingSet c) = tested _ _ _ (objects.WorkingSet c) _ _ _ refl refl
active_masks named mask o = other _ _ _ o refl

soft_key_masks : (named : Option Kind) (type keys : ℕ) (o : Seen)
    → IsDecided sets.Masks (bit 0) (not (type == mask_type o)) o (change_soft_key_mask named type keys o)
soft_key_masks named type keys (objects.DataMask c) = tested_both _ _ _ (objects.DataMask c) _ _ _ _ _ refl refl (λ differ _. ap not differ)
soft_key_masks named type keys (objects.AlarmMask c) = tested_both _ _ _ (objects.AlarmMask c) _ _ _ _ _ refl refl (λ differ _. ap not differ)
soft_key_masks named type keys o = other _ _ _ o refl

attribute_put : (attribute : Option Attribute) (named : Option Kind) (n : ℕ) (o : Seen)
    → ◌≡◌ {A = Result Seen ℕ} (put_attribute attribute named n o) (Err (bit 0)) → ⊥
attribute_put None named n o is = differs (bit 1) (bit 0) refl is
attribute_put (Some attribute) named n o is = if_differs _ (bit 2) (bit 0) _ refl is

attributes : (named : Option Kind) (number n : ℕ) (o : Seen) → IsDecided sets.WithAttributes (bit 0) false o (change_attribute named number n o)
attributes named number n o = of_kinds sets.WithAttributes o _ (λ is. attribute_put (attribute_at (kind_of o) number) named n o is)

items : (named : Option Kind) (index item : ℕ) (o : Seen) → IsDecided sets.InputLists (bit 0) false o (change_item named index item o)
items named index item (objects.InputList c) = tested_both _ _ _ (objects.InputList c) _ _ _ _ _ refl refl (λ _ is. absurd (omega (arith, is)))
items named index item o = other _ _ _ o refl

texts : (count : ℕ) (text : List ℕ) (o : Seen) → IsDecided sets.Texts (bit 1) false o (change_text count text o)
texts count text (objects.InputString c) = tested _ _ _ (objects.InputString c) _ _ _ refl refl
texts count text (objects.OutputString c) = tested _ _ _ (objects.OutputString c) _ _ _ refl refl
texts count text (objects.StringVariable c) = tested _ _ _ (objects.StringVariable c) _ _ _ refl refl
texts count text o = other _ _ _ o refl

executes : (id : ℕ) (o : Seen) → IsDecided sets.Macros (bit 1) false o (execute_macro id o)
executes id (objects.Macro c) = tested _ _ _ (objects.Macro c) _ _ _ refl refl
executes id o = other _ _ _ o refl

-- ---- all commands

abbrev kinds_of_first : Kinds → List Target → Kinds
kinds_of_first kinds [] = kinds
kinds_of_first kinds (t ∷ ts) = t.kinds

-- a property of the first target's kinds holds for the first target of an equal list
by_first : (P : Kinds → Type 0) (first t : Target) (rest ts : List Target) → first ∷ rest ≡ t ∷ ts → P first.kinds → P t.kinds
by_first P first t rest ts is holds = subst P (ap (kinds_of_first first.kinds) is) holds

abbrev IsRefusedBy : Command → Option Kind → Seen → Kinds → Type 0
IsRefusedBy command named o kinds = IsDecided kinds (kind_error command) (has_other_cause command o) o (changed command named o)

decides : (command : Command) (named : Option Kind) (o : Seen) (t : Target) (ts : List Target) → targets (Some (kind_of o)) command ≡ t ∷ ts
    → IsRefusedBy command named o t.kinds
decides (HideShow id state) named o t ts is = by_first (IsRefusedBy (HideShow id state) named o) _ t _ ts is (hides state o)
decides (EnableDisable id state) named o t ts is = by_first (IsRefusedBy (EnableDisable id state) named o) _ t _ ts is (enables state o)
decides (ControlAudio count frequency on off) named o t ts is = absurd cc
decides (SetVolume volume) named o t ts is = absurd cc
decides (ChangeChildLocation parent child dx dy) named o t ts is =
    by_first (IsRefusedBy (ChangeChildLocation parent child dx dy) named o) _ t _ ts is (moves_by named child dx dy o)
decides (ChangeSize id width height) named o t ts is = by_first (IsRefusedBy (ChangeSize id width height) named o) _ t _ ts is (writes sets.Sized o _)
decides (ChangeBackgroundColour id colour) named o t ts is = by_first (IsRefusedBy (ChangeBackgroundColour id colour) named o) _ t _ ts is (writes sets.Coloured o _)
decides (ChangeNumericValue id value) named o t ts is = by_first (IsRefusedBy (ChangeNumericValue id value) named o) _ t _ ts is (values named value o)
decides (ChangeEndPoint id width height direction) named o t ts is =
    by_first (IsRefusedBy (ChangeEndPoint id width height direction) named o) _ t _ ts is (writes_if sets.Lines _ o _)
decides (ChangeFontAttributes id colour size type style) named o t ts is =
    by_first (IsRefusedBy (ChangeFontAttributes id colour size type style) named o) _ t _ ts is (writes sets.Fonts o _)
decides (ChangeLineAttributes id colour width art) named o t ts is =
    by_first (IsRefusedBy (ChangeLineAttributes id colour width art) named o) _ t _ ts is (writes sets.LineAttributes o _)
decides (ChangeFillAttributes id type colour pattern) named o t ts is =
    by_first (IsRefusedBy (ChangeFillAttributes id type colour pattern) named o) _ t _ ts is (fill_attributes named type colour pattern o)
decides (ChangeActiveMask set mask) named o t ts is = by_first (IsRefusedBy (ChangeActiveMask set mask) named o) _ t _ ts is (active_masks named mask o)
decides (ChangeSoftKeyMask type mask keys) named o t ts is =
    by_first (IsRefusedBy (ChangeSoftKeyMask type mask keys) named o) _ t _ ts is (soft_key_masks named type keys o)
decides (ChangeAttribute id number value) named o t ts is =
    by_first (IsRefusedBy (ChangeAttribute id number value) named o) _ t _ ts is (attributes named number value o)
decides (ChangePriority id priority) named o t ts is = by_first (IsRefusedBy (ChangePriority id priority) named o) _ t _ ts is (writes_if sets.AlarmMasks _ o _)
decides (ChangeListItem id index item) named o t ts is = by_first (IsRefusedBy (ChangeListItem id index item) named o) _ t _ ts is (items named index item o)
decides DeletePool named o t ts is = absurd cc
decides (ChangeStringValue id count text) named o t ts is = by_first (IsRefusedBy (ChangeStringValue id count text) named o) _ t _ ts is (texts count text o)
decides (ChangeChildPosition parent child x y) named o t ts is =
    by_first (IsRefusedBy (ChangeChildPosition parent child x y) named o) _ t _ ts is (moves_to named child x y o)
decides (ExecuteMacro id) named o t ts is = by_first (IsRefusedBy (ExecuteMacro id) named o) _ t _ ts is (executes id o)

names_object : (kind : Option Kind) (command : Command) → first_id (targets kind command) ≡ object_of command
names_object kind (HideShow id state) = refl
names_object kind (EnableDisable id state) = refl
names_object kind (ControlAudio count frequency on off) = refl
names_object kind (SetVolume volume) = refl
names_object kind (ChangeChildLocation parent child dx dy) = refl
names_object kind (ChangeSize id width height) = refl
names_object kind (ChangeBackgroundColour id colour) = refl
names_object kind (ChangeNumericValue id value) = refl
names_object kind (ChangeEndPoint id width height direction) = refl
names_object kind (ChangeFontAttributes id colour size type style) = refl
names_object kind (ChangeLineAttributes id colour width art) = refl
names_object kind (ChangeFillAttributes id type colour pattern) = refl
names_object kind (ChangeActiveMask set mask) = refl
names_object kind (ChangeSoftKeyMask type mask keys) = refl
names_object kind (ChangeAttribute id number value) = refl
names_object kind (ChangePriority id priority) = refl
names_object kind (ChangeListItem id index item) = refl
names_object kind DeletePool = refl
names_object kind (ChangeStringValue id count text) = refl
names_object kind (ChangeChildPosition parent child x y) = refl
names_object kind (ExecuteMacro id) = refl

pub kinds_of_changes : KindsAreThoseOfChanges
kinds_of_changes = record {
  object = names_object;
  others = λ command named o t ts is. IsDecided.others (decides command named o t ts is);
  these = λ command named o t ts is. IsDecided.these (decides command named o t ts is);
}
