-- The change of an object is refused for an ID if a target of the command does not stand; if all stand, it is not.
use Rattle.std.proofs.Common.{◌≡◌, ◌++◌, ◌==◌, ◌&&◌, ◌||◌, ℕ, suc, Bool, true, false, cond, not, eqb, List, [], ◌∷◌, map, Option, Some, None, Result, Ok, Err, refl, sym, ap, subst, ◌∙◌, true≢false}
use Rattle.std.proofs.lemmas.Bool.{eqb-true, or_right}
use Rattle.std.specs.Prelude.{IsTrue}
use Rattle.std.specs.List.{list_any, list_all, AllByRecursion}
use Rattle.std.specs.Option.{option_map}
use Rattle.std.specs.FinMap as finite
use Rattle.vt_kinds.specs.declared.kind.Kind.{Kind}
use Rattle.vt_kinds.specs.declared.kind.Kind.TheVariants as kinds
use Rattle.vt_kinds.specs.declared.kinds.Kinds.{Kinds}
use Rattle.vt_kinds.specs.declared.kinds.Kinds.TheVariants as sets
use Rattle.vt_kinds.specs.declared.place.Place.{Place}
use Rattle.vt_kinds.specs.declared.place.Place.TheVariants as places
use Rattle.vt_kinds.specs.declared.entries.Child.{Child}
use Rattle.vt_kinds.specs.declared.fields.Attribute.{Attribute}
use Rattle.vt_kinds.specs.declared.fields.ValueType.{ValueType}
use Rattle.vt_kinds.specs.declared.fields.ValueType.TheVariants as types
use Rattle.vt_kinds.specs.declared.object.Object.TheVariants as objects
use Rattle.vt_kinds.specs.Attributes.{attribute_at}
use Rattle.vt_kinds.specs.Ids.{null_id}
use Rattle.vt_kinds.specs.Kinds.{kind_number}
use Rattle.vt_kinds.specs.Records.{Seen, kind_of}
use Rattle.vt_kinds.specs.References.{allowed, may_be_null, is_member, slot, slots_listed}
use Rattle.vt_commands.specs.declared.command.Command.{Command}
use Rattle.vt_commands.specs.declared.command.Command.TheVariants.{HideShow, EnableDisable, ControlAudio, SetVolume, ChangeChildLocation, ChangeSize, ChangeBackgroundColour, ChangeNumericValue, ChangeEndPoint, ChangeFontAttributes, ChangeLineAttributes, ChangeFillAttributes, ChangeActiveMask, ChangeSoftKeyMask, ChangeAttribute, ChangePriority, ChangeListItem, DeletePool, ChangeStringValue, ChangeChildPosition, ExecuteMacro}
use Rattle.vt_commands.specs.Targets.{object, attribute_value, referred, targets}
use Rattle.vt_stores.specs.Stores.{ObjectMap}
use Rattle.vt_verify.specs.References as references
use Rattle.vt_effects.specs.Errors.{bit}
use Rattle.vt_effects.specs.Fields.{low_word, with_field}
use Rattle.vt_effects.specs.Changes.{if_passed, is_one_of, stands_in, moved_child, placed, move_child, for_child, put_children, in_parent, for_kinds, takes, put_attribute, other_id, changed}
use Rattle.vt_effects.specs.Changes as changes
use Rattle.vt_effects.specs.Effects.{kind_in, pointer_value, other_kind}
use Rattle.vt_effects.specs.Soundness.{IsSound, value_fits, is_in_order}
use Rattle.vt_effects.proofs.lemmas.stores.OneChangedObject.{first_of}
use Rattle.vt_set_laws.specs.CommandKinds.{children_in, lacks, has_other_cause}
use Rattle.vt_set_laws.specs.FaultsOfCommands.{is_id, is_reference, id_errors, earlier_errors}
use Rattle.vt_set_laws.proofs.StandingTargets.{is_of, stands, own_stand}

-- a change is refused with one of these errors
pub record IsRefusal (errors : List ℕ) (made : Result Seen ℕ) : Type 0 where
  pub error : ℕ
  pub is : made ≡ Err error
  pub among : list_any (eqb error) errors ≡ true

-- a change is not refused with one of these errors, unless for another cause
abbrev pub IsQuiet : List ℕ → Bool → Result Seen ℕ → Type 0
IsQuiet errors cause made = (error : ℕ) → made ≡ Err error → list_any (eqb error) errors ≡ true → cause ≡ true

-- A change is refused with one of these errors, or of the earlier ones, if a target does not stand. If all stand, it is refused with one
-- of these errors only for another cause.
pub record IsJudged (errors earlier : List ℕ) (cause stand : Bool) (made : Result Seen ℕ) : Type 0 where
  pub refused : stand ≡ false → IsRefusal (errors ++ earlier) made
  pub quiet : stand ≡ true → IsQuiet errors cause made

abbrev error_of : {A : Type 0} → Result A ℕ → ℕ
error_of (Err error) = error
error_of (Ok new) = 0

-- ---- one test

-- all targets stand
all : (errors earlier : List ℕ) (cause : Bool) (made : Result Seen ℕ) → IsQuiet errors cause made → IsJudged errors earlier cause true made
all errors earlier cause made quiet = record { refused = λ falls. absurd cc; quiet = λ _. quiet }

-- a target does not stand
falls : (errors earlier : List ℕ) (cause : Bool) (error : ℕ) → list_any (eqb error) (errors ++ earlier) ≡ true
    → IsJudged errors earlier cause false (Err error)
falls errors earlier cause error among =
    record { refused = λ _. record { error = error; is = refl; among = among }; quiet = λ stand. absurd cc }

-- a change without a test
done : (errors earlier : List ℕ) (cause : Bool) (new : Seen) → IsJudged errors earlier cause true (Ok new)
done errors earlier cause new = all errors earlier cause (Ok new) (λ error is among. absurd cc)

-- another error
other : (errors earlier : List ℕ) (cause : Bool) (fails : ℕ) → list_any (eqb fails) errors ≡ false
    → IsJudged errors earlier cause true (Err fails)
other errors earlier cause fails none =
    all errors earlier cause (Err fails) (λ error is among. absurd (differs error (ap error_of is) among))
  where
    differs : (error : ℕ) → fails ≡ error → list_any (eqb error) errors ≡ true → ⊥
    differs error same among = true≢false (sym among ∙ ap (λ (n : ℕ). list_any (eqb n) errors) (sym same) ∙ none)

-- a test with another error
other_if : (errors earlier : List ℕ) (cause test : Bool) (fails : ℕ) (new : Seen) → list_any (eqb fails) errors ≡ false
    → IsJudged errors earlier cause true (if_passed test fails new)
other_if errors earlier cause true fails new none = done errors earlier cause new
other_if errors earlier cause false fails new none = other errors earlier cause fails none

-- a test that a target stands
tested : (errors earlier : List ℕ) (cause stand : Bool) (error : ℕ) (new : Seen) → list_any (eqb error) (errors ++ earlier) ≡ true
    → IsJudged errors earlier cause (stand && true) (if_passed stand error new)
tested errors earlier cause true error new among = done errors earlier cause new
tested errors earlier cause false error new among = falls errors earlier cause error among

tested_by : (errors earlier : List ℕ) (cause test stand : Bool) (error : ℕ) (new : Seen) → test ≡ stand
    → list_any (eqb error) (errors ++ earlier) ≡ true
    → IsJudged errors earlier cause (stand && true) (if_passed test error new)
tested_by errors earlier cause test stand error new same among =
    subst (λ (b : Bool). IsJudged errors earlier cause (stand && true) (if_passed b error new)) (sym same)
    (tested errors earlier cause stand error new among)

-- a test of the object's kind
of_kinds : (errors earlier : List ℕ) (cause stand : Bool) (kinds : Kinds) (o : Seen) (made : Result Seen ℕ)
    → list_any (eqb (bit 0)) (errors ++ earlier) ≡ true → IsJudged errors earlier cause stand made
    → IsJudged errors earlier cause (is_member kinds (kind_of o) && stand) (for_kinds kinds o made)
of_kinds errors earlier cause stand kinds o made among judged = by (is_member kinds (kind_of o))
  where
    by : (b : Bool) → IsJudged errors earlier cause (b && stand) (cond b made (Err (bit 0)))
    by true = judged
    by false = falls errors earlier cause (bit 0) among

-- ---- the references that a change tests

allowed_plainly : (owner : Kind) (place : Place) (id : ℕ) (kind : Kind)
    → references.may_refer (allowed owner place) id kind ≡ is_member (allowed owner place) kind
allowed_plainly owner places.ActiveMask id kind = refl
allowed_plainly owner places.SoftKeyMask id kind = refl
allowed_plainly kinds.WorkingSet (places.Child index) id kind = refl
allowed_plainly _ (places.Child index) id kind = refl
allowed_plainly owner (places.Key index) id kind = refl
allowed_plainly owner places.Font id kind = refl
allowed_plainly owner places.InputAttributes id kind = refl
allowed_plainly kinds.InputString places.Variable id kind = refl
allowed_plainly kinds.OutputString places.Variable id kind = refl
allowed_plainly _ places.Variable id kind = refl
allowed_plainly owner places.TargetVariable id kind = refl
allowed_plainly owner (places.Item index) id kind = refl
allowed_plainly owner places.LineAttributes id kind = refl
allowed_plainly owner places.Fill id kind = refl
allowed_plainly owner places.Pattern id kind = refl
allowed_plainly owner places.Value id kind = refl

-- an ID may be written at a place exactly if it stands as a target of the kinds of that place
may_stand : (m : ObjectMap) (owner : Kind) (place : Place) (id : ℕ)
    → changes.may_refer owner place id (kind_in m id) ≡ stands m
    (record { id = id; may_be_null = may_be_null place; kinds = allowed owner place })
may_stand m owner place id = by (id == null_id) (kind_in m id)
  where
    by : (b : Bool) (kind : Option Kind)
        → cond b (may_be_null place) (is_one_of (allowed owner place) kind) ≡ cond b (may_be_null place)
        (is_of (allowed owner place) id kind)
    by true kind = refl
    by false None = refl
    by false (Some kind) = sym (allowed_plainly owner place id kind)

-- an ID is that of a mask exactly if it stands as a target that is a mask
mask_stands : (m : ObjectMap) (mask : ℕ) → finite.get m null_id ≡ None
    → is_one_of sets.Masks (kind_in m mask) ≡ stands m (object mask sets.Masks)
mask_stands m mask null = by (eqb mask null_id) refl
  where
    named : (kind : Option Kind) → is_one_of sets.Masks kind ≡ is_of sets.Masks mask kind
    named None = refl
    named (Some kind) = refl

    by : (b : Bool) → eqb mask null_id ≡ b → is_one_of sets.Masks (kind_in m mask) ≡ cond b false (is_of sets.Masks mask (kind_in m mask))
    by true same =
        ap (λ (found : Option Seen). is_one_of sets.Masks (option_map kind_of found))
        (ap (finite.get m) (eqb-true mask null_id same) ∙ null)
    by false named_by = named (kind_in m mask)

-- ---- children

never : (b : Bool) → cond b false false ≡ false
never true = refl
never false = refl

none_stands : (m : ObjectMap) (id : ℕ) (kinds : Kinds) → kind_in m id ≡ None → stands m (object id kinds) ≡ false
none_stands m id kinds none = ap (λ (kind : Option Kind). cond (id == null_id) false (is_of kinds id kind)) none ∙ never (id == null_id)

-- a child in order is drawn
slot_drawn : (m : ObjectMap) (owner : Kind) (index child : ℕ)
    → ((kind : Kind) → is_member (allowed owner (places.Child index)) kind ≡ true → is_member sets.Drawn kind ≡ true)
    → IsTrue (is_in_order m (slot owner (places.Child index) child)) → stands m (object child sets.Drawn) ≡ true
slot_drawn m owner index child drawn is = by (child == null_id) (kind_in m child) is
  where
    by : (b : Bool) (kind : Option Kind)
        → IsTrue (cond b false (is_one_of (allowed owner (places.Child index)) kind
        && value_fits m (slot owner (places.Child index) child) (pointer_value (finite.get m child))))
        → cond b false (is_of sets.Drawn child kind) ≡ true
    by true kind order = order
    by false None order = order
    by false (Some kind) order =
        drawn kind
        (first_of (is_member (allowed owner (places.Child index)) kind)
        (value_fits m (slot owner (places.Child index) child) (pointer_value (finite.get m child))) order)

abbrev AreInOrder : ObjectMap → Kind → ℕ → List Child → Type 0
AreInOrder m owner start children =
    AllByRecursion (λ s. IsTrue (is_in_order m s)) (slots_listed owner places.Child start (map (λ c. c.id) children))

child_drawn : (m : ObjectMap) (owner : Kind) (child : ℕ)
    → ((index : ℕ) (kind : Kind) → is_member (allowed owner (places.Child index)) kind ≡ true → is_member sets.Drawn kind ≡ true)
    → (start : ℕ) (children : List Child) → AreInOrder m owner start children → stands_in child children ≡ true
    → stands m (object child sets.Drawn) ≡ true
child_drawn m owner child drawn start [] ordered is = absurd cc
child_drawn m owner child drawn start (c ∷ children) ordered is =
    by (eqb c.id child) refl is (child_drawn m owner child drawn (suc start) children ordered.1)
  where
    by : (b : Bool) → eqb c.id child ≡ b → (b || stands_in child children) ≡ true
        → (stands_in child children ≡ true → stands m (object child sets.Drawn) ≡ true)
        → stands m (object child sets.Drawn) ≡ true
    by true same here later =
        slot_drawn m owner start child (drawn start)
        (subst (λ (id : ℕ). IsTrue (is_in_order m (slot owner (places.Child start) id))) (eqb-true c.id child same) ordered.0)
    by false differs there later = later there

put_error : (parent : List Child → Seen) (error : ℕ) (made : Result (List Child) ℕ)
    → ◌≡◌ {A = Result Seen ℕ} (put_children parent made) (Err error) → made ≡ Err error
put_error parent error (Ok children) is = absurd cc
put_error parent error (Err fails) is = let same : fails ≡ error = ap error_of is in ap (λ (n : ℕ). Err n) same

-- the errors of a move for its IDs
abbrev move_errors : List ℕ
move_errors = bit 0 ∷ bit 1 ∷ []

-- a move of a child that stands and is in its parent has none of these errors
abbrev IsOtherwise : Result (List Child) ℕ → Type 0
IsOtherwise moved = (error : ℕ) → moved ≡ Err error → list_any (eqb error) move_errors ≡ true → ⊥

judged_child : (child : ℕ) (named : Option Kind) (children : List Child) (parent : List Child → Seen) (moved : Result (List Child) ℕ)
    (stand : Bool) → (named ≡ None → stand ≡ false) → (stands_in child children ≡ true → stand ≡ true) → IsOtherwise moved
    → IsJudged move_errors [] (not (stands_in child children)) (stand && true) (put_children parent (for_child child named children moved))
judged_child child None children parent moved stand missing drawn otherwise =
    subst (λ (b : Bool). IsJudged move_errors [] (not (stands_in child children)) (b && true) (Err (bit 1))) (sym (missing refl))
    (falls move_errors [] (not (stands_in child children)) (bit 1) refl)
judged_child child (Some kind) children parent moved stand missing drawn otherwise = by (stands_in child children) drawn
  where
    outside : (b : Bool) → IsJudged move_errors [] true (b && true) (Err (bit 0))
    outside true = all move_errors [] true (Err (bit 0)) (λ error is among. refl)
    outside false = falls move_errors [] true (bit 0) refl

    by : (b : Bool) → (b ≡ true → stand ≡ true)
        → IsJudged move_errors [] (not b) (stand && true) (put_children parent (cond b moved (Err (bit 0))))
    by true inside =
        subst (λ (s : Bool). IsJudged move_errors [] false (s && true) (put_children parent moved)) (sym (inside refl))
        (all move_errors [] false (put_children parent moved)
        (λ error is among. absurd (otherwise error (put_error parent error moved is) among)))
    by false inside = outside stand

abbrev moving : ObjectMap → ℕ → (List Child → Result (List Child) ℕ) → List Child → Result (List Child) ℕ
moving m child moved children = for_child child (kind_in m child) children (moved children)

-- a move of a child in an object
module _ (m : ObjectMap) (id child : ℕ) (moved : List Child → Result (List Child) ℕ)
    (otherwise : (children : List Child) → IsOtherwise (moved children)) (sound : IsSound m) where
  in_parent_judged : (owner : Kind) (parent : List Child → Seen) (children : List Child)
      → ((index : ℕ) (kind : Kind) → is_member (allowed owner (places.Child index)) kind ≡ true → is_member sets.Drawn kind ≡ true)
      → AreInOrder m owner 0 children
      → IsJudged move_errors [] (not (stands_in child children)) (stands m (object child sets.Drawn) && true)
      (put_children parent (moving m child moved children))
  in_parent_judged owner parent children drawn ordered =
      judged_child child (kind_in m child) children parent (moved children) (stands m (object child sets.Drawn))
      (none_stands m child sets.Drawn)
      (child_drawn m owner child drawn 0 children ordered) (otherwise children)

  moves : (o : Seen) → finite.get m id ≡ Some o
      → IsJudged move_errors [] (lacks (children_in o) child)
      (is_member sets.Parents (kind_of o) && (stands m (object child sets.Drawn) && true)) (in_parent (moving m child moved) o)
  moves (objects.WorkingSet o) at =
      in_parent_judged kinds.WorkingSet _ o.children
      (λ index kind is. or_right (0 == kind_number kind) (is_member sets.DrawnInWorkingSet kind) is)
      (IsSound.slots sound id (objects.WorkingSet o) at).1
  moves (objects.DataMask o) at =
      in_parent_judged kinds.DataMask _ o.children (λ index kind is. is) (IsSound.slots sound id (objects.DataMask o) at).1
  moves (objects.AlarmMask o) at =
      in_parent_judged kinds.AlarmMask _ o.children (λ index kind is. is) (IsSound.slots sound id (objects.AlarmMask o) at).1
  moves (objects.Container o) at =
      in_parent_judged kinds.Container _ o.children (λ index kind is. is) (IsSound.slots sound id (objects.Container o) at)
  moves (objects.Key o) at = in_parent_judged kinds.Key _ o.children (λ index kind is. is) (IsSound.slots sound id (objects.Key o) at)
  moves (objects.Button o) at =
      in_parent_judged kinds.Button _ o.children (λ index kind is. is) (IsSound.slots sound id (objects.Button o) at)
  moves o at = falls move_errors [] _ (bit 0) refl

position_tested : (test : Bool) (children : List Child) → IsOtherwise (if_passed test (bit 4) children)
position_tested true children error is among = absurd cc
position_tested false children error is among =
    let same : bit 4 ≡ error = ap error_of is in
    let above : false ≡ true = subst (λ (n : ℕ). list_any (eqb n) move_errors ≡ true) (sym same) among in
    absurd cc

-- ---- attributes

judged_value : (m : ObjectMap) (kind : Kind) (type : ValueType) (value : ℕ) (new : Seen)
    → IsJudged (bit 0 ∷ cond (is_id type) (bit 2 ∷ []) []) [] false (list_all (stands m) (referred kind type value))
    (if_passed (takes kind type value (kind_in m (low_word value))) (bit 2) new)
judged_value m kind (types.Reference place) value new = tested_by _ _ _ _ _ (bit 2) new (may_stand m kind place (low_word value)) refl
judged_value m kind type value new = other_if _ _ _ (takes kind type value (kind_in m (low_word value))) (bit 2) new refl

judged_attribute : (m : ObjectMap) (o : Seen) (attribute : Option Attribute) (value : ℕ)
    → IsJudged (bit 0 ∷ cond (is_reference attribute) (bit 2 ∷ []) []) [] false
    (list_all (stands m) (attribute_value (kind_of o) attribute value))
    (put_attribute attribute (kind_in m (low_word value)) value o)
judged_attribute m o None value = other _ _ _ (bit 1) refl
judged_attribute m o (Some attribute) value = judged_value m (kind_of o) attribute.value_type value (with_field attribute.field value o)

-- ---- two tests

judged_keys : (first test stand : Bool) (new : Seen) → test ≡ stand
    → IsJudged (bit 0 ∷ bit 1 ∷ []) [] (not first) (stand && true)
    (cond {A = Result Seen ℕ} first (if_passed test (bit 1) new) (Err (bit 0)))
judged_keys true test stand new same = tested_by _ _ _ test stand (bit 1) new same refl
judged_keys false test true new same = all _ _ _ (Err (bit 0)) (λ error is among. refl)
judged_keys false test false new same = falls _ _ _ (bit 0) refl

judged_item : (first test stand : Bool) (new : Seen) → test ≡ stand
    → IsJudged (bit 0 ∷ bit 2 ∷ []) (bit 1 ∷ []) false (stand && true)
    (cond {A = Result Seen ℕ} first (if_passed test (bit 2) new) (Err (bit 1)))
judged_item true test stand new same = tested_by _ _ _ test stand (bit 2) new same refl
judged_item false test true new same = other _ _ _ (bit 1) refl
judged_item false test false new same = falls _ _ _ (bit 1) refl

-- ---- all commands

abbrev pub IsJudgedOn : ObjectMap → Command → Seen → Type 0
IsJudgedOn m command o =
    IsJudged (id_errors command o) (earlier_errors command) (has_other_cause command o) (own_stand m o (targets (Some (kind_of o)) command))
    (changed command (other_kind m (other_id command)) o)

module _ (m : ObjectMap) (at : ℕ) (sound : IsSound m) (null : finite.get m null_id ≡ None) where
  pub judges : (command : Command) (o : Seen) → finite.get m at ≡ Some o → IsJudgedOn m command o
  judges (HideShow id state) (objects.Container o) there = other_if _ _ _ _ _ _ refl
  judges (HideShow id state) o there = falls _ _ _ _ refl
  judges (EnableDisable id state) (objects.InputBoolean o) there = other_if _ _ _ _ _ _ refl
  judges (EnableDisable id state) (objects.InputString o) there = other_if _ _ _ _ _ _ refl
  judges (EnableDisable id state) (objects.InputNumber o) there = other_if _ _ _ _ _ _ refl
  judges (EnableDisable id state) (objects.InputList o) there = other_if _ _ _ _ _ _ refl
  judges (EnableDisable id state) o there = falls _ _ _ _ refl
  judges (ControlAudio count frequency on off) o there = done _ _ _ o
  judges (SetVolume volume) o there = done _ _ _ o
  judges (ChangeChildLocation parent child dx dy) o there =
      moves m at child
      (λ children. if_passed (not (changes.leaves child dx dy children)) (bit 4) (move_child child (moved_child dx dy) children))
      (λ children. position_tested (not (changes.leaves child dx dy children)) (move_child child (moved_child dx dy) children))
      sound o there
  judges (ChangeSize id width height) o there = of_kinds _ _ _ _ sets.Sized o _ refl (done _ _ _ _)
  judges (ChangeBackgroundColour id colour) o there = of_kinds _ _ _ _ sets.Coloured o _ refl (done _ _ _ _)
  judges (ChangeNumericValue id value) (objects.InputBoolean o) there = other_if _ _ _ _ _ _ refl
  judges (ChangeNumericValue id value) (objects.InputNumber o) there = other_if _ _ _ _ _ _ refl
  judges (ChangeNumericValue id value) (objects.InputList o) there = other_if _ _ _ _ _ _ refl
  judges (ChangeNumericValue id value) (objects.OutputNumber o) there = done _ _ _ _
  judges (ChangeNumericValue id value) (objects.Meter o) there = done _ _ _ _
  judges (ChangeNumericValue id value) (objects.LinearBar o) there = done _ _ _ _
  judges (ChangeNumericValue id value) (objects.ArchedBar o) there = done _ _ _ _
  judges (ChangeNumericValue id value) (objects.NumberVariable o) there = done _ _ _ _
  judges (ChangeNumericValue id value) (objects.ObjectPointer o) there =
      tested_by _ _ _ _ _ (bit 1) _ (may_stand m kinds.ObjectPointer places.Value (low_word value)) refl
  judges (ChangeNumericValue id value) o there = falls _ _ _ _ refl
  judges (ChangeEndPoint id width height direction) o there = of_kinds _ _ _ _ sets.Lines o _ refl (other_if _ _ _ _ _ _ refl)
  judges (ChangeFontAttributes id colour size type style) o there = of_kinds _ _ _ _ sets.Fonts o _ refl (done _ _ _ _)
  judges (ChangeLineAttributes id colour width art) o there = of_kinds _ _ _ _ sets.LineAttributes o _ refl (done _ _ _ _)
  judges (ChangeFillAttributes id type colour pattern) (objects.FillAttributes o) there =
      tested_by _ _ _ _ _ (bit 3) _ (may_stand m kinds.FillAttributes places.Pattern pattern) refl
  judges (ChangeFillAttributes id type colour pattern) o there = falls _ _ _ _ refl
  judges (ChangeActiveMask set mask) (objects.WorkingSet o) there = tested_by _ _ _ _ _ (bit 1) _ (mask_stands m mask null) refl
  judges (ChangeActiveMask set mask) o there = falls _ _ _ _ refl
  judges (ChangeSoftKeyMask type mask keys) (objects.DataMask o) there =
      judged_keys (type == 1) _ _ _ (may_stand m kinds.DataMask places.SoftKeyMask keys)
  judges (ChangeSoftKeyMask type mask keys) (objects.AlarmMask o) there =
      judged_keys (type == 2) _ _ _ (may_stand m kinds.AlarmMask places.SoftKeyMask keys)
  judges (ChangeSoftKeyMask type mask keys) o there = falls _ _ _ _ refl
  judges (ChangeAttribute id number value) o there =
      of_kinds _ _ _ _ sets.WithAttributes o _ refl (judged_attribute m o (attribute_at (kind_of o) number) value)
  judges (ChangePriority id priority) o there = of_kinds _ _ _ _ sets.AlarmMasks o _ refl (other_if _ _ _ _ _ _ refl)
  judges (ChangeListItem id index item) (objects.InputList o) there =
      judged_item _ _ _ _ (may_stand m kinds.InputList (places.Item index) item)
  judges (ChangeListItem id index item) o there = falls _ _ _ _ refl
  judges DeletePool o there = done _ _ _ o
  judges (ChangeStringValue id count text) (objects.InputString o) there = other_if _ _ _ _ _ _ refl
  judges (ChangeStringValue id count text) (objects.OutputString o) there = other_if _ _ _ _ _ _ refl
  judges (ChangeStringValue id count text) (objects.StringVariable o) there = other_if _ _ _ _ _ _ refl
  judges (ChangeStringValue id count text) o there = falls _ _ _ _ refl
  judges (ChangeChildPosition parent child x y) o there =
      moves m at child (λ children. Ok (move_child child (placed x y) children)) (λ children error is among. absurd cc) sound o there
  judges (ExecuteMacro id) (objects.Macro o) there = tested _ _ _ _ _ _ refl
  judges (ExecuteMacro id) o there = falls _ _ _ _ refl
