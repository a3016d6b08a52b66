-- A command that only writes fields writes each of its numbers to the field of its name, and to no other field.
use Rattle.std.proofs.Common.{◌≡◌, ◌%◌, ◌^◌, ℕ, zero, suc, Bool, true, false, List, [], ◌∷◌, map, set, nat_le, slice_get, IfSome, Option, Some, None, Result, Ok, Err, refl, sym, ap, ap₂, subst, ◌∙◌, true≢false, mod-eq_of_lt}
use Rattle.std.proofs.lemmas.Bool.{or_parts}
use Rattle.std.proofs.lemmas.Option.{same_Some}
use Rattle.std.specs.List.{AllByRecursion, list_any}
use Rattle.vt_kinds.specs.declared.kind.Kind.{Kind}
use Rattle.vt_kinds.specs.declared.kind.Kind.TheVariants as kinds
use Rattle.vt_kinds.specs.declared.place.Place.TheVariants as places
use Rattle.vt_kinds.specs.declared.fields.Field.{Field}
use Rattle.vt_kinds.specs.declared.fields.Field.TheVariants as fields
use Rattle.vt_kinds.specs.declared.object.Object.TheVariants as objects
use Rattle.vt_kinds.specs.Layout.{Number, Unsigned, Value, number, natural}
use Rattle.vt_kinds.specs.Records.{Seen, kind_of, fields_of, names_of, values_of}
use Rattle.vt_commands.specs.declared.command.Command.{Command}
use Rattle.vt_commands.specs.declared.command.Command.TheVariants.{ChangeSize, ChangeBackgroundColour, ChangeEndPoint, ChangeFontAttributes, ChangeLineAttributes, ChangeFillAttributes, ChangePriority}
use Rattle.vt_objects.specs.AttributeFields.{IsFieldNamed, AttributesAreFields}
use Rattle.vt_effects.specs.Changes.{if_passed, may_refer, changed}
use Rattle.vt_set_laws.specs.FieldWrites as writes
use Rattle.vt_set_laws.specs.FieldWrites.{Written, written_by, Fits, HasNumber, has_height, IsThere, WritesFields, FieldsAreWritten}

-- ---- places

-- The places of numbers in the record of an object; None for a height, if the record has no height.
data AreAt (old new : Seen) : List Written → List (Option ℕ) → Type 0 where
  ended : AreAt old new [] []
  at : {w : Written} {ws : List Written} {places : List (Option ℕ)} (place : ℕ) → IsFieldNamed (kind_of old) w.name place
      → slice_get (fields_of (kind_of old)) place ≡ Some (Number (Unsigned w.size))
      → slice_get (values_of new) place ≡ Some (number (natural w.n))
      → AreAt old new ws places → AreAt old new (w ∷ ws) (Some place ∷ places)
  missing : {w : Written} {ws : List Written} {places : List (Option ℕ)} → w.name ≡ fields.Height → has_height (kind_of old) ≡ false
      → ((place : ℕ) → IsFieldNamed (kind_of old) w.name place → ⊥) → AreAt old new ws places → AreAt old new (w ∷ ws) (None ∷ places)

-- the values with a number at each place
abbrev put_each : List Value → List Written → List (Option ℕ) → List Value
put_each vs [] places = vs
put_each vs (w ∷ ws) [] = vs
put_each vs (w ∷ ws) (None ∷ places) = put_each vs ws places
put_each vs (w ∷ ws) (Some place ∷ places) = put_each (set vs place (number (natural w.n))) ws places

all_there : (old new : Seen) (ws : List Written) (places : List (Option ℕ)) → AreAt old new ws places
    → AllByRecursion (λ w. IsThere (kind_of old) w.name) ws
all_there old new ws places ended = tt
all_there old new ws places (at {ws = rest} {places = others} place named typed value are) =
    (writes.at place named, all_there old new rest others are)
all_there old new ws places (missing {ws = rest} {places = others} height without never are) =
    (writes.no_height height without, all_there old new rest others are)

-- a name stands at one place alone
all_named : AttributesAreFields → (old new : Seen) (ws : List Written) (places : List (Option ℕ)) → AreAt old new ws places
    → AllByRecursion (λ w. (place : ℕ) → IsFieldNamed (kind_of old) w.name place → HasNumber w old new place) ws
all_named laws old new ws places ended = tt
all_named laws old new ws places (at {w = w} {ws = rest} {places = others} place named typed value are) = (
  λ other is.
      subst (HasNumber w old new) (AttributesAreFields.once laws (kind_of old) w.name place other named is)
      (record { typed = typed; value = value }),
  all_named laws old new rest others are,
)
all_named laws old new ws places (missing {w = w} {ws = rest} {places = others} height without never are) =
    (λ other is. absurd (never other is), all_named laws old new rest others are)

other_value : (vs : List Value) (place : ℕ) (v : Value) (other : ℕ) → (place ≡ other → ⊥)
    → slice_get (set vs place v) other ≡ slice_get vs other
other_value [] place v other differs = refl
other_value (x ∷ vs) zero v zero differs = absurd (differs refl)
other_value (x ∷ vs) zero v (suc other) differs = refl
other_value (x ∷ vs) (suc place) v zero differs = refl
other_value (x ∷ vs) (suc place) v (suc other) differs = other_value vs place v other (λ e. differs (ap suc e))

others_stay : (old new : Seen) (vs : List Value) (ws : List Written) (places : List (Option ℕ)) (other : ℕ) → AreAt old new ws places
    → AllByRecursion (λ w. IsFieldNamed (kind_of old) w.name other → ⊥) ws → slice_get (put_each vs ws places) other ≡ slice_get vs other
others_stay old new vs ws places other ended unnamed = refl
others_stay old new vs ws places other (at {w = w} {ws = rest} {places = later} place named typed value are) unnamed =
    others_stay old new (set vs place (number (natural w.n))) rest later other are unnamed.1
    ∙ other_value vs place (number (natural w.n)) other (λ e. unnamed.0 (subst (IsFieldNamed (kind_of old) w.name) e named))
others_stay old new vs ws places other (missing {ws = rest} {places = later} height without never are) unnamed =
    others_stay old new vs rest later other are unnamed.1

writes_at : AttributesAreFields → (old new : Seen) (ws : List Written) (places : List (Option ℕ)) → AreAt old new ws places
    → kind_of new ≡ kind_of old
    → values_of new ≡ put_each (values_of old) ws places → WritesFields ws old new
writes_at laws old new ws places are kind values = record {
  kind = kind;
  there = all_there old new ws places are;
  named = all_named laws old new ws places are;
  others = λ other unnamed. ap (λ (vs : List Value). slice_get vs other) values
      ∙ others_stay old new (values_of old) ws places other are unnamed;
}

-- ---- a record without a height

abbrev is_height : Option Field → Bool
is_height (Some fields.Height) = true
is_height name = false

no_height : (names : List (Option Field)) → list_any is_height names ≡ false → (place : ℕ)
    → slice_get names place ≡ Some (Some fields.Height) → ⊥
no_height [] none place is = absurd cc
no_height (name ∷ names) none zero is =
    true≢false (sym (ap is_height (same_Some name (Some fields.Height) is)) ∙ (or_parts (is_height name) (list_any is_height names) none).0)
no_height (name ∷ names) none (suc place) is = no_height names (or_parts (is_height name) (list_any is_height names) none).1 place is

-- ---- the lowest bytes of a number

abbrev low : Written → Written
low w = record w { n = w.n % 256 ^ w.size }

low_is : (w : Written) → Fits w → low w ≡ w
low_is w fits = ap (λ (n : ℕ). record w { n = n }) (mod-eq_of_lt fits)

lows_are : (ws : List Written) → AllByRecursion Fits ws → map low ws ≡ ws
lows_are [] all = refl
lows_are (w ∷ ws) all = ap₂ (λ (x : Written) (xs : List Written). x ∷ xs) (low_is w all.0) (lows_are ws all.1)

-- a property of the changed object, if the change is done
abbrev IfDone : (Seen → Type 0) → Result Seen ℕ → Type 0
IfDone P (Ok new) = P new
IfDone P (Err error) = Unit {0}

if_done : (P : Seen → Type 0) (test : Bool) (error : ℕ) (new : Seen) → P new → IfDone P (if_passed test error new)
if_done P true error new is = is
if_done P false error new is = tt

-- ---- the fields of each command

-- a command that is done has written the lowest bytes of its numbers
abbrev IsLow : Command → Option Kind → Seen → Type 0
IsLow command named o = IfSome (written_by command) (λ ws. IfDone (WritesFields (map low ws) o) (changed command named o))

module _ (laws : AttributesAreFields) where
  -- a width and a height, one after the other
  sizes : (id width height : ℕ) (named : Option Kind) (o : Seen) → IsLow (ChangeSize id width height) named o
  sizes id width height named (objects.Container o) =
      writes_at laws _ _ _ (Some 0 ∷ Some 1 ∷ []) (at 0 refl refl refl (at 1 refl refl refl ended)) refl refl
  sizes id width height named (objects.Button o) =
      writes_at laws _ _ _ (Some 0 ∷ Some 1 ∷ []) (at 0 refl refl refl (at 1 refl refl refl ended)) refl refl
  sizes id width height named (objects.InputString o) =
      writes_at laws _ _ _ (Some 0 ∷ Some 1 ∷ []) (at 0 refl refl refl (at 1 refl refl refl ended)) refl refl
  sizes id width height named (objects.InputNumber o) =
      writes_at laws _ _ _ (Some 0 ∷ Some 1 ∷ []) (at 0 refl refl refl (at 1 refl refl refl ended)) refl refl
  sizes id width height named (objects.InputList o) =
      writes_at laws _ _ _ (Some 0 ∷ Some 1 ∷ []) (at 0 refl refl refl (at 1 refl refl refl ended)) refl refl
  sizes id width height named (objects.OutputString o) =
      writes_at laws _ _ _ (Some 0 ∷ Some 1 ∷ []) (at 0 refl refl refl (at 1 refl refl refl ended)) refl refl
  sizes id width height named (objects.OutputNumber o) =
      writes_at laws _ _ _ (Some 0 ∷ Some 1 ∷ []) (at 0 refl refl refl (at 1 refl refl refl ended)) refl refl
  sizes id width height named (objects.Rectangle o) =
      writes_at laws _ _ _ (Some 1 ∷ Some 2 ∷ []) (at 1 refl refl refl (at 2 refl refl refl ended)) refl refl
  sizes id width height named (objects.Ellipse o) =
      writes_at laws _ _ _ (Some 1 ∷ Some 2 ∷ []) (at 1 refl refl refl (at 2 refl refl refl ended)) refl refl
  sizes id width height named (objects.Polygon o) =
      writes_at laws _ _ _ (Some 0 ∷ Some 1 ∷ []) (at 0 refl refl refl (at 1 refl refl refl ended)) refl refl
  sizes id width height named (objects.LinearBar o) =
      writes_at laws _ _ _ (Some 0 ∷ Some 1 ∷ []) (at 0 refl refl refl (at 1 refl refl refl ended)) refl refl
  sizes id width height named (objects.ArchedBar o) =
      writes_at laws _ _ _ (Some 0 ∷ Some 1 ∷ []) (at 0 refl refl refl (at 1 refl refl refl ended)) refl refl
  sizes id width height named (objects.InputBoolean o) =
      writes_at laws _ _ _ (Some 1 ∷ None ∷ [])
      (at 1 refl refl refl (missing refl refl (no_height (names_of kinds.InputBoolean) refl) ended)) refl refl
  sizes id width height named (objects.Meter o) =
      writes_at laws _ _ _ (Some 0 ∷ None ∷ [])
      (at 0 refl refl refl (missing refl refl (no_height (names_of kinds.Meter) refl) ended)) refl refl
  sizes id width height named (objects.Picture o) =
      writes_at laws _ _ _ (Some 0 ∷ None ∷ [])
      (at 0 refl refl refl (missing refl refl (no_height (names_of kinds.Picture) refl) ended)) refl refl
  sizes id width height named o = tt

  colours : (id colour : ℕ) (named : Option Kind) (o : Seen) → IsLow (ChangeBackgroundColour id colour) named o
  colours id colour named (objects.WorkingSet o) = writes_at laws _ _ _ (Some 0 ∷ []) (at 0 refl refl refl ended) refl refl
  colours id colour named (objects.DataMask o) = writes_at laws _ _ _ (Some 0 ∷ []) (at 0 refl refl refl ended) refl refl
  colours id colour named (objects.AlarmMask o) = writes_at laws _ _ _ (Some 0 ∷ []) (at 0 refl refl refl ended) refl refl
  colours id colour named (objects.SoftKeyMask o) = writes_at laws _ _ _ (Some 0 ∷ []) (at 0 refl refl refl ended) refl refl
  colours id colour named (objects.Key o) = writes_at laws _ _ _ (Some 0 ∷ []) (at 0 refl refl refl ended) refl refl
  colours id colour named (objects.Button o) = writes_at laws _ _ _ (Some 2 ∷ []) (at 2 refl refl refl ended) refl refl
  colours id colour named (objects.InputBoolean o) = writes_at laws _ _ _ (Some 0 ∷ []) (at 0 refl refl refl ended) refl refl
  colours id colour named (objects.InputString o) = writes_at laws _ _ _ (Some 2 ∷ []) (at 2 refl refl refl ended) refl refl
  colours id colour named (objects.InputNumber o) = writes_at laws _ _ _ (Some 2 ∷ []) (at 2 refl refl refl ended) refl refl
  colours id colour named (objects.OutputString o) = writes_at laws _ _ _ (Some 2 ∷ []) (at 2 refl refl refl ended) refl refl
  colours id colour named (objects.OutputNumber o) = writes_at laws _ _ _ (Some 2 ∷ []) (at 2 refl refl refl ended) refl refl
  colours id colour named o = tt

  ends : (id width height direction : ℕ) (named : Option Kind) (o : Seen) → IsLow (ChangeEndPoint id width height direction) named o
  ends id width height direction named (objects.Line o) =
      if_done _ (nat_le direction 1) _ _
      (writes_at laws _ _ _ (Some 1 ∷ Some 2 ∷ Some 3 ∷ [])
      (at 1 refl refl refl (at 2 refl refl refl (at 3 refl refl refl ended))) refl refl)
  ends id width height direction named o = tt

  fonts : (id colour size type style : ℕ) (named : Option Kind) (o : Seen) → IsLow (ChangeFontAttributes id colour size type style) named o
  fonts id colour size type style named (objects.Font o) =
      writes_at laws _ _ _ (Some 0 ∷ Some 1 ∷ Some 2 ∷ Some 3 ∷ [])
      (at 0 refl refl refl (at 1 refl refl refl (at 2 refl refl refl (at 3 refl refl refl ended)))) refl refl
  fonts id colour size type style named o = tt

  lines : (id colour width art : ℕ) (named : Option Kind) (o : Seen) → IsLow (ChangeLineAttributes id colour width art) named o
  lines id colour width art named (objects.LineAttributes o) =
      writes_at laws _ _ _ (Some 0 ∷ Some 1 ∷ Some 2 ∷ []) (at 0 refl refl refl (at 1 refl refl refl (at 2 refl refl refl ended))) refl refl
  lines id colour width art named o = tt

  priorities : (id priority : ℕ) (named : Option Kind) (o : Seen) → IsLow (ChangePriority id priority) named o
  priorities id priority named (objects.AlarmMask o) =
      if_done _ (nat_le priority 2) _ _ (writes_at laws _ _ _ (Some 2 ∷ []) (at 2 refl refl refl ended) refl refl)
  priorities id priority named o = tt

  -- fill attributes get the numbers as they are
  fills : (id type colour pattern : ℕ) (named : Option Kind) (o : Seen)
      → IfSome (written_by (ChangeFillAttributes id type colour pattern))
      (λ ws. IfDone (WritesFields ws o) (changed (ChangeFillAttributes id type colour pattern) named o))
  fills id type colour pattern named (objects.FillAttributes o) =
      if_done _ (may_refer kinds.FillAttributes places.Pattern pattern named) _ _
      (writes_at laws _ _ _ (Some 0 ∷ Some 1 ∷ Some 2 ∷ [])
      (at 0 refl refl refl (at 1 refl refl refl (at 2 refl refl refl ended))) refl refl)
  fills id type colour pattern named o = tt

  -- numbers that fit are their own lowest bytes
  whole : (command : Command) (named : Option Kind) (o : Seen) (ws : List Written) → AllByRecursion Fits ws
      → IfDone (WritesFields (map low ws) o) (changed command named o) → IfDone (WritesFields ws o) (changed command named o)
  whole command named o ws fit is = subst (λ (xs : List Written). IfDone (WritesFields xs o) (changed command named o)) (lows_are ws fit) is

  each : (command : Command) (named : Option Kind) (o : Seen)
      → IfSome (written_by command) (λ ws. AllByRecursion Fits ws → IfDone (WritesFields ws o) (changed command named o))
  each (ChangeSize id width height) named o = λ fit. whole (ChangeSize id width height) named o _ fit (sizes id width height named o)
  each (ChangeBackgroundColour id colour) named o =
      λ fit. whole (ChangeBackgroundColour id colour) named o _ fit (colours id colour named o)
  each (ChangeEndPoint id width height direction) named o =
      λ fit. whole (ChangeEndPoint id width height direction) named o _ fit (ends id width height direction named o)
  each (ChangeFontAttributes id colour size type style) named o =
      λ fit. whole (ChangeFontAttributes id colour size type style) named o _ fit (fonts id colour size type style named o)
  each (ChangeLineAttributes id colour width art) named o =
      λ fit. whole (ChangeLineAttributes id colour width art) named o _ fit (lines id colour width art named o)
  each (ChangeFillAttributes id type colour pattern) named o = λ fit. fills id type colour pattern named o
  each (ChangePriority id priority) named o = λ fit. whole (ChangePriority id priority) named o _ fit (priorities id priority named o)
  each _ named o = tt

  pub fields_written : FieldsAreWritten
  fields_written command named o new ws is fit made =
      let of : AllByRecursion Fits ws → IfDone (WritesFields ws o) (changed command named o) = subst IsOf is (each command named o) in
      subst (IfDone (WritesFields ws o)) made (of fit)
    where
      IsOf : Option (List Written) → Type 0
      IsOf found = IfSome found (λ xs. AllByRecursion Fits xs → IfDone (WritesFields xs o) (changed command named o))
