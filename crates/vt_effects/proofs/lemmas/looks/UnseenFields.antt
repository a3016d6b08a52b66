-- A command that writes no field in a text leaves the look of its object.
use Rattle.std.proofs.Common.{◌≡◌, ℕ, Bool, true, false, cond, nat_le, not, ◌&&◌, List, [], ◌∷◌, Option, Some, None, Result, Ok, Err, refl, sym, subst, ◌∙◌}
use Rattle.std.specs.List.{AllByRecursion}
use Rattle.vt_kinds.specs.declared.kind.Kind.{Kind}
use Rattle.vt_kinds.specs.declared.kind.Kind.TheVariants as kinds
use Rattle.vt_kinds.specs.declared.kinds.Kinds.{Kinds}
use Rattle.vt_kinds.specs.declared.kinds.Kinds.TheVariants as sets
use Rattle.vt_kinds.specs.declared.fields.Attribute.{Attribute}
use Rattle.vt_kinds.specs.declared.fields.Field.{Field}
use Rattle.vt_kinds.specs.declared.fields.Field.TheVariants as fields
use Rattle.vt_kinds.specs.declared.object.Object.TheVariants as objects
use Rattle.vt_kinds.specs.declared.place.Place.TheVariants as places
use Rattle.vt_commands.specs.declared.command.Command.{Command}
use Rattle.vt_commands.specs.declared.command.Command.TheVariants.{HideShow, ControlAudio, SetVolume, ChangeSize, ChangeBackgroundColour, ChangeFontAttributes, ChangeLineAttributes, ChangeFillAttributes, ChangeAttribute, ChangePriority, DeletePool, ExecuteMacro}
use Rattle.vt_kinds.specs.Records.{Seen, kind_of}
use Rattle.vt_kinds.specs.Attributes.{attribute_at}
use Rattle.vt_kinds.specs.References.{is_member}
use Rattle.vt_effects.specs.Fields.{with_field, with_fields}
use Rattle.vt_effects.specs.Errors as errors
use Rattle.vt_effects.specs.Changes.{left, if_passed, may_refer, takes, put_attribute, write_fields_if, changed}
use Rattle.vt_effects.specs.Looks.{look, is_in_text, is_unseen_attribute, shows_width, shows_height, writes_unseen}

kind_stays : (field : Field) (n : ℕ) (o : Seen) → kind_of (with_field field n o) ≡ kind_of o
kind_stays field n (objects.WorkingSet o) = refl
kind_stays field n _ = refl

-- a written field that no text shows leaves the look
field_unseen : (o : Seen) (field : Field) (n : ℕ) → is_in_text field (kind_of o) ≡ false → look (with_field field n o) ≡ look o
field_unseen (objects.WorkingSet o) fields.Colour n unseen = refl
field_unseen (objects.WorkingSet o) _ n unseen = cc
field_unseen (objects.DataMask o) fields.Colour n unseen = refl
field_unseen (objects.DataMask o) _ n unseen = cc
field_unseen (objects.AlarmMask o) fields.Colour n unseen = refl
field_unseen (objects.AlarmMask o) _ n unseen = cc
field_unseen (objects.Container o) fields.Colour n unseen = refl
field_unseen (objects.Container o) _ n unseen = cc
field_unseen (objects.SoftKeyMask o) fields.Colour n unseen = refl
field_unseen (objects.SoftKeyMask o) _ n unseen = cc
field_unseen (objects.Key o) fields.Colour n unseen = refl
field_unseen (objects.Key o) _ n unseen = cc
field_unseen (objects.Button o) fields.Colour n unseen = refl
field_unseen (objects.Button o) _ n unseen = cc
field_unseen (objects.InputBoolean o) fields.Colour n unseen = refl
field_unseen (objects.InputBoolean o) _ n unseen = cc
field_unseen (objects.InputString o) fields.Colour n unseen = refl
field_unseen (objects.InputString o) _ n unseen = cc
field_unseen (objects.InputNumber o) fields.Colour n unseen = refl
field_unseen (objects.InputNumber o) _ n unseen = cc
field_unseen (objects.InputList o) fields.Colour n unseen = refl
field_unseen (objects.InputList o) _ n unseen = cc
field_unseen (objects.OutputString o) fields.Colour n unseen = refl
field_unseen (objects.OutputString o) _ n unseen = cc
field_unseen (objects.OutputNumber o) fields.Colour n unseen = refl
field_unseen (objects.OutputNumber o) _ n unseen = cc
field_unseen (objects.Line o) fields.Colour n unseen = refl
field_unseen (objects.Line o) _ n unseen = cc
field_unseen (objects.Rectangle o) fields.Colour n unseen = refl
field_unseen (objects.Rectangle o) _ n unseen = cc
field_unseen (objects.Ellipse o) fields.Colour n unseen = refl
field_unseen (objects.Ellipse o) _ n unseen = cc
field_unseen (objects.Polygon o) fields.Colour n unseen = refl
field_unseen (objects.Polygon o) _ n unseen = cc
field_unseen (objects.Meter o) fields.Colour n unseen = refl
field_unseen (objects.Meter o) _ n unseen = cc
field_unseen (objects.LinearBar o) fields.Colour n unseen = refl
field_unseen (objects.LinearBar o) _ n unseen = cc
field_unseen (objects.ArchedBar o) fields.Colour n unseen = refl
field_unseen (objects.ArchedBar o) _ n unseen = cc
field_unseen (objects.Picture o) fields.Colour n unseen = refl
field_unseen (objects.Picture o) _ n unseen = cc
field_unseen (objects.Font o) fields.Colour n unseen = refl
field_unseen (objects.Font o) _ n unseen = cc
field_unseen (objects.LineAttributes o) fields.Colour n unseen = refl
field_unseen (objects.LineAttributes o) _ n unseen = cc
field_unseen (objects.FillAttributes o) fields.Colour n unseen = refl
field_unseen (objects.FillAttributes o) _ n unseen = cc
field_unseen (objects.InputAttributes o) fields.Colour n unseen = refl
field_unseen (objects.InputAttributes o) _ n unseen = cc
field_unseen (objects.ObjectPointer o) fields.Colour n unseen = refl
field_unseen (objects.ObjectPointer o) _ n unseen = cc
field_unseen _ field n unseen = refl

-- no text shows one of the fields, in an object of a kind
abbrev AreUnseen : Kind → List (Field × ℕ) → Type 0
AreUnseen kind values = AllByRecursion (λ v. is_in_text v.0 kind ≡ false) values

fields_unseen : (values : List (Field × ℕ)) (o : Seen) → AreUnseen (kind_of o) values → look (with_fields values o) ≡ look o
fields_unseen [] o unseen = refl
fields_unseen (v ∷ values) o unseen =
    fields_unseen values (with_field v.0 v.1 o) (subst (λ (k : Kind). AreUnseen k values) (sym (kind_stays v.0 v.1 o)) unseen.1)
    ∙ field_unseen o v.0 v.1 unseen.0

-- ---- tests

is_false : (b : Bool) → not b ≡ true → b ≡ false
is_false true e = absurd cc
is_false false e = refl

first : (a b : Bool) → (a && b) ≡ true → a ≡ true
first true b e = refl
first false b e = absurd cc

second : (a b : Bool) → (a && b) ≡ true → b ≡ true
second true b e = e
second false b e = absurd cc

under : (test : Bool) (error : ℕ) (o : Seen) (made : Result Seen ℕ) → look (left o made) ≡ look o → look (left o (cond test made (Err error))) ≡ look o
under true error o made same = same
under false error o made same = refl

passed : (test : Bool) (error : ℕ) (o new : Seen) → look new ≡ look o → look (left o (if_passed test error new)) ≡ look o
passed test error o new same = under test error o (Ok new) same

-- ---- commands

row : (kinds : Kinds) (test : Bool) (error : ℕ) (values : List (Field × ℕ)) (o : Seen) → AreUnseen (kind_of o) values
    → look (left o (write_fields_if kinds test error values o)) ≡ look o
row kinds test error values o unseen =
    under (is_member kinds (kind_of o)) _ o (if_passed test error (with_fields values o)) (passed test error o (with_fields values o) (fields_unseen values o unseen))

attribute_unseen : (named : Option Kind) (n : ℕ) (o : Seen) (found : Option Attribute) → is_unseen_attribute found (kind_of o) ≡ true
    → look (left o (put_attribute found named n o)) ≡ look o
attribute_unseen named n o None unseen = refl
attribute_unseen named n o (Some a) unseen =
    passed (takes (kind_of o) a.value_type n named) _ o (with_field a.field n o) (field_unseen o a.field n (is_false (is_in_text a.field (kind_of o)) unseen))

pub look_stays : (command : Command) (named : Option Kind) (o : Seen) → writes_unseen command (kind_of o) ≡ true → look (left o (changed command named o)) ≡ look o
look_stays (ChangeSize id width height) named o unseen =
    let narrow = is_false (shows_width (kind_of o)) (first _ _ unseen) in
    let low = is_false (shows_height (kind_of o)) (second _ _ unseen) in
    row sets.Sized true 0 ((fields.Width, width) ∷ (fields.Height, height) ∷ []) o (narrow, (low, tt))
look_stays (ChangeAttribute id number value) named o unseen =
    under (is_member sets.WithAttributes (kind_of o)) _ o _ (attribute_unseen named value o (attribute_at (kind_of o) number) unseen)
look_stays (ChangeBackgroundColour id colour) named o unseen = row sets.Coloured true 0 ((fields.Colour, colour) ∷ []) o (refl, tt)
look_stays (ChangeFontAttributes id colour size type style) named o unseen =
    row sets.Fonts true 0 ((fields.Colour, colour) ∷ (fields.Size, size) ∷ (fields.Type, type) ∷ (fields.Style, style) ∷ []) o (refl, (refl, (refl, (refl, tt))))
look_stays (ChangeLineAttributes id colour width art) named o unseen =
    row sets.LineAttributes true 0 ((fields.Colour, colour) ∷ (fields.Width, width) ∷ (fields.LineArt, art) ∷ []) o
    (refl, (is_false (shows_width (kind_of o)) unseen, (refl, tt)))
look_stays (ChangeFillAttributes id type colour pattern) named (objects.FillAttributes o) unseen =
    passed (may_refer kinds.FillAttributes places.Pattern pattern named) errors.PATTERN (objects.FillAttributes o)
    (objects.FillAttributes (record o { fill_type = type; colour = colour; pattern = pattern })) refl
look_stays (ChangePriority id priority) named o unseen = row sets.AlarmMasks _ _ ((fields.Priority, priority) ∷ []) o (refl, tt)
look_stays (ExecuteMacro id) named (objects.Macro o) unseen = passed (nat_le id 255) errors.MACRO_ID (objects.Macro o) (objects.Macro o) refl
look_stays (ControlAudio count frequency on off) named o unseen = refl
look_stays (SetVolume volume) named o unseen = refl
look_stays (HideShow id state) named o unseen = absurd cc
look_stays _ named o unseen = cc
