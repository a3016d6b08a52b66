-- Change Attribute writes the field of each attribute, and no other field.
use Rattle.std.proofs.Common.{◌≡◌, ◌<◌, ◌%◌, ◌^◌, ◌==◌, ℕ, zero, suc, Bool, true, false, cond, List, [], ◌∷◌, set, slice_get, is_some, Option, Some, Result, Ok, Err, refl, sym, ap, subst, ◌∙◌, mod-eq_of_lt}
use Rattle.std.proofs.lemmas.Bool.{cond-true, eqb-true}
use Rattle.std.proofs.lemmas.Option.{same_Some}
use Rattle.std.specs.Int.{w32, cast_signed}
use Rattle.std.specs.List.{AllByRecursion}
use Rattle.std.specs.Prelude.{nat_le}
use Rattle.vt_kinds.specs.declared.kind.Kind.{Kind}
use Rattle.vt_kinds.specs.declared.kind.Kind.TheVariants as kinds
use Rattle.vt_kinds.specs.declared.kinds.Kinds.TheVariants as sets
use Rattle.vt_kinds.specs.declared.fields.Attribute.{Attribute}
use Rattle.vt_kinds.specs.declared.fields.Field.TheVariants as fields
use Rattle.vt_kinds.specs.declared.object.Object.TheVariants as objects
use Rattle.vt_kinds.specs.declared.scale.Scale.{Scale}
use Rattle.vt_kinds.specs.Attributes.{attribute_at, attributes_of, attribute_numbered, byte}
use Rattle.vt_kinds.specs.Layout.{Value, number, natural, integer}
use Rattle.vt_kinds.specs.Records.{Seen, kind_of, fields_of, values_of}
use Rattle.vt_kinds.specs.References.{is_member}
use Rattle.vt_kinds.specs.Scales.{scale_number, scales, scale_at, scale_among}
use Rattle.vt_commands.specs.declared.command.Command.TheVariants.{ChangeAttribute}
use Rattle.vt_stores.specs.Shapes.{Fixed, fixed}
use Rattle.vt_objects.specs.AttributeFields.{IsField, IsFieldNamed, field_of, changed_value}
use Rattle.vt_effects.specs.Fields.{or_scale, scale_of, decimals_of, with_field}
use Rattle.vt_effects.specs.Fields as effects
use Rattle.vt_effects.specs.Changes.{ChangesKeep, if_passed, left, takes, put_attribute, change_attribute}
use Rattle.vt_effects.specs.Errors.{bit}
use Rattle.vt_set_laws.specs.AttributeWrites.{AttributesAreWritten}

-- ---- values

-- a value of four bytes equals its lowest four bytes
whole : (n : ℕ) → n < 256 ^ 4 → n ≡ n % 256 ^ 4
whole n lt = sym (mod-eq_of_lt lt)

long_whole : (n : ℕ) → n < 256 ^ 4 → number (natural n) ≡ number (natural (n % 256 ^ 4))
long_whole n lt = ap (λ (m : ℕ). number (natural m)) (whole n lt)

signed_whole : (n : ℕ) → n < 256 ^ 4 → number (integer (cast_signed w32 n)) ≡ number (integer (cast_signed w32 (n % 256 ^ 4)))
signed_whole n lt = ap (λ (m : ℕ). number (integer (cast_signed w32 m))) (whole n lt)

-- the scale found for a number has that number
scale_found : (old : Scale) (among : List Scale) (n : ℕ) → is_some (scale_among among n) ≡ true
    → scale_number (or_scale old (scale_among among n)) ≡ n
scale_found old [] n passed = absurd cc
scale_found old (s ∷ others) n passed = by (n == scale_number s) refl passed (scale_found old others n)
  where
    by : (b : Bool) → (n == scale_number s) ≡ b → is_some (cond b (Some s) (scale_among others n)) ≡ true
        → (is_some (scale_among others n) ≡ true → scale_number (or_scale old (scale_among others n)) ≡ n)
        → scale_number (or_scale old (cond b (Some s) (scale_among others n))) ≡ n
    by true e found rest = sym (eqb-true n (scale_number s) e)
    by false e found rest = rest found

scale_whole : (old : Scale) (n : ℕ) → n < 256 ^ 4 → is_some (scale_at n) ≡ true
    → number (natural (scale_number (scale_of old n))) ≡ number (natural (n % 256 ^ 4))
scale_whole old n lt passed = ap (λ (m : ℕ). number (natural m)) (scale_found old scales n passed ∙ whole n lt)

decimals_lowest : (old n : ℕ) → nat_le (effects.low_byte n) 7 ≡ true
    → number (natural (decimals_of old n)) ≡ number (natural (n % 256 ^ 1))
decimals_lowest old n passed = ap (λ (m : ℕ). number (natural m)) (cond-true (nat_le (effects.low_byte n) 7) (effects.low_byte n) old passed)

-- ---- each attribute

-- the new values of an object are the old ones, except in the field of an attribute
record HasWritten (attribute : Attribute) (n : ℕ) (o new : Seen) : Type 0 where
  place : ℕ
  is_field : IsField (kind_of o) attribute place
  values : values_of new ≡ set (values_of o) place (changed_value attribute.value_type n)

-- the field is written, if it accepts the value
record IsPut (named : Option Kind) (n : ℕ) (o : Seen) (attribute : Attribute) : Type 0 where
  of : takes (kind_of o) attribute.value_type n named ≡ true → HasWritten attribute n o (with_field attribute.field n o)

put : {named : Option Kind} {n : ℕ} {o : Seen} {attribute : Attribute} {Others : Type 0} (place : ℕ) (value : Value)
    → IsFieldNamed (kind_of o) attribute.field place → slice_get (fields_of (kind_of o)) place ≡ Some (field_of attribute.value_type)
    → values_of (with_field attribute.field n o) ≡ set (values_of o) place value
    → (takes (kind_of o) attribute.value_type n named ≡ true → value ≡ changed_value attribute.value_type n) → Others → IsPut named n o attribute × Others
put {named = named} {n = n} {o = o} {attribute = attribute} place value name typed values is others = (here, others)
  where
    here : IsPut named n o attribute
    here = record {
      of = λ passed. record {
        place = place;
        is_field = record { named = name; typed = typed };
        values = values ∙ ap (set (values_of o) place) (is passed);
      };
    }

plain : {named : Option Kind} {n : ℕ} {o : Seen} {attribute : Attribute} {Others : Type 0} (place : ℕ)
    → IsFieldNamed (kind_of o) attribute.field place → slice_get (fields_of (kind_of o)) place ≡ Some (field_of attribute.value_type)
    → values_of (with_field attribute.field n o) ≡ set (values_of o) place (changed_value attribute.value_type n) → Others
    → IsPut named n o attribute × Others
plain {n = n} {attribute = attribute} place name typed values others =
    put place (changed_value attribute.value_type n) name typed values (λ passed. refl) others

-- all attributes of each kind, by their indices in the record
each : (named : Option Kind) (n : ℕ) → n < 256 ^ 4 → (o : Seen) → AllByRecursion (IsPut named n o) (attributes_of (kind_of o))
each named n lt (objects.WorkingSet o) = plain 0 refl refl refl (plain 1 refl refl refl tt)
each named n lt (objects.DataMask o) = plain 0 refl refl refl (plain 1 refl refl refl tt)
each named n lt (objects.AlarmMask o) = plain 0 refl refl refl (plain 1 refl refl refl (plain 2 refl refl refl (plain 3 refl refl refl tt)))
each named n lt (objects.Container o) = plain 0 refl refl refl (plain 1 refl refl refl tt)
each named n lt (objects.SoftKeyMask o) = plain 0 refl refl refl tt
each named n lt (objects.Key o) = plain 0 refl refl refl (plain 1 refl refl refl tt)
each named n lt (objects.Button o) =
    plain 0 refl refl refl (plain 1 refl refl refl (plain 2 refl refl refl (plain 3 refl refl refl (plain 4 refl refl refl
    (plain 5 refl refl refl tt)))))
each named n lt (objects.InputBoolean o) =
    plain 0 refl refl refl (plain 1 refl refl refl (plain 2 refl refl refl (plain 3 refl refl refl tt)))
each named n lt (objects.InputString o) =
    plain 0 refl refl refl (plain 1 refl refl refl (plain 2 refl refl refl (plain 3 refl refl refl (plain 4 refl refl refl
    (plain 5 refl refl refl (plain 6 refl refl refl (plain 7 refl refl refl tt)))))))
each named n lt (objects.InputNumber o) =
    plain 0 refl refl refl (plain 1 refl refl refl (plain 2 refl refl refl (plain 3 refl refl refl (plain 4 refl refl refl
    (plain 5 refl refl refl (put 7 (number (natural n)) refl refl refl (λ passed. long_whole n lt)
    (put 8 (number (natural n)) refl refl refl (λ passed. long_whole n lt)
    (put 9 (number (integer (cast_signed w32 n))) refl refl refl (λ passed. signed_whole n lt)
    (put 10 (number (natural (scale_number (scale_of o.scale n)))) refl refl refl (λ passed. scale_whole o.scale n lt passed)
    (put 11 (number (natural (decimals_of o.decimals n))) refl refl refl (λ passed. decimals_lowest o.decimals n passed)
    (plain 12 refl refl refl (plain 13 refl refl refl tt))))))))))))
each named n lt (objects.InputList o) = plain 0 refl refl refl (plain 1 refl refl refl (plain 2 refl refl refl tt))
each named n lt (objects.OutputString o) =
    plain 0 refl refl refl (plain 1 refl refl refl (plain 2 refl refl refl (plain 3 refl refl refl (plain 4 refl refl refl
    (plain 5 refl refl refl (plain 6 refl refl refl tt))))))
each named n lt (objects.OutputNumber o) =
    plain 0 refl refl refl (plain 1 refl refl refl (plain 2 refl refl refl (plain 3 refl refl refl (plain 4 refl refl refl
    (plain 5 refl refl refl (put 7 (number (integer (cast_signed w32 n))) refl refl refl (λ passed. signed_whole n lt)
    (put 8 (number (natural (scale_number (scale_of o.scale n)))) refl refl refl (λ passed. scale_whole o.scale n lt passed)
    (put 9 (number (natural (decimals_of o.decimals n))) refl refl refl (λ passed. decimals_lowest o.decimals n passed)
    (plain 10 refl refl refl (plain 11 refl refl refl tt))))))))))
each named n lt (objects.Line o) = plain 0 refl refl refl (plain 1 refl refl refl (plain 2 refl refl refl (plain 3 refl refl refl tt)))
each named n lt (objects.Rectangle o) =
    plain 0 refl refl refl (plain 1 refl refl refl (plain 2 refl refl refl (plain 3 refl refl refl (plain 4 refl refl refl tt))))
each named n lt (objects.Ellipse o) =
    plain 0 refl refl refl (plain 1 refl refl refl (plain 2 refl refl refl (plain 3 refl refl refl (plain 4 refl refl refl
    (plain 5 refl refl refl (plain 6 refl refl refl tt))))))
each named n lt (objects.Polygon o) =
    plain 0 refl refl refl (plain 1 refl refl refl (plain 2 refl refl refl (plain 3 refl refl refl (plain 4 refl refl refl tt))))
each named n lt (objects.Meter o) =
    plain 0 refl refl refl (plain 1 refl refl refl (plain 2 refl refl refl (plain 3 refl refl refl (plain 4 refl refl refl
    (plain 5 refl refl refl (plain 6 refl refl refl (plain 7 refl refl refl (plain 8 refl refl refl (plain 9 refl refl refl
    (plain 10 refl refl refl tt))))))))))
each named n lt (objects.LinearBar o) =
    plain 0 refl refl refl (plain 1 refl refl refl (plain 2 refl refl refl (plain 3 refl refl refl (plain 4 refl refl refl
    (plain 5 refl refl refl (plain 6 refl refl refl (plain 7 refl refl refl (plain 8 refl refl refl (plain 10 refl refl refl
    (plain 11 refl refl refl tt))))))))))
each named n lt (objects.ArchedBar o) =
    plain 0 refl refl refl (plain 1 refl refl refl (plain 2 refl refl refl (plain 3 refl refl refl (plain 4 refl refl refl
    (plain 5 refl refl refl (plain 6 refl refl refl (plain 7 refl refl refl (plain 8 refl refl refl (plain 9 refl refl refl
    (plain 10 refl refl refl (plain 12 refl refl refl (plain 13 refl refl refl tt))))))))))))
each named n lt (objects.Picture o) = plain 0 refl refl refl (plain 4 refl refl refl (plain 5 refl refl refl tt))
each named n lt (objects.NumberVariable o) = tt
each named n lt (objects.StringVariable o) = tt
each named n lt (objects.Font o) = plain 0 refl refl refl (plain 1 refl refl refl (plain 2 refl refl refl (plain 3 refl refl refl tt)))
each named n lt (objects.LineAttributes o) = plain 0 refl refl refl (plain 1 refl refl refl (plain 2 refl refl refl tt))
each named n lt (objects.FillAttributes o) = plain 0 refl refl refl (plain 1 refl refl refl (plain 2 refl refl refl tt))
each named n lt (objects.InputAttributes o) = plain 0 refl refl refl tt
each named n lt (objects.ObjectPointer o) = plain 0 refl refl refl tt
each named n lt (objects.Macro o) = tt

-- ---- the attribute with a number

numbered_put : (Q : Attribute → Type 0) (attributes : List Attribute) (index : ℕ) (attribute : Attribute) → AllByRecursion Q attributes
    → attribute_numbered attributes index ≡ Some attribute → Q attribute
numbered_put Q [] zero attribute all is = absurd cc
numbered_put Q [] (suc index) attribute all is = absurd cc
numbered_put Q (a ∷ attributes) zero attribute all is = absurd cc
numbered_put Q (a ∷ attributes) (suc zero) attribute all is = subst Q (same_Some a attribute is) all.0
numbered_put Q (a ∷ attributes) (suc (suc index)) attribute all is = numbered_put Q attributes (suc index) attribute all.1 is

put_at : (named : Option Kind) (n : ℕ) → n < 256 ^ 4 → (o : Seen) (index : ℕ) (attribute : Attribute)
    → attribute_at (kind_of o) index ≡ Some attribute → IsPut named n o attribute
put_at named n lt (objects.InputList o) index attribute is = by (index == 5) is
  where
    options : IsPut named n (objects.InputList o) (byte fields.Options) × Unit {0}
    options = plain 5 refl refl refl tt

    by : (b : Bool) → cond b (Some (byte fields.Options)) (attribute_numbered (attributes_of kinds.InputList) index) ≡ Some attribute
        → IsPut named n (objects.InputList o) attribute
    by true e = subst (IsPut named n (objects.InputList o)) (same_Some (byte fields.Options) attribute e) options.0
    by false e =
        numbered_put (IsPut named n (objects.InputList o)) (attributes_of kinds.InputList) index attribute (each named n lt (objects.InputList o)) e
put_at named n lt o index attribute is = numbered_put (IsPut named n o) (attributes_of (kind_of o)) index attribute (each named n lt o) is

-- ---- the written field

ok_same : (a b : Seen) → ◌≡◌ {A = Result Seen ℕ} (Ok a) (Ok b) → a ≡ b
ok_same a b is = cc

puts_if : (attribute : Attribute) (n : ℕ) (o made new : Seen) (b : Bool) → (b ≡ true → HasWritten attribute n o made)
    → if_passed b (bit 2) made ≡ Ok new → HasWritten attribute n o new
puts_if attribute n o made new true puts is = subst (HasWritten attribute n o) (ok_same made new is) (puts refl)
puts_if attribute n o made new false puts is = absurd cc

changes_put : (named : Option Kind) (index n : ℕ) (attribute : Attribute) (o new : Seen) → n < 256 ^ 4
    → attribute_at (kind_of o) index ≡ Some attribute → change_attribute named index n o ≡ Ok new → HasWritten attribute n o new
changes_put named index n attribute o new lt at is = by (is_member sets.WithAttributes (kind_of o)) is
  where
    by : (b : Bool) → cond {A = Result Seen ℕ} b (put_attribute (attribute_at (kind_of o) index) named n o) (Err (bit 0)) ≡ Ok new
        → HasWritten attribute n o new
    by true made =
        puts_if attribute n o (with_field attribute.field n o) new (takes (kind_of o) attribute.value_type n named)
        (IsPut.of (put_at named n lt o index attribute at))
        (subst (λ (found : Option Attribute). put_attribute found named n o ≡ Ok new) at made)
    by false made = absurd cc

-- the object keeps its kind
kind_stays : ChangesKeep → (named : Option Kind) (index n : ℕ) (o new : Seen) → change_attribute named index n o ≡ Ok new → kind_of new ≡ kind_of o
kind_stays keep named index n o new is =
    ap (λ (f : Fixed). f.kind) (subst (λ (made : Result Seen ℕ). fixed (left o made) ≡ fixed o) is (keep (ChangeAttribute 0 index n) named o))

pub attributes_written : ChangesKeep → AttributesAreWritten
attributes_written keep named index n attribute o new lt at is =
    let puts = changes_put named index n attribute o new lt at is in
    record { kind = kind_stays keep named index n o new is; place = puts.place; field = puts.is_field; values = puts.values }
