-- The test of a field's value equals its definition.
use Rattle.std.proofs.Common.{◌≡◌, ◌≢◌, inl, inr, ℕ, ◌^◌, ◌%◌, Bool, true, false, cond, Option, Some, None, is_some, refl, sym, subst}
use Rattle.std.proofs.lemmas.Bool.{eqb-true, eq-eqb, le-leb, leb-true}
use Rattle.std.specs.Prelude.{IsTrue, ◌==◌}
use Rattle.vt_kinds.specs.declared.kind.Kind.{Kind}
use Rattle.vt_kinds.specs.declared.kinds.Kinds.{Kinds}
use Rattle.vt_kinds.specs.declared.place.Place.{Place}
use Rattle.vt_kinds.specs.declared.scale.Scale.{Scale}
use Rattle.vt_kinds.specs.declared.scale.Scale.TheVariants.{One, Tenth, Hundredth, Thousandth}
use Rattle.vt_kinds.specs.declared.fields.ValueType.{ValueType}
use Rattle.vt_kinds.specs.declared.fields.ValueType.TheVariants as types
use Rattle.vt_kinds.specs.Scales.{scale_number, scale_at, IsScale}
use Rattle.vt_kinds.specs.References.{members, allowed, may_be_null}
use Rattle.vt_kinds.specs.Attributes.{Accepts, MayStand, IsAmong, lowest}
use Rattle.vt_effects.specs.Fields.{low_word}
use Rattle.vt_effects.specs.Changes.{takes, is_one_of}

-- two tests that imply each other are equal
pub alike : (a b : Bool) → (IsTrue a → IsTrue b) → (IsTrue b → IsTrue a) → a ≡ b
alike true true there back = refl
alike false false there back = refl
alike true false there back = sym (there refl)
alike false true there back = back refl

-- ---- references

is_among : (kinds : Kinds) (kind_of_other : Option Kind) → IsTrue (is_one_of kinds kind_of_other) → IsAmong (members kinds) kind_of_other
is_among kinds None is = absurd cc
is_among kinds (Some kind) is = is

is_one : (kinds : Kinds) (kind_of_other : Option Kind) → IsAmong (members kinds) kind_of_other → IsTrue (is_one_of kinds kind_of_other)
is_one kinds None is = absurd is
is_one kinds (Some kind) is = is

stands : (kind : Kind) (place : Place) (id : ℕ) (kind_of_other : Option Kind) (d : Bool) → (id == 0xFFFF) ≡ d
    → IsTrue (cond d (may_be_null place) (is_one_of (allowed kind place) kind_of_other)) → MayStand kind place id kind_of_other
stands kind place id kind_of_other true null is = inl (eqb-true id 0xFFFF null, is)
stands kind place id kind_of_other false null is = inr (other, is_among (allowed kind place) kind_of_other is)
  where
    other : id ≢ 0xFFFF
    other e = let same : (id == 0xFFFF) ≡ true = eq-eqb id 0xFFFF e in absurd cc

may : (kind : Kind) (place : Place) (id : ℕ) (kind_of_other : Option Kind) (d : Bool) → (id == 0xFFFF) ≡ d
    → MayStand kind place id kind_of_other → IsTrue (cond d (may_be_null place) (is_one_of (allowed kind place) kind_of_other))
may kind place id kind_of_other true null (inl is) = is.1
may kind place id kind_of_other true null (inr is) = absurd (is.0 (eqb-true id 0xFFFF null))
may kind place id kind_of_other false null (inl is) = let same : (id == 0xFFFF) ≡ true = eq-eqb id 0xFFFF is.0 in absurd cc
may kind place id kind_of_other false null (inr is) = is_one (allowed kind place) kind_of_other is.1

-- ---- scales

one_more : (n : ℕ) (s : Scale) (rest : Option Scale) (d : Bool) → (n == scale_number s) ≡ d → (is_some rest ≡ true → IsScale n)
    → is_some (cond d (Some s) rest) ≡ true → IsScale n
one_more n s rest true same later is = (s, eqb-true n (scale_number s) same)
one_more n s rest false same later is = later is

is_scale : (n : ℕ) → is_some (scale_at n) ≡ true → IsScale n
is_scale n is =
    one_more n One _ _ refl (one_more n Tenth _ _ refl (one_more n Hundredth _ _ refl (one_more n Thousandth _ _ refl (λ never. absurd cc)))) is

scale_is : (n : ℕ) (s : Scale) → n ≡ scale_number s → is_some (scale_at n) ≡ true
scale_is n One e = subst (λ (m : ℕ). is_some (scale_at m) ≡ true) (sym e) refl
scale_is n _ e = subst (λ (m : ℕ). is_some (scale_at m) ≡ true) (sym e) refl

-- ---- all types

pub takes_is : (kind : Kind) (sort : ValueType) (n : ℕ) (kind_of_other : Option Kind) (b : Bool) → n % 2 ^ 32 ≡ n → (IsTrue b → Accepts kind sort (lowest sort n) kind_of_other)
    → (Accepts kind sort (lowest sort n) kind_of_other → IsTrue b) → b ≡ takes kind sort n kind_of_other
takes_is kind (types.Reference place) n kind_of_other b fits there back =
    alike b _ (λ is. may kind place (low_word n) kind_of_other (low_word n == 0xFFFF) refl (there is)) (λ is. back (stands kind place (low_word n) kind_of_other (low_word n == 0xFFFF) refl is))
takes_is kind types.Priority n kind_of_other b fits there back = alike b _ (λ is. le-leb (n % 256) 2 (there is)) (λ is. back (leb-true (n % 256) 2 is))
takes_is kind types.Scale n kind_of_other b fits there back =
    alike b _ (λ is. subst (λ (m : ℕ). is_some (scale_at m) ≡ true) fits (scale_is (n % 2 ^ 32) (there is).0 (there is).1)) (λ is. back (is_scale (n % 2 ^ 32) (subst (λ (m : ℕ). is_some (scale_at m) ≡ true) (sym fits) is)))
takes_is kind types.Decimals n kind_of_other b fits there back = alike b _ (λ is. le-leb (n % 256) 7 (there is)) (λ is. back (leb-true (n % 256) 7 is))
takes_is kind _ n kind_of_other b fits there back = back tt
