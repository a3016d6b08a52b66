-- Change Attribute of an attribute that the object has.
use Rattle.std.proofs.Common.{◌≡◌, ℕ, Bool, true, cond, Option, Some, Result, Err, sym, ap, subst, ◌∙◌}
use Rattle.vt_kinds.specs.declared.kind.Kind.{Kind}
use Rattle.vt_kinds.specs.declared.kinds.Kinds.TheVariants as sets
use Rattle.vt_kinds.specs.declared.fields.Attribute.{Attribute}
use Rattle.vt_kinds.specs.Records.{Seen, kind_of}
use Rattle.vt_kinds.specs.References.{is_member}
use Rattle.vt_kinds.specs.Attributes.{attribute_at}
use Rattle.vt_effects.specs.Fields.{with_field}
use Rattle.vt_effects.specs.Changes.{if_passed, takes, put_attribute, change_attribute}
use Rattle.vt_effects.specs.Errors.{bit}

pub attribute_put : (kind_of_other : Option Kind) (number n : ℕ) (o : Seen) (kind : Kind) (attribute : Attribute) (b : Bool) → kind ≡ kind_of o
    → is_member sets.WithAttributes kind ≡ true → attribute_at kind number ≡ Some attribute → b ≡ takes kind attribute.value_type n kind_of_other
    → change_attribute kind_of_other number n o ≡ if_passed b (bit 2) (with_field attribute.field n o)
attribute_put kind_of_other number n o kind attribute b is has at passed =
    ap (λ (c : Bool). cond {A = Result Seen ℕ} c (put_attribute (attribute_at (kind_of o) number) kind_of_other n o) (Err (bit 0))) (subst (λ (k : Kind). is_member sets.WithAttributes k ≡ true) is has)
    ∙ ap (λ (a : Option Attribute). put_attribute a kind_of_other n o) (subst (λ (k : Kind). attribute_at k number ≡ Some attribute) is at)
    ∙ ap (λ (c : Bool). if_passed c (bit 2) (with_field attribute.field n o)) (sym (subst (λ (k : Kind). b ≡ takes k attribute.value_type n kind_of_other) is passed))
