-- The bytes of an object's values are those of its record.
use Rattle.std.proofs.Common.{◌≡◌, refl, ◌∙◌, ap, ap₂, ℕ, List, [], ◌∷◌, ◌++◌, map}
use Rattle.std.specs.List.{flat_map}
use Rattle.byteorder.specs.Endian.{little_bytes}
use Rattle.vt_kinds.specs.declared.object.Object.{Object}
use Rattle.vt_kinds.specs.declared.object.Object.TheVariants as objects
use Rattle.vt_kinds.specs.Kinds.{kind_number}
use Rattle.vt_kinds.specs.Layout.{fields_spelling}
use Rattle.vt_kinds.specs.Records.{seen, kind_of, fields_of, values_of, record_of}
use Rattle.vt_writing.specs.Values.{value_of, field_of, AreValuesOf, spelling}
use Rattle.vt_writing.specs.declared.value.Value.{Value}

spelled : (vs : List Value) → flat_map spelling vs ≡ fields_spelling (map field_of vs) (map value_of vs)
spelled [] = refl
spelled (v ∷ vs) = ap (λ bs. spelling v ++ bs) (spelled vs)

record_seen : {B : Type 0} (id : ℕ) (o : Object B)
    → little_bytes 2 id ++ kind_number (kind_of o) ∷ fields_spelling (fields_of (kind_of (seen o))) (values_of (seen o)) ≡ record_of id o
record_seen id (objects.WorkingSet o) = refl
record_seen id _ = refl

pub record_spelled : {B : Type 0} (id : ℕ) (o : Object B) (vs : List Value) → AreValuesOf (seen o) vs
    → little_bytes 2 id ++ kind_number (kind_of o) ∷ flat_map spelling vs ≡ record_of id o
record_spelled id o vs are =
    ap (λ bs. little_bytes 2 id ++ kind_number (kind_of o) ∷ bs) (spelled vs ∙ ap₂ fields_spelling are.1 are.0)
    ∙ record_seen id o
