-- Properties of an object that do not depend on its byte buffers: slots, kind, macro entries and macro bytes.
use Rattle.std.proofs.Common.{◌≡◌, ℕ, [], ◌∷◌, Bool, true, false, cond, Option, Some, None, refl, ap, ◌∙◌}
use Rattle.std.specs.Option.{option_map}
use Rattle.std.specs.Ordering.{nat_cmp, eq_by_cmp}
use Rattle.vt_kinds.specs.declared.object.Object.{Object}
use Rattle.vt_kinds.specs.declared.object.Object.TheVariants as objects
use Rattle.vt_kinds.specs.Records.{Seen, seen, kind_of, macros_of}
use Rattle.vt_kinds.specs.References.{slots_of}
use Rattle.vt_stores.specs.Shapes.{Fixed, fixed, shape_of, fixed_at, kind_at}
use Rattle.vt_stores.specs.Stores.{Objects, object_at}

pub seen_kind : {B : Type 0} (o : Object B) → kind_of (seen o) ≡ kind_of o
seen_kind (objects.WorkingSet o) = refl
seen_kind (objects.DataMask o) = refl
seen_kind (objects.AlarmMask o) = refl
seen_kind (objects.Container o) = refl
seen_kind (objects.SoftKeyMask o) = refl
seen_kind (objects.Key o) = refl
seen_kind (objects.Button o) = refl
seen_kind (objects.InputBoolean o) = refl
seen_kind (objects.InputString o) = refl
seen_kind (objects.InputNumber o) = refl
seen_kind (objects.InputList o) = refl
seen_kind (objects.OutputString o) = refl
seen_kind (objects.OutputNumber o) = refl
seen_kind (objects.Line o) = refl
seen_kind (objects.Rectangle o) = refl
seen_kind (objects.Ellipse o) = refl
seen_kind (objects.Polygon o) = refl
seen_kind (objects.Meter o) = refl
seen_kind (objects.LinearBar o) = refl
seen_kind (objects.ArchedBar o) = refl
seen_kind (objects.Picture o) = refl
seen_kind (objects.NumberVariable o) = refl
seen_kind (objects.StringVariable o) = refl
seen_kind (objects.Font o) = refl
seen_kind (objects.LineAttributes o) = refl
seen_kind (objects.FillAttributes o) = refl
seen_kind (objects.InputAttributes o) = refl
seen_kind (objects.ObjectPointer o) = refl
seen_kind (objects.Macro o) = refl

pub seen_macros : {B : Type 0} (o : Object B) → macros_of (seen o) ≡ macros_of o
seen_macros (objects.WorkingSet o) = refl
seen_macros (objects.DataMask o) = refl
seen_macros (objects.AlarmMask o) = refl
seen_macros (objects.Container o) = refl
seen_macros (objects.SoftKeyMask o) = refl
seen_macros (objects.Key o) = refl
seen_macros (objects.Button o) = refl
seen_macros (objects.InputBoolean o) = refl
seen_macros (objects.InputString o) = refl
seen_macros (objects.InputNumber o) = refl
seen_macros (objects.InputList o) = refl
seen_macros (objects.OutputString o) = refl
seen_macros (objects.OutputNumber o) = refl
seen_macros (objects.Line o) = refl
seen_macros (objects.Rectangle o) = refl
seen_macros (objects.Ellipse o) = refl
seen_macros (objects.Polygon o) = refl
seen_macros (objects.Meter o) = refl
seen_macros (objects.LinearBar o) = refl
seen_macros (objects.ArchedBar o) = refl
seen_macros (objects.Picture o) = refl
seen_macros (objects.NumberVariable o) = refl
seen_macros (objects.StringVariable o) = refl
seen_macros (objects.Font o) = refl
seen_macros (objects.LineAttributes o) = refl
seen_macros (objects.FillAttributes o) = refl
seen_macros (objects.InputAttributes o) = refl
seen_macros (objects.ObjectPointer o) = refl
seen_macros (objects.Macro o) = refl

pub seen_slots : {B : Type 0} (o : Object B) → slots_of (seen o) ≡ slots_of o
seen_slots (objects.WorkingSet o) = refl
seen_slots (objects.DataMask o) = refl
seen_slots (objects.AlarmMask o) = refl
seen_slots (objects.Container o) = refl
seen_slots (objects.SoftKeyMask o) = refl
seen_slots (objects.Key o) = refl
seen_slots (objects.Button o) = refl
seen_slots (objects.InputBoolean o) = refl
seen_slots (objects.InputString o) = refl
seen_slots (objects.InputNumber o) = refl
seen_slots (objects.InputList o) = refl
seen_slots (objects.OutputString o) = refl
seen_slots (objects.OutputNumber o) = refl
seen_slots (objects.Line o) = refl
seen_slots (objects.Rectangle o) = refl
seen_slots (objects.Ellipse o) = refl
seen_slots (objects.Polygon o) = refl
seen_slots (objects.Meter o) = refl
seen_slots (objects.LinearBar o) = refl
seen_slots (objects.ArchedBar o) = refl
seen_slots (objects.Picture o) = refl
seen_slots (objects.NumberVariable o) = refl
seen_slots (objects.StringVariable o) = refl
seen_slots (objects.Font o) = refl
seen_slots (objects.LineAttributes o) = refl
seen_slots (objects.FillAttributes o) = refl
seen_slots (objects.InputAttributes o) = refl
seen_slots (objects.ObjectPointer o) = refl
seen_slots (objects.Macro o) = refl

pub fixed_case : (b : Bool) (o : Seen) (later : Option Fixed) (rest : Option Seen) → later ≡ option_map fixed rest
    → cond b (Some (fixed o)) later ≡ option_map fixed (cond b (Some o) rest)
fixed_case true o later rest is = refl
fixed_case false o later rest is = is

-- the shape holds each ID's fixed properties
pub fixed_found : (objects : Objects) (id : ℕ) → fixed_at (shape_of objects) id ≡ option_map fixed (object_at objects id)
fixed_found [] id = refl
fixed_found (e ∷ objects) id = fixed_case (eq_by_cmp nat_cmp id e.0) e.1 (fixed_at (shape_of objects) id) (object_at objects id) (fixed_found objects id)

pub kinds_mapped : (o : Option Seen) → option_map (λ f. f.kind) (option_map fixed o) ≡ option_map kind_of o
kinds_mapped None = refl
kinds_mapped (Some o) = refl

pub kind_found : (objects : Objects) (id : ℕ) → kind_at (shape_of objects) id ≡ option_map kind_of (object_at objects id)
kind_found objects id = ap (option_map (λ (f : Fixed). f.kind)) (fixed_found objects id) ∙ kinds_mapped (object_at objects id)
