-- The record of an object does not depend on its byte buffers.
use Rattle.std.proofs.Common.{◌≡◌, ℕ, refl}
use Rattle.vt_kinds.specs.declared.object.Object.{Object}
use Rattle.vt_kinds.specs.declared.object.Object.TheVariants as object
use Rattle.vt_kinds.specs.Records.{seen, record_of}

pub seen_record : {B : Type 0} (id : ℕ) (o : Object B) → record_of id (seen o) ≡ record_of id o
seen_record id (object.WorkingSet o) = refl
seen_record id (object.DataMask o) = refl
seen_record id (object.AlarmMask o) = refl
seen_record id (object.Container o) = refl
seen_record id (object.SoftKeyMask o) = refl
seen_record id (object.Key o) = refl
seen_record id (object.Button o) = refl
seen_record id (object.InputBoolean o) = refl
seen_record id (object.InputString o) = refl
seen_record id (object.InputNumber o) = refl
seen_record id (object.InputList o) = refl
seen_record id (object.OutputString o) = refl
seen_record id (object.OutputNumber o) = refl
seen_record id (object.Line o) = refl
seen_record id (object.Rectangle o) = refl
seen_record id (object.Ellipse o) = refl
seen_record id (object.Polygon o) = refl
seen_record id (object.Meter o) = refl
seen_record id (object.LinearBar o) = refl
seen_record id (object.ArchedBar o) = refl
seen_record id (object.Picture o) = refl
seen_record id (object.NumberVariable o) = refl
seen_record id (object.StringVariable o) = refl
seen_record id (object.Font o) = refl
seen_record id (object.LineAttributes o) = refl
seen_record id (object.FillAttributes o) = refl
seen_record id (object.InputAttributes o) = refl
seen_record id (object.ObjectPointer o) = refl
seen_record id (object.Macro o) = refl
