-- The names of fields in messages.
use Rattle.std.specs.Prelude.{ℕ, List, codes}
use Rattle.check_values.specs.declared.warning.LimitedField.{LimitedField}
use Rattle.check_values.specs.declared.warning.LimitedField.TheVariants as limited
use Rattle.check_values.specs.declared.warning.RangedField.{RangedField}
use Rattle.check_values.specs.declared.warning.RangedField.TheVariants as ranged

abbrev pub limited_name : LimitedField → List ℕ
limited_name limited.Selectable = codes "selectable"
limited_name limited.Priority = codes "priority"
limited_name limited.AcousticSignal = codes "acoustic signal"
limited_name limited.Hidden = codes "hidden"
limited_name limited.Value = codes "value"
limited_name limited.Enabled = codes "enabled"
limited_name limited.Format = codes "format"
limited_name limited.Direction = codes "direction"
limited_name limited.Suppression = codes "line suppression"
limited_name limited.Type = codes "type"
limited_name limited.Start = codes "start angle"
limited_name limited.End = codes "end angle"
limited_name limited.Size = codes "size"
limited_name limited.FontType = codes "font type"
limited_name limited.ValidationType = codes "validation type"

abbrev pub ranged_name : RangedField → List ℕ
ranged_name ranged.Value = codes "value"
ranged_name ranged.Target = codes "target"
