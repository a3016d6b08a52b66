-- The object that each warning is about.
use Rattle.std.specs.Prelude.{ℕ}
use Rattle.check_values.specs.declared.warning.ValueWarning.{ValueWarning}
use Rattle.check_values.specs.declared.warning.ValueWarning.TheVariants as warnings

-- the object that a warning is about
abbrev pub object_of : ValueWarning → ℕ
object_of (warnings.NoMeaning id limited) = id
object_of (warnings.EmptyRange id min max) = id
object_of (warnings.OutOfRange it) = it.id
object_of (warnings.NoItem id value items) = id
object_of (warnings.PictureBytes id bytes expected) = id
object_of (warnings.HalfPair id bytes) = id
object_of (warnings.FewPoints id points) = id
object_of (warnings.PointOutside it) = it.id
object_of (warnings.ShortVariable it) = it.id
object_of (warnings.NeverRaised id index event) = id
object_of (warnings.NoActiveMask id) = id
object_of (warnings.NoDesignator id) = id
object_of (warnings.NoLanguage it) = it.id
object_of (warnings.InputThere parent index id) = parent
object_of (warnings.NoCode id) = id
object_of (warnings.SameColour id font colour) = id
object_of (warnings.SameCode id index key code) = id
