-- Numbers that may be missing.
use Rattle.std.specs.Prelude.{ℕ, Option, Some, None}
use Rattle.serde_json.specs.Data.{Data, null, number, unsigned}

abbrev pub number_or_null : Option ℕ → Data
number_or_null None = null
number_or_null (Some value) = number (unsigned value)
