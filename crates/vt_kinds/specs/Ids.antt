-- The IDs of objects.
use Rattle.std.specs.Prelude.{ℕ}

-- NULL, the ID of no object
abbrev pub null_id : ℕ
null_id = 0xFFFF
