-- The load of a bus of 250 kbit/s.
use Rattle.std.specs.Prelude.{ℕ, ◌*◌, ◌-◌, ◌/◌, ◌^◌, ◌==◌, min, if◌then◌else◌, Option, Some, None}

-- In tenths of a percent: a microsecond has a quarter of a bit. No load is told of a span of 0.
abbrev pub load_of : ℕ → ℕ → Option ℕ
load_of bits span = if span == 0 then None else Some (min (bits * 4000) (2 ^ 64 - 1) / span)
