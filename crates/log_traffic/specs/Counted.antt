-- How much was sent.
use Rattle.std.specs.Prelude.{◌≡◌, ◌<◌, ℕ, ◌+◌, ◌*◌, ◌-◌, ◌^◌, List, min, sum_by, slice_index_or}
use Rattle.log_traffic.specs.declared.counts.Counts.{Counts}

-- no frames
abbrev pub nothing : Counts
nothing = record { frames = 0; bytes = 0; bits = 0 }

-- a count and more, which stays in 64 bits
abbrev pub more : ℕ → ℕ → ℕ
more count by = min (count + by) (2 ^ 64 - 1)

-- how much was sent with one more frame of so many bytes: 67 bits and its data
abbrev pub with_frame : Counts → ℕ → Counts
with_frame counts length = record {
  frames = more counts.frames 1;
  bytes = more counts.bytes length;
  bits = more counts.bits (67 + 8 * length);
}

-- how much a source has sent, by the counts of all addresses
abbrev pub counts_in : List Counts → ℕ → Counts
counts_in counts source = slice_index_or counts source nothing

-- the frames sum up to a number, unless it is the greatest of 64 bits
abbrev pub SumUpTo : List Counts → ℕ → Type 0
SumUpTo counts frames = frames < 2 ^ 64 - 1 → sum_by (λ own. own.frames) counts ≡ frames
