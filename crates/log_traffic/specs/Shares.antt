-- The shares of sources.
use Rattle.std.specs.Prelude.{ℕ, List, length, nat_lt, filter}
use Rattle.std.specs.List.{range_with_len}
use Rattle.log_traffic.specs.declared.counts.Counts.{Counts}
use Rattle.log_traffic.specs.declared.report.Share.{Share}
use Rattle.log_traffic.specs.Counted.{counts_in}
use Rattle.log_traffic.specs.Loads.{load_of}

-- the share of a source in so many microseconds, by the counts of all addresses
abbrev pub share_of : ℕ → List Counts → ℕ → Share
share_of microseconds counts source = record {
  source = source;
  counts = counts_in counts source;
  load = load_of (counts_in counts source).bits microseconds;
}

-- of these addresses those that have sent a frame
abbrev pub senders_among : List Counts → List ℕ → List ℕ
senders_among counts sources = filter (λ source. nat_lt 0 (counts_in counts source).frames) sources

-- the addresses that have sent a frame, in their order
abbrev pub senders : List Counts → List ℕ
senders counts = senders_among counts (range_with_len 0 (length counts))
