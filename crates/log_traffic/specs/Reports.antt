-- The report on a log.
use Rattle.std.specs.Prelude.{◌≡◌, ◌<◌, ◌-◌, ◌^◌, ℕ, All, length, map, sum_by, MatchOption}
use Rattle.log_traffic.specs.declared.report.TrafficReport.{TrafficReport}
use Rattle.log_traffic.specs.declared.traffic.Traffic.{Traffic}
use Rattle.log_traffic.specs.Loads.{load_of}
use Rattle.log_traffic.specs.Shares.{share_of, senders}
use Rattle.log_traffic.specs.Spans.{HasSpan}
use Rattle.log_traffic.specs.Traffics.{counts_from, total_of, twice_of}

-- the microseconds from the first frame to the last one
abbrev pub microseconds_of : TrafficReport → ℕ
microseconds_of report = report.last_time - report.first_time

-- a report on no frame has no lines and no times
pub record HasNoSpan (report : TrafficReport) : Type 0 where
  pub first_line : report.first_line ≡ 0
  pub last_line : report.last_line ≡ 0
  pub first_time : report.first_time ≡ 0
  pub last_time : report.last_time ≡ 0

-- a report says what was counted
pub record IsReportOn (traffic : Traffic) (report : TrafficReport) : Type 0 where
  pub total : report.total ≡ total_of traffic
  -- one share for each source that has sent a frame, by rising addresses, with its counts and its load
  pub sources : report.shares.items ≡ map (share_of (microseconds_of report) traffic.sources.counts) (senders traffic.sources.counts)
  pub shares : All (λ share. share.counts ≡ counts_from traffic share.source) report.shares.items
  -- the frames of the sources sum up to those of all, unless there are more than a number holds
  pub sums : report.total.frames < 2 ^ 64 - 1 → sum_by (λ share. share.counts.frames) report.shares.items ≡ report.total.frames
  pub span : MatchOption traffic.span (HasNoSpan report) (HasSpan report)
  pub load : report.load ≡ load_of report.total.bits (microseconds_of report)
  pub whole : report.transfers.whole ≡ traffic.transfers.counted.whole
  pub broken : report.transfers.broken ≡ traffic.transfers.counted.broken
  -- each transfer that is open is not ended
  pub unended : report.transfers.unended ≡ length traffic.transfers.listener.transfers.entries
  pub seen_twice : report.seen_twice ≡ twice_of traffic
