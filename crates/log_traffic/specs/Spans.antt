-- The first and the last frame of a log.
use Rattle.std.specs.Prelude.{◌≡◌, ℕ, max, Option, None, Some}
use Rattle.log_traffic.specs.declared.report.TrafficReport.{TrafficReport}
use Rattle.log_traffic.specs.declared.span.FrameSpan.{FrameSpan}

-- The span with one more frame, of this line and this time: a time before that of an earlier frame counts as the latest so far.
abbrev pub with_frame_at : ℕ → ℕ → Option FrameSpan → FrameSpan
with_frame_at line time None = record { first_line = line; last_line = line; first_time = time; last_time = time }
with_frame_at line time (Some span) = record {
  first_line = span.first_line;
  last_line = line;
  first_time = span.first_time;
  last_time = max span.last_time time;
}

-- a report has the lines and the times of a span
pub record HasSpan (report : TrafficReport) (span : FrameSpan) : Type 0 where
  pub first_line : report.first_line ≡ span.first_line
  pub last_line : report.last_line ≡ span.last_line
  pub first_time : report.first_time ≡ span.first_time
  pub last_time : report.last_time ≡ span.last_time
