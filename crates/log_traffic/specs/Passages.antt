-- How the transfers of a log are counted.
use Rattle.std.specs.Prelude.{◌≡◌, ℕ, Option, None, Some, List, length}
use Rattle.vt_can.specs.declared.frames.frame.Frame.{Frame}
use Rattle.log_listen.specs.declared.broken.Broken.{Broken}
use Rattle.log_listen.specs.declared.sent_message.SentMessage.{SentMessage}
use Rattle.log_listen.specs.Listeners.{AreBrokenBy, IsAnswer}
use Rattle.log_traffic.specs.Counted.{more}
use Rattle.log_traffic.specs.declared.transfers.Transfers.{Transfers}

-- the whole messages with one more, if there is one
abbrev pub with_message : ℕ → Option SentMessage → ℕ
with_message whole None = whole
with_message whole (Some sent) = more whole 1

-- A frame is counted after these frames, of which the latest is first: the message that it makes whole, if it does, and each transfer that
-- it ends before it is whole.
pub record CountsTransfers (frames : List Frame) (frame : Frame) (old new : Transfers) : Type 0 where
  pub sent : Option SentMessage
  pub answer : IsAnswer frames frame sent
  pub whole : new.whole ≡ with_message old.whole sent
  pub list : List Broken
  pub ended : AreBrokenBy frames frame list
  pub broken : new.broken ≡ more old.broken (length list)
