use Rattle.std.proofs.Common.{◌-◌, vec_len, vec_capacity}
use Rattle.std.specs.FinMap as finite
use Rattle.vt_server.proofs.lemmas.timeouts.SessionTimeouts.{IsExpiring}
use Rattle.vt_server.proofs.lemmas.timeouts.SessionLanes.{etp_lane}
use Rattle.vt_server.proofs.terminal.Terminal.expire_etp.Given as goal

abbrev pub invariant-loop-abort : goal.invariant-loop-abort
invariant-loop-abort l = IsExpiring etp_lane 514 l.fn.self l.self l.fn.outputs.items l.outputs.items (vec_capacity l.outputs - vec_len l.outputs)

abbrev pub decreases-loop-abort : goal.decreases-loop-abort
decreases-loop-abort l = finite.len l.self.node.etp
