use Rattle.std.proofs.Common.{◌≡◌, []}
use Rattle.vt_session.specs.Sessions.{waiting}
use Rattle.vt_live.proofs.serve_lines.Given as goal

abbrev pub invariant-loop-line : goal.invariant-loop-line
invariant-loop-line g l =
    (goal.iterator-loop-line g).can_next l.line-iterator
    × (goal.iterator-loop-line g).is_finite l.line-iterator
    × (waiting l.session ≡ [])
