use Rattle.std.proofs.Common.{◌≡◌, drop}
use Rattle.vt_kinds.specs.Records.{seen_picture}
use Rattle.draw_svg.specs.Strokes.{with_runs}
use Rattle.draw_svg.proofs.strokes.draw_runs.Given as goal

abbrev pub invariant-loop-run : goal.invariant-loop-run
invariant-loop-run l = with_runs (seen_picture l.picture) l.format l.text.items (drop l.run-index l.runs) ≡ with_runs (seen_picture l.picture) l.format l.fn.text.items l.runs
