use Rattle.std.proofs.Common.{length, map}
use Rattle.std.specs.Prelude.{is_some, IsTrue}
use Rattle.vt_commands.specs.Commands.{command_at}
use Rattle.vt_commands.specs.Pieces.{cut}
use Rattle.vt_verify.specs.Macros.{cut_or_none}
use Rattle.vt_macros.proofs.IndexGrowth.{IsGrown}
use Rattle.vt_macros.proofs.index.Index.put_macro.Given as goal

abbrev pub invariant-loop-piece : goal.invariant-loop-piece
invariant-loop-piece l =
    IsTrue (is_some (cut l.rest)) × IsGrown l.fn.self l.self (map command_at (cut_or_none l.bytes)) (map command_at (cut_or_none l.rest))

abbrev pub decreases-loop-piece : goal.decreases-loop-piece
decreases-loop-piece l = length l.rest
