use Rattle.std.proofs.Common.{append_assoc}
use Rattle.std.proofs.Output.{has_written_of_eq}
use Rattle.vt_program.proofs.options.UsageErrorDisplay.fmt.Goals as goal

pub returns-in-Address-clause-writes : goal.returns-in-Address-clause-writes
returns-in-Address-clause-writes g c =
    rw c.in-Address.is (λ plain ok. has_written_of_eq _ _ _ _ _ (simp append_assoc) (c.writeln.ensures.writes plain ok))
