use Rattle.std.proofs.Common.{◌≡◌, drop}
use Rattle.vt_machine.specs.OperatorEntries.{is_filled}
use Rattle.vt_machine.proofs.entries.is_filled.Given as goal

abbrev pub invariant-loop-byte : goal.invariant-loop-byte
invariant-loop-byte l = is_filled l.text l.kept ≡ is_filled (drop l.byte-index l.text) l.rest
