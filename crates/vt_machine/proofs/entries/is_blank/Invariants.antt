use Rattle.std.proofs.Common.{◌≡◌, ◌==◌, drop}
use Rattle.std.specs.List.{list_all}
use Rattle.vt_machine.proofs.entries.is_blank.Given as goal

abbrev pub invariant-loop-byte : goal.invariant-loop-byte
invariant-loop-byte l = list_all (λ byte. byte == 32) l.bytes ≡ list_all (λ byte. byte == 32) (drop l.byte-index l.bytes)
