use Rattle.std.proofs.Common.{◌≡◌, ◌++◌, drop}
use Rattle.std.specs.List.{flat_map}
use Rattle.page_blocks.specs.Escapes.{escaped}
use Rattle.page_blocks.proofs.escape.put_escaped.Given as goal

abbrev pub invariant-loop-byte : goal.invariant-loop-byte
invariant-loop-byte l = l.out.items ++ flat_map escaped (drop l.byte-index l.text) ≡ l.fn.out.items ++ flat_map escaped l.text
