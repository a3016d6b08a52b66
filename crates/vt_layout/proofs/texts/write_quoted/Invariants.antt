use Rattle.std.proofs.Common.{◌≡◌, ◌++◌, take}
use Rattle.std.specs.Prelude.{codes}
use Rattle.std.specs.List.{flat_map}
use Rattle.vt_layout.specs.Lines.{escaped}
use Rattle.vt_layout.proofs.texts.write_quoted.Given as goal

abbrev pub invariant-loop-byte : goal.invariant-loop-byte
invariant-loop-byte l = l.text.items ≡ l.fn.text.items ++ (codes " \"" ++ flat_map escaped (take l.byte-index l.byte-items))
