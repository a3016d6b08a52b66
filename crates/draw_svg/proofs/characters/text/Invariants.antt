use Rattle.std.proofs.Common.{◌≡◌, ◌++◌, drop}
use Rattle.std.specs.List.{flat_map}
use Rattle.draw_svg.specs.Characters.{escaped}
use Rattle.draw_svg.proofs.characters.text.Given as goal

abbrev pub invariant-loop-character : goal.invariant-loop-character
invariant-loop-character l = l.out.items ++ flat_map escaped (drop l.character-index l.characters) ≡ l.fn.out.items ++ flat_map escaped l.characters
