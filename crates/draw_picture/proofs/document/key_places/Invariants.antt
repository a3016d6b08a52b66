use Rattle.std.proofs.Common.{◌≡◌, ◌++◌, drop}
use Rattle.draw_picture.specs.Documents.{key_places}
use Rattle.draw_picture.proofs.document.key_places.Given as goal

abbrev pub invariant-loop-index : goal.invariant-loop-index
invariant-loop-index l = l.places.items ++ key_places l.sizes l.index (drop l.index l.keys) ≡ key_places l.sizes 0 l.keys
