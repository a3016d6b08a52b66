use Rattle.std.proofs.Common.{◌≡◌}
use Rattle.vt_effects.specs.Changes.{placed, child_at}
use Rattle.vt_effects.proofs.lemmas.objects.EntryChanges.{up_to}
use Rattle.vt_effects.proofs.changes.children.place.Given as goal

abbrev pub invariant-loop-index : goal.invariant-loop-index
invariant-loop-index l = l.children ≡ up_to (child_at l.fn.entry.id (placed l.fn.entry.x l.fn.entry.y)) l.index l.fn.children
