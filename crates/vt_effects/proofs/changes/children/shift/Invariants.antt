use Rattle.std.proofs.Common.{◌≡◌}
use Rattle.vt_effects.specs.Changes.{moved_child, child_at}
use Rattle.vt_effects.proofs.lemmas.objects.EntryChanges.{up_to}
use Rattle.vt_effects.proofs.changes.children.shift.Given as goal

abbrev pub invariant-loop-index : goal.invariant-loop-index
invariant-loop-index l = l.children ≡ up_to (child_at l.fn.child (moved_child l.fn.dx l.fn.dy)) l.index l.fn.children
