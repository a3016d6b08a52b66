use Rattle.std.proofs.Common.{◌≡◌, drop}
use Rattle.check_needs.specs.Needs.{both_extents, extent_needed}
use Rattle.check_needs.proofs.needs.extent_needed.Given as goal

abbrev pub invariant-loop-child : goal.invariant-loop-child
invariant-loop-child l = extent_needed l.objects l.children ≡ both_extents l.extent (extent_needed l.objects (drop l.child-index l.children))
