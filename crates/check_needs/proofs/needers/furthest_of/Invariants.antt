use Rattle.std.proofs.Common.{◌≡◌, drop}
use Rattle.check_needs.specs.Needers.{reach}
use Rattle.check_needs.specs.Needs.{both_extents, extent_needed}
use Rattle.check_needs.proofs.needers.furthest_of.Given as goal

abbrev pub invariant-loop-child : goal.invariant-loop-child
invariant-loop-child l = extent_needed l.objects l.children ≡ both_extents (reach l.found) (extent_needed l.objects (drop l.child-index l.children))
