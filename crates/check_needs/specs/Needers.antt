-- The objects that need the most of a terminal (docs/PROFILE.md, "Needs").
use Rattle.std.specs.Prelude.{ℕ, Option, Some, None}
use Rattle.check_needs.specs.declared.elements.Extent.{Extent}
use Rattle.check_needs.specs.declared.needers.Furthest.{Furthest}
use Rattle.check_needs.specs.declared.needers.Needers.{Needers}
use Rattle.check_needs.specs.declared.needers.NumberOf.{NumberOf}
use Rattle.check_needs.specs.declared.needs.Needs.{Needs}
use Rattle.check_needs.specs.Needs.{ends_of}

-- how far children reach to the right and down; 0 for none
abbrev pub reach : Furthest → Extent
reach f = record { width = (ends_of f.right).width; height = (ends_of f.down).height }

abbrev pub number_in : Option NumberOf → ℕ
number_in None = 0
number_in (Some n) = n.number

-- what the objects need
abbrev pub numbers_of : Needers → Needs
numbers_of n = record { mask = reach n.mask; key = reach n.key; keys = number_in n.keys; colour = number_in n.colour }
