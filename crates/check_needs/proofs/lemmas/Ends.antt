-- The ends of a child's element, whatever its parent and its index.
use Rattle.std.proofs.Common.{◌≡◌, refl, ℕ, Option, Some, None}
use Rattle.std.specs.FinMap as finite
use Rattle.std.specs.Option.{option_map}
use Rattle.vt_kinds.specs.Ids.{null_id}
use Rattle.vt_kinds.specs.declared.entries.Child.{Child}
use Rattle.vt_shown.specs.ShownElements.{resolves_to}
use Rattle.vt_stores.specs.Stores.{Objects, map_of}
use Rattle.check_needs.specs.declared.elements.Extent.{Extent}
use Rattle.check_needs.specs.Elements.{element, element_of, element_for, extent_in}
use Rattle.check_needs.specs.Needs.{ends_of, ends_in}

of_extent : (parent index id : ℕ) (child : Child) (extent : Option Extent)
    → ends_of (option_map (element_of parent index child id) extent) ≡ ends_of (option_map (element_of null_id 0 child id) extent)
of_extent parent index id child None = refl
of_extent parent index id child (Some extent) = refl

of_target : (objects : Objects) (parent index : ℕ) (child : Child) (id : Option ℕ)
    → ends_of (element_for objects parent index child id) ≡ ends_of (element_for objects null_id 0 child id)
of_target objects parent index child None = refl
of_target objects parent index child (Some id) = of_extent parent index id child (extent_in (finite.get (map_of objects) id))

pub any_ends : (objects : Objects) (parent index : ℕ) (child : Child) → ends_of (element objects parent index child) ≡ ends_in objects child
any_ends objects parent index child = of_target objects parent index child (resolves_to (map_of objects) child.id)
