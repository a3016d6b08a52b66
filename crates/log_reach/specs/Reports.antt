-- What is told of a working set.
use Rattle.std.specs.Prelude.{◌≡◌, ◌^◌, ◌&&◌, ◌||◌, ◌∷◌, ℕ, Bool, not, nat_lt, List, [], map, filter, cond}
use Rattle.std.specs.BTreeSet.{contains}
use Rattle.std.specs.Ordering.{nat_cmp}
use Rattle.vt_kinds.specs.declared.kind.Kind.{Kind}
use Rattle.vt_kinds.specs.declared.kinds.Kinds.TheVariants.{Masks, Keys, AllButPointers, DrawnInWorkingSet, Macros}
use Rattle.vt_kinds.specs.References.{is_member}
use Rattle.log_reach.specs.declared.macros.ReachedMacros.{ReachedMacros}
use Rattle.log_reach.specs.declared.reached.Reached.{Reached}
use Rattle.log_reach.specs.declared.report.PoolObject.{PoolObject}
use Rattle.log_reach.specs.declared.report.SetReach.{SetReach}
use Rattle.log_reach.specs.declared.shown_masks.ReachedMasks.{ReachedMasks}
use Rattle.log_reach.specs.declared.split.Split.{Split}
use Rattle.log_reach.specs.DrawnObjects.{was_drawn}
use Rattle.log_reach.specs.ShownMasks.{was_shown}

-- an object by its ID and its kind
abbrev pub object_of : ℕ × Kind → PoolObject
object_of entry = record { id = entry.0; kind = entry.1 }

-- those of some objects that pass a test, in their order
abbrev pub objects_that : (ℕ × Kind → Bool) → List (ℕ × Kind) → List PoolObject
objects_that test entries = map object_of (filter test entries)

-- an object, if it passes a test
abbrev pub object_if : Bool → PoolObject → List PoolObject
object_if passes object = cond passes (object ∷ []) []

-- Objects are split: into those that were reached, and those that were not, as far as they could be.
pub record IsSplitBy (was could : ℕ × Kind → Bool) (entries : List (ℕ × Kind)) (split : Split) : Type 0 where
  pub reached : split.reached.items ≡ objects_that was entries
  pub never : split.never.items ≡ objects_that (λ entry. not (was entry) && could entry) entries

-- a macro counts as reached
abbrev pub is_reached : ReachedMacros → ℕ → Bool
is_reached macros id = nat_lt id (2 ^ 8) && contains nat_cmp macros.reached id

-- a kind is drawn below a mask or a soft key mask: a key too, and no pointer
abbrev pub is_drawn : Kind → Bool
is_drawn kind = is_member AllButPointers kind && (is_member Keys kind || is_member DrawnInWorkingSet kind)

-- A working set is told by its address, with what was noted of it: each object of its pools by whether it is a mask that was shown of it, was
-- drawn, or is a macro that counts as reached; and each other mask, kind that is drawn, and macro among those that never were.
pub record TellsOf (shown : ReachedMasks) (noted : ℕ × Reached) (reach : SetReach) : Type 0 where
  pub address : reach.address ≡ noted.0
  pub done : reach.done ≡ noted.1.done
  pub refused : reach.refused ≡ noted.1.refused
  pub masks_shown : reach.masks_shown.items ≡ objects_that (λ entry. was_shown shown noted.0 entry.0) noted.1.kinds.entries
  pub masks_never : reach.masks_never.items ≡ objects_that (λ entry. not (was_shown shown noted.0 entry.0) && is_member Masks entry.1) noted.1.kinds.entries
  pub objects_drawn : reach.objects_drawn.items ≡ objects_that (λ entry. was_drawn noted.1.drawn entry.0) noted.1.kinds.entries
  pub objects_never : reach.objects_never.items ≡ objects_that (λ entry. not (was_drawn noted.1.drawn entry.0) && is_drawn entry.1) noted.1.kinds.entries
  pub macros_reached : reach.macros_reached.items ≡ objects_that (λ entry. is_reached noted.1.macros entry.0) noted.1.kinds.entries
  pub macros_never : reach.macros_never.items ≡ objects_that (λ entry. not (is_reached noted.1.macros entry.0) && is_member Macros entry.1) noted.1.kinds.entries
