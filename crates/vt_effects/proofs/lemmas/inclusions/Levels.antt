-- The levels of a store's objects after a command.
use Rattle.std.proofs.Common.{◌≡◌, ◌⊎◌, inl, inr, ⊎_elim, ℕ, true, List, length, Option, Some, None, is_some, refl, sym, ap, subst, ◌∙◌}
use Rattle.std.proofs.lemmas.Option.{same_Some}
use Rattle.std.specs.Prelude.{Contains, slice_index}
use Rattle.std.specs.Option.{option_map}
use Rattle.std.specs.FinMap as finite
use Rattle.vt_commands.specs.declared.command.Command.{Command}
use Rattle.vt_kinds.specs.Records.{Seen, kind_of}
use Rattle.vt_stores.specs.Stores.{ObjectMap}
use Rattle.vt_chains.specs.Depths.{IsIdAt, IsBelow, IsClosed, ids_of, inclusions_of}
use Rattle.vt_chains.specs.declared.levels.Levels.{Levels}
use Rattle.vt_chains.specs.Certificates.{IsCertificate, IsCertificateBut, AreLevels, AreLevelsBut}
use Rattle.vt_chains.proofs.InclusionsInStore.{sourced, stands}
use Rattle.vt_effects.specs.Changes.{other_id}
use Rattle.vt_effects.proofs.lemmas.inclusions.NewInclusions.{Adds, inclusions_after, ids_by}
use Rattle.vt_effects.proofs.lemmas.stores.ObjectBeforeAndAfter.{Changed, fixed_same}
use Rattle.vt_effects.proofs.lemmas.stores.SameShape.{shape_same}

ids_stay : (m : ObjectMap) (id : ℕ) (old new : Seen) (command : Command) → Changed m id old new command → ids_of (finite.insert m id new) ≡ ids_of m
ids_stay m id old new command c = ids_by (finite.insert m id new) m (shape_same m id old new c.at (fixed_same m id old new command c))

pub levels_kept : (m : ObjectMap) (id : ℕ) (old new : Seen) (command : Command) (levels : Levels) → Changed m id old new command
    → ((x : ℕ) → Adds m command old x → ⊥) → AreLevels m levels → AreLevels (finite.insert m id new) levels
levels_kept m id old new command levels c none are =
    record {
      certificate = subst (λ (l : List ℕ). IsCertificate l (inclusions_of (finite.insert m id new)) levels.levels.items) (sym (ids_stay m id old new command c))
          (record { each = are.certificate.each; within = are.certificate.within; falls = falls });
      spare_length = are.spare_length ∙ sym (ap length (ids_stay m id old new command c));
    }
  where
    falls : (index q : ℕ) → IsIdAt (ids_of m) index q → (x : ℕ) → Contains (inclusions_of (finite.insert m id new) q) x
        → IsBelow (ids_of m) levels.levels.items x (slice_index levels.levels.items index)
    falls index q there x h =
        ⊎_elim (are.certificate.falls index q there x) (λ more. absurd (none x more.1)) (inclusions_after m id old new command c q x h)

found : (m : ObjectMap) (x : ℕ) (o : Option Seen) → finite.get m x ≡ o → is_some (option_map kind_of o) ≡ true → (index : ℕ) × IsIdAt (ids_of m) index x
found m x None is some = absurd cc
found m x (Some y) is some = stands (finite.entries m) x y (sym (finite.get-entries m x) ∙ is)

pub levels_but : (m : ObjectMap) (id after : ℕ) (old new : Seen) (command : Command) (levels : Levels) → Changed m id old new command
    → other_id command ≡ Some after → AreLevels m levels → AreLevelsBut (finite.insert m id new) levels id after
levels_but m id after old new command levels c names are =
    record {
      certificate = subst (λ (l : List ℕ). IsCertificateBut l (inclusions_of (finite.insert m id new)) levels.levels.items id after) (sym (ids_stay m id old new command c))
          (record { each = are.certificate.each; within = are.certificate.within; falls = falls; closed = closed });
      spare_length = are.spare_length ∙ sym (ap length (ids_stay m id old new command c));
    }
  where
    falls : (index q : ℕ) → IsIdAt (ids_of m) index q → (x : ℕ) → Contains (inclusions_of (finite.insert m id new) q) x
        → IsBelow (ids_of m) levels.levels.items x (slice_index levels.levels.items index) ⊎ ((q ≡ id) × (x ≡ after))
    falls index q there x h =
        ⊎_elim (λ before. inl (are.certificate.falls index q there x before)) (λ more. inr (more.0, same_Some x after (sym more.1.other ∙ names)))
        (inclusions_after m id old new command c q x h)

    closed : IsClosed (ids_of m) (inclusions_of (finite.insert m id new))
    closed q x h =
        ⊎_elim (λ before. let at = sourced (finite.entries m) q x before in let lower = are.certificate.falls at.0 q at.1 x before in (lower.index, lower.there))
        (λ more. found m x (finite.get m x) refl more.1.there) (inclusions_after m id old new command c q x h)
