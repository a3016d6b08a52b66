use Rattle.std.proofs.Common.{◌≡◌, ℕ, map}
use Rattle.vt_kinds.specs.Records.{seen}
use Rattle.check_needs.specs.Naming.{has_with, slot_ids}
use Rattle.check_needs.proofs.naming.put_slots.Given as goal

abbrev pub invariant-loop-slot : goal.invariant-loop-slot
invariant-loop-slot l =
    (goal.iterator-loop-slot).can_next l.slot-iterator
    × (goal.iterator-loop-slot).is_finite l.slot-iterator
    × ((id : ℕ) → has_with l.fn.set (slot_ids (seen l.object)) id ≡ has_with l.set (map (λ s. s.id) l.slot-iterator) id)
