use Rattle.std.proofs.Common.{◌≡◌}
use Rattle.std.specs.List.{list_all}
use Rattle.vt_kinds.specs.Records.{seen}
use Rattle.vt_kinds.specs.References.{slots_of}
use Rattle.vt_effects.specs.Replacements.{slot_allows}
use Rattle.vt_effects.proofs.pointers.slots_allow.Given as goal

abbrev pub invariant-loop-slot : goal.invariant-loop-slot
invariant-loop-slot l =
    (goal.iterator-loop-slot).can_next l.slot-iterator
    × (goal.iterator-loop-slot).is_finite l.slot-iterator
    × (list_all (slot_allows l.pointed) (slots_of (seen l.object)) ≡ list_all (slot_allows l.pointed) l.slot-iterator)
