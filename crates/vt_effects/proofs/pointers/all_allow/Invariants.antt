use Rattle.std.proofs.Common.{◌≡◌, drop}
use Rattle.std.specs.List.{list_all, flat_map}
use Rattle.std.specs.FinMap as finite
use Rattle.vt_kinds.specs.References.{slots_of}
use Rattle.vt_effects.specs.Effects.{all_slots}
use Rattle.vt_effects.specs.Replacements.{slot_allows}
use Rattle.vt_effects.proofs.pointers.all_allow.Given as goal

abbrev pub invariant-loop-index : goal.invariant-loop-index
invariant-loop-index g l =
    list_all (slot_allows l.pointed) (all_slots (g.S.Store.contents l.store))
    ≡ list_all (slot_allows l.pointed) (flat_map (λ e. slots_of e.1) (drop l.index (finite.entries (g.S.Store.contents l.store))))
