use Rattle.std.specs.Prelude.{map}
use Rattle.std.specs.Map.Iter.{deref_pair}
use Rattle.vt_kinds.specs.declared.kinds.Kinds.TheVariants.{Masks, Macros}
use Rattle.vt_kinds.specs.References.{is_member}
use Rattle.log_reach.specs.DrawnObjects.{was_drawn}
use Rattle.log_reach.specs.Reports.{IsSplitBy, is_drawn, is_reached}
use Rattle.log_reach.specs.ShownMasks.{was_shown}
use Rattle.log_reach.proofs.report.SetReach.of_set.Given as goal

abbrev pub invariant-loop-id : goal.invariant-loop-id
invariant-loop-id l =
    IsSplitBy (λ entry. was_shown l.shown_masks l.address entry.0) (λ entry. is_member Masks entry.1) (map deref_pair l.yielded) l.masks
    × IsSplitBy (λ entry. was_drawn l.set.drawn entry.0) (λ entry. is_drawn entry.1) (map deref_pair l.yielded) l.objects
    × IsSplitBy (λ entry. is_reached l.set.macros entry.0) (λ entry. is_member Macros entry.1) (map deref_pair l.yielded) l.macros
