use Rattle.std.proofs.Common.{◌≡◌, ◌++◌, map}
use Rattle.vt_rank.specs.declared.graph.Item.TheVariants as items
use Rattle.vt_verify.specs.TriggerGraphs.{command_items, groups_of}
use Rattle.vt_verify.specs.Triggers.{listing_of}
use Rattle.vt_verify.proofs.triggers.put_items.Given as goal

abbrev pub invariant-loop-raised : goal.invariant-loop-raised
invariant-loop-raised l =
    (goal.iterator-loop-raised).can_next l.raised-iterator
    × (goal.iterator-loop-raised).is_finite l.raised-iterator
    × (l.items.items ++ map items.Group (groups_of l.events.keys (map listing_of l.raised-iterator)) ≡ l.fn.items.items ++ command_items l.events.keys l.command)
