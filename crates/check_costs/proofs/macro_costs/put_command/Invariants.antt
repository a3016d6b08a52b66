use Rattle.std.proofs.Common.{◌≡◌, ◌++◌, map}
use Rattle.std.specs.List.{flat_map}
use Rattle.vt_stores.specs.Shapes.{shape_of}
use Rattle.vt_verify.specs.Triggers.{listing_of}
use Rattle.check_costs.specs.Shares.{command_shares, event_shares}
use Rattle.check_costs.proofs.macro_costs.put_command.Given as goal

abbrev pub invariant-loop-raised : goal.invariant-loop-raised
invariant-loop-raised l =
    (goal.iterator-loop-raised).can_next l.raised-iterator
    × (goal.iterator-loop-raised).is_finite l.raised-iterator
    × (l.shares.items ++ flat_map (event_shares (shape_of l.pool.objects.now)) (map listing_of l.raised-iterator)
    ≡ l.fn.shares.items ++ command_shares (shape_of l.pool.objects.now) l.fn.hide l.at l.function l.command)
