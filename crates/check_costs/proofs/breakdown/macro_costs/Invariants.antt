use Rattle.std.proofs.Common.{◌≡◌, map, take}
use Rattle.vt_stores.specs.Shapes.{shape_of}
use Rattle.check_costs.specs.Shares.{row_of, macro_row}
use Rattle.check_costs.proofs.breakdown.macro_costs.Given as goal

abbrev pub invariant-loop-id : goal.invariant-loop-id
invariant-loop-id l = map row_of l.costs.items ≡ map (macro_row (shape_of l.pool.objects.now) l.hide) (take l.id-index l.ids)
