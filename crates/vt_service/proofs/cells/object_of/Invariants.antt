use Rattle.std.proofs.Common.{◌≡◌, drop}
use Rattle.serde_json.specs.Data.{no_members}
use Rattle.serde_json.specs.View.{members_view}
use Rattle.vt_service.specs.Cells.{with_cells}
use Rattle.vt_service.proofs.cells.object_of.Given as goal

abbrev pub invariant-loop-member : goal.invariant-loop-member
invariant-loop-member l = with_cells (members_view l.map.entries) (drop l.member-index l.members) ≡ with_cells no_members l.members
