use Rattle.std.proofs.Common.{◌≡◌, drop}
use Rattle.serde_json.specs.View.{members_view}
use Rattle.vt_cli.specs.Cells.{with_cells}
use Rattle.vt_cli.proofs.json_line.JsonLine.put_all.Given as goal

abbrev pub invariant-loop-member : goal.invariant-loop-member
invariant-loop-member l =
    with_cells (members_view l.self.members.entries) (drop l.member-index l.members) ≡ with_cells (members_view l.initial.self.members.entries) l.members
