use Rattle.std.proofs.Common.{◌≡◌, drop, codes}
use Rattle.serde_json.specs.Data as trees
use Rattle.serde_json.specs.View.{view, members_view}
use Rattle.check_json.specs.Members.{with_plain}
use Rattle.check_json.proofs.members.object_with.Given as goal

abbrev pub invariant-loop-member : goal.invariant-loop-member
invariant-loop-member l =
    with_plain (members_view l.map.entries) (drop l.member-index l.members)
    ≡ with_plain (trees.member (codes "object") (view l.fn.object) trees.no_members) l.members
