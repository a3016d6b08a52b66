use Rattle.vt_rank.proofs.CircleSearch.{IsQuest, work}
use Rattle.vt_rank.proofs.circle.circle_through.Given as goal

abbrev pub invariant-search : goal.invariant-search
invariant-search l = IsQuest l.graph l.start l.seen l.path.items

abbrev pub decreases-search : goal.decreases-search
decreases-search l = work l.seen l.path.items
