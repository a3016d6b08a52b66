use Rattle.vt_rank.proofs.CircleSearch.{work}
use Rattle.vt_rank.proofs.RankSearch.{IsVisit}
use Rattle.vt_rank.proofs.search.Search.visit.Given as goal

abbrev pub invariant-search : goal.invariant-search
invariant-search l = IsVisit l.graph l.start l.fn.self l.self l.path.items

abbrev pub decreases-search : goal.decreases-search
decreases-search l = work l.self.seen l.path.items
