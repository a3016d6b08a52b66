use Rattle.std.proofs.Common.{ℕ, ◌<◌, length, arith, rules, lit<}
use Rattle.vt_rank.specs.Graphs.{triggered}
use Rattle.vt_rank.specs.Paths.{Triggers}
use Rattle.vt_rank.proofs.NodeInsertion.{marked_is, unmarked_is}
use Rattle.vt_rank.proofs.CircleSearch.{next_smaller}
use Rattle.vt_rank.proofs.RankSearch.{target_is, targets_in, visit_begins, visit_pushed, visit_short, visit_ranked, visit_circle}
use Rattle.vt_rank.proofs.search.Search.visit.Goals as goal

pub search-init : goal.search-init
search-init c =
    let unranked = unmarked_is c.args.self.now.ranked c.args.start _ c.contains.ensures c.if-contains.false in
    visit_begins _ _ _ _ _ _ c.requires.search unranked (omega arith) c.insert.ensures c.new-path.ensures c.push.ensures.items

pub search-preserved-in-None : goal.search-preserved-in-None
search-preserved-in-None c =
    let here : c.in-Some.node < length c.search.self.ranks = search rules in
    let all = λ (n : ℕ) (t : Triggers (triggered c.args.graph.now) c.in-Some.node n). c.in-None.ensures.none n (targets_in c.args.graph.now c.args.targets.now c.in-Some.node c.from.result n c.requires.targets c.from.ensures t) in
    visit_ranked _ _ _ _ _ _ _ _ _ c.search.invariant c.in-Some.ensures.items all c.from-in-None.ensures here c.insert-in-None.ensures

pub returns-then-contains-2-clause-circle : goal.returns-then-contains-2-clause-circle
returns-then-contains-2-clause-circle c =
    let found = c.in-Some-outside.ensures.found in
    let t = target_is c.args.graph.now c.args.targets.now c.in-Some.node c.from.result c.in-Some-outside.next c.requires.targets c.from.ensures found.0 in
    let seen = marked_is c.search.self.seen c.in-Some-outside.next _ c.contains-in-Some-outside.ensures c.if-contains-2.true in
    visit_circle _ _ _ _ _ _ _ _ c.search.invariant c.in-Some.ensures.items t found.1 seen

pub push-requires-in-Some-outside-2 : goal.push-requires-in-Some-outside-2
push-requires-in-Some-outside-2 c =
    let unseen = unmarked_is c.search.self.seen c.in-Some-outside.next _ c.contains-in-Some-outside.ensures c.if-contains-2.false in
    (lit< tt, visit_short _ _ _ _ _ _ _ _ _ _ c.search.invariant c.in-Some.ensures.items unseen (omega arith) c.insert-in-Some-outside.ensures c.push-in-Some-outside.ensures.items)

pub search-smaller : goal.search-smaller
search-smaller c =
    let unseen = unmarked_is c.search.self.seen c.in-Some-outside.next _ c.contains-in-Some-outside.ensures c.if-contains-2.false in
    next_smaller _ _ _ _ _ _ _ _ c.in-Some.ensures.items unseen (omega arith) c.insert-in-Some-outside.ensures c.push-in-Some-outside.ensures.items c.push-in-Some-outside-2.ensures.items

pub search-preserved : goal.search-preserved
search-preserved c =
    let found = c.in-Some-outside.ensures.found in
    let t = target_is c.args.graph.now c.args.targets.now c.in-Some.node c.from.result c.in-Some-outside.next c.requires.targets c.from.ensures found.0 in
    let unseen = unmarked_is c.search.self.seen c.in-Some-outside.next _ c.contains-in-Some-outside.ensures c.if-contains-2.false in
    visit_pushed _ _ _ _ _ _ _ _ _ _ _ c.search.invariant c.in-Some.ensures.items t found.1 unseen (omega arith) c.insert-in-Some-outside.ensures c.push-in-Some-outside.ensures.items c.push-in-Some-outside-2.ensures.items
