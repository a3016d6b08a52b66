use Rattle.std.proofs.Common.{◌≡◌, ◌<◌, ℕ, Option, None, IfNone, List, [], ◌∷◌, ◌++◌, sym, ◌∙◌, subst, ap, arith, rules, lit<}
use Rattle.vt_rank.specs.Graphs.{triggered}
use Rattle.vt_rank.specs.Paths.{Triggers}
use Rattle.vt_rank.specs.NodeSets.{IsIn, row}
use Rattle.vt_rank.proofs.RankSearch.{target_is, targets_in}
use Rattle.vt_rank.proofs.CircleSearch.{IsQuest, quest_begins, quest_ends, next_pushed, next_short, next_smaller, next_found, last_popped, last_smaller, back_short}
use Rattle.vt_rank.proofs.circle.circle_through.Goals as goal

pub search-init : goal.search-init
search-init c =
    let items : c.push.new.self.items ≡ c.args.start ∷ [] = c.push.ensures.items ∙ ap (λ (xs : List ℕ). xs ++ c.args.start ∷ []) c.new-path.ensures in
    subst (λ (p : List ℕ). IsQuest c.args.graph.now c.args.start c.new-seen.result p) (sym items) (quest_begins _ _ _ c.new-seen.ensures)

pub push-requires-in-Some-outside : goal.push-requires-in-Some-outside
push-requires-in-Some-outside c =
    let small : c.args.start < 256 = omega arith in
    (lit< tt, back_short _ _ _ _ _ _ c.search.invariant c.in-Some.ensures.items small)

pub returns-then-next-start-clause-circle : goal.returns-then-next-start-clause-circle
returns-then-next-start-clause-circle c =
    let t = target_is c.args.graph.now c.args.targets.now c.in-Some.node c.from.result c.in-Some-outside.next c.requires c.from.ensures c.in-Some-outside.ensures.found.0 in
    (next_found _ _ _ _ _ _ _ _ c.search.invariant c.in-Some.ensures.items t c.if-next-start.true c.push-in-Some-outside.ensures.items).0

pub returns-then-next-start-clause-once : goal.returns-then-next-start-clause-once
returns-then-next-start-clause-once c =
    let t = target_is c.args.graph.now c.args.targets.now c.in-Some.node c.from.result c.in-Some-outside.next c.requires c.from.ensures c.in-Some-outside.ensures.found.0 in
    (next_found _ _ _ _ _ _ _ _ c.search.invariant c.in-Some.ensures.items t c.if-next-start.true c.push-in-Some-outside.ensures.items).1

pub returns-then-next-start-clause-first : goal.returns-then-next-start-clause-first
returns-then-next-start-clause-first c =
    let t = target_is c.args.graph.now c.args.targets.now c.in-Some.node c.from.result c.in-Some-outside.next c.requires c.from.ensures c.in-Some-outside.ensures.found.0 in
    (next_found _ _ _ _ _ _ _ _ c.search.invariant c.in-Some.ensures.items t c.if-next-start.true c.push-in-Some-outside.ensures.items).2

pub push-requires-in-Some-outside-2 : goal.push-requires-in-Some-outside-2
push-requires-in-Some-outside-2 c =
    let small : c.in-Some-outside.next < 256 = omega arith in
    let also : c.args.start < 256 = omega arith in
    let bound = next_short _ _ _ _ _ _ _ _ _ c.search.invariant c.in-Some.ensures.items c.in-Some-outside.ensures.found.1 c.if-next-start.false small also c.insert.ensures c.push-in-Some-outside.ensures.items in
    (lit< tt, bound)

pub search-smaller-in-Some-outside : goal.search-smaller-in-Some-outside
search-smaller-in-Some-outside c =
    next_smaller _ _ _ _ _ _ _ _ c.in-Some.ensures.items c.in-Some-outside.ensures.found.1 (omega arith) c.insert.ensures c.push-in-Some-outside.ensures.items c.push-in-Some-outside-2.ensures.items

pub search-preserved-in-Some-outside : goal.search-preserved-in-Some-outside
search-preserved-in-Some-outside c =
    let found = c.in-Some-outside.ensures.found in
    let t = target_is c.args.graph.now c.args.targets.now c.in-Some.node c.from.result c.in-Some-outside.next c.requires c.from.ensures found.0 in
    next_pushed _ _ _ _ _ _ _ _ _ _ c.search.invariant c.in-Some.ensures.items t found.1 c.if-next-start.false (omega arith) c.insert.ensures c.push-in-Some-outside.ensures.items c.push-in-Some-outside-2.ensures.items

pub search-smaller : goal.search-smaller
search-smaller c = last_smaller c.search.seen _ _ _ c.in-Some.ensures.items

pub search-preserved : goal.search-preserved
search-preserved c =
    let none : c.outside.result ≡ None = search rules in
    let all = subst (λ (found : Option ℕ). IfNone found ((n : ℕ) → IsIn (row c.args.targets.now c.from.result) n → IsIn c.search.seen n)) none c.outside.ensures.none in
    let marked = λ (n : ℕ) (t : Triggers (triggered c.args.graph.now) c.in-Some.node n). all n (targets_in c.args.graph.now c.args.targets.now c.in-Some.node c.from.result n c.requires c.from.ensures t) in
    last_popped _ _ _ _ _ _ c.search.invariant c.in-Some.ensures.items marked

pub returns-clause-none : goal.returns-clause-none
returns-clause-none c =
    let empty : c.search.path.items ≡ [] = search rules in
    quest_ends _ _ _ (subst (λ (p : List ℕ). IsQuest c.args.graph.now c.args.start c.search.seen p) empty c.search.invariant)
