-- The first macro or event that is found to cost too much is the first over the greatest budget.
use Rattle.std.proofs.Common.{◌≡◌, ℕ, ◌<◌, ◌≤◌, Bool, true, false, cond, not, ◌&&◌, List, [], ◌∷◌, ◌++◌, refl, sym, ap, ap₂, subst, ◌∙◌, arith, inl, inr}
use Rattle.std.proofs.lemmas.Bool.{cases_lt, lt-ltb, ltb-true}
use Rattle.std.proofs.lemmas.List.{append_assoc}
use Rattle.std.specs.Prelude.{Contains, filter, nat_lt, IsTrue}
use Rattle.std.specs.List.{flat_map, list_any, AllByRecursion}
use Rattle.std.specs.Ordering.{nat_cmp, is_lt}
use Rattle.std.specs.FinMap as finite
use Rattle.std.specs.FinMap.Entries.{below_all}
use Rattle.vt_chains.specs.Limits.{terminal}
use Rattle.vt_chains.proofs.Elements.{Contains-nil, Contains-head, cons_case}
use Rattle.vt_stores.specs.Shapes.{Shape, Fixed}
use Rattle.vt_stores.proofs.SortedEntries.{three, both_true}
use Rattle.vt_stores.proofs.BinarySearch.{is_below}
use Rattle.vt_verify.specs.declared.listing.Listing.{Listing}
use Rattle.vt_verify.specs.Budgets.{cost, budget}
use Rattle.vt_verify.specs.Macros.{may_be_named}
use Rattle.vt_verify.specs.Orders.{named_macros}
use Rattle.vt_verify.specs.Rules.{IsFirstOver}
use Rattle.vt_verify.specs.Rules.IsFirstOver.{Macro, Object}
use Rattle.vt_verify.specs.TriggerGraphs.{if_any, if_listed, event_numbers, listed_events}
use Rattle.vt_verify.specs.Triggers.{listing, listed, run_by_name}
use Rattle.check_inspect.specs.Costs.{costs_too_much, event_costs_too_much}
use Rattle.vt_tool_laws.proofs.NoneOver.{is_named, free, no_cost_over, event_listed, none_alone}
use Rattle.vt_tool_laws.proofs.Truths.{kept_passes}

-- ---- macros by rising ID

Rises : List ℕ → Type 0
Rises [] = Unit {0}
Rises (m ∷ ms) = AllByRecursion (λ n. m < n) ms × Rises ms

above_run : (low id : ℕ) (f : Fixed) (rest : List ℕ) → low < id → AllByRecursion (λ n. low < n) rest → AllByRecursion (λ n. low < n) (run_by_name id f ++ rest)
above_run low id f rest lt all = by (may_be_named id f)
  where
    by : (b : Bool) → AllByRecursion (λ n. low < n) (cond b (id ∷ []) [] ++ rest)
    by true = (lt, all)
    by false = all

all_above : (low : ℕ) (es : Shape) → IsTrue (below_all nat_cmp low es) → AllByRecursion (λ n. low < n) (named_macros es)
all_above low [] all = tt
all_above low (e ∷ es) all =
    let parts = both_true (is_lt (nat_cmp low e.0)) (below_all nat_cmp low es) all in
    above_run low e.0 e.1 (named_macros es) (is_below low e.0 (three low e.0) parts.0) (all_above low es parts.1)

run_rises : (id : ℕ) (f : Fixed) (rest : List ℕ) → AllByRecursion (λ n. id < n) rest → Rises rest → Rises (run_by_name id f ++ rest)
unfolding Rises
run_rises id f rest above rises = by (may_be_named id f)
  where
    by : (b : Bool) → Rises (cond b (id ∷ []) [] ++ rest)
    by true = (above, rises)
    by false = rises

named_rise : (es : Shape) → IsTrue (finite.is_sorted nat_cmp es) → Rises (named_macros es)
unfolding Rises
named_rise [] up = tt
named_rise (e ∷ es) up =
    let both = both_true (below_all nat_cmp e.0 es) (finite.is_sorted nat_cmp es) up in
    run_rises e.0 e.1 (named_macros es) (all_above e.0 es both.0) (named_rise es both.1)

among_all : (low : ℕ) (ms : List ℕ) (m : ℕ) → AllByRecursion (λ n. low < n) ms → Contains ms m → low < m
among_all low [] m all inside = absurd (Contains-nil m inside)
among_all low (n ∷ ms) m all inside = cons_case (low < m) n m ms inside (λ same. subst (λ (k : ℕ). low < k) same all.0) (among_all low ms m all.1)

least_case : (test : ℕ → Bool) (x first other : ℕ) (kept rest ms : List ℕ) (b : Bool) → test x ≡ b → cond b (x ∷ kept) kept ≡ first ∷ rest
    → AllByRecursion (λ n. x < n) ms → test other ≡ true → Contains (x ∷ ms) other → (kept ≡ first ∷ rest → Contains ms other → first ≤ other) → first ≤ other
least_case test x first other kept rest ms true is made above passes inside later =
    let same : x ≡ first = cc in
    cons_case (first ≤ other) x other ms inside (λ here. omega (arith, same, here)) (λ h. let lt = among_all x ms other above h in omega (arith, same, lt))
least_case test x first other kept rest ms false is made above passes inside later =
    cons_case (first ≤ other) x other ms inside (λ here. let never : false ≡ true = sym is ∙ ap test here ∙ passes in absurd cc) (later made)

-- the first that passes is the least that passes
least : (test : ℕ → Bool) (ms : List ℕ) (first : ℕ) (rest : List ℕ) → Rises ms → filter test ms ≡ first ∷ rest → (other : ℕ) → test other ≡ true → Contains ms other → first ≤ other
unfolding Rises
least test [] first rest rises made other passes inside = absurd (Contains-nil other inside)
least test (x ∷ ms) first rest rises made other passes inside =
    least_case test x first other (filter test ms) rest ms (test x) refl made rises.0 passes inside
    (λ kept h. least test ms first rest rises.1 kept other passes h)

-- ---- events by rising ID

Climbs : List Listing → Type 0
Climbs [] = Unit {0}
Climbs (e ∷ es) = AllByRecursion (λ q. e.id ≤ q.id) es × Climbs es

from_any : (low id event : ℕ) (ms : List ℕ) (rest : List Listing) → low ≤ id → AllByRecursion (λ q. low ≤ q.id) rest → AllByRecursion (λ q. low ≤ q.id) (if_any (listing id event) ms ++ rest)
from_any low id event [] rest le all = all
from_any low id event (m ∷ ms) rest le all = (le, all)

from_numbers : (shape : Shape) (low id : ℕ) (ns : List ℕ) (rest : List Listing) → low ≤ id → AllByRecursion (λ q. low ≤ q.id) rest
    → AllByRecursion (λ q. low ≤ q.id) (flat_map (λ event. if_listed shape (listing id event)) ns ++ rest)
from_numbers shape low id [] rest le all = all
from_numbers shape low id (n ∷ ns) rest le all =
    subst (λ (l : List Listing). AllByRecursion (λ q. low ≤ q.id) l)
    (sym (append_assoc (if_listed shape (listing id n)) (flat_map (λ event. if_listed shape (listing id event)) ns) rest))
    (from_any low id n (listed shape (listing id n)) (flat_map (λ event. if_listed shape (listing id event)) ns ++ rest) le (from_numbers shape low id ns rest le all))

from_objects : (shape : Shape) (low : ℕ) (es : Shape) → IsTrue (below_all nat_cmp low es)
    → AllByRecursion (λ q. low ≤ q.id) (flat_map (λ e. flat_map (λ event. if_listed shape (listing e.0 event)) event_numbers) es)
from_objects shape low [] all = tt
from_objects shape low (e ∷ es) all =
    let parts = both_true (is_lt (nat_cmp low e.0)) (below_all nat_cmp low es) all in
    let lt = is_below low e.0 (three low e.0) parts.0 in
    from_numbers shape low e.0 event_numbers (flat_map (λ e. flat_map (λ event. if_listed shape (listing e.0 event)) event_numbers) es) (omega arith) (from_objects shape low es parts.1)

any_climbs : (id event : ℕ) (ms : List ℕ) (rest : List Listing) → AllByRecursion (λ q. id ≤ q.id) rest → Climbs rest → Climbs (if_any (listing id event) ms ++ rest)
unfolding Climbs
any_climbs id event [] rest all climbs = climbs
any_climbs id event (m ∷ ms) rest all climbs = (all, climbs)

numbers_climb : (shape : Shape) (id : ℕ) (ns : List ℕ) (rest : List Listing) → AllByRecursion (λ q. id ≤ q.id) rest → Climbs rest
    → Climbs (flat_map (λ event. if_listed shape (listing id event)) ns ++ rest)
numbers_climb shape id [] rest all climbs = climbs
numbers_climb shape id (n ∷ ns) rest all climbs =
    subst Climbs (sym (append_assoc (if_listed shape (listing id n)) (flat_map (λ event. if_listed shape (listing id event)) ns) rest))
    (any_climbs id n (listed shape (listing id n)) (flat_map (λ event. if_listed shape (listing id event)) ns ++ rest)
    (from_numbers shape id id ns rest (omega arith) all) (numbers_climb shape id ns rest all climbs))

objects_climb : (shape es : Shape) → IsTrue (finite.is_sorted nat_cmp es) → Climbs (flat_map (λ e. flat_map (λ event. if_listed shape (listing e.0 event)) event_numbers) es)
unfolding Climbs
objects_climb shape [] up = tt
objects_climb shape (e ∷ es) up =
    let both = both_true (below_all nat_cmp e.0 es) (finite.is_sorted nat_cmp es) up in
    numbers_climb shape e.0 event_numbers (flat_map (λ e. flat_map (λ event. if_listed shape (listing e.0 event)) event_numbers) es) (from_objects shape e.0 es both.0) (objects_climb shape es both.1)

among_events : (low : ℕ) (es : List Listing) (q : Listing) → AllByRecursion (λ q. low ≤ q.id) es → Contains es q → low ≤ q.id
among_events low [] q all inside = absurd (Contains-nil q inside)
among_events low (e ∷ es) q all inside = cons_case (low ≤ q.id) e q es inside (λ same. subst (λ (r : Listing). low ≤ r.id) same all.0) (among_events low es q all.1)

first_event_case : (test : Listing → Bool) (x first other : Listing) (kept rest es : List Listing) (b : Bool) → test x ≡ b → cond b (x ∷ kept) kept ≡ first ∷ rest
    → AllByRecursion (λ q. x.id ≤ q.id) es → test other ≡ true → Contains (x ∷ es) other → (kept ≡ first ∷ rest → Contains es other → first.id ≤ other.id) → first.id ≤ other.id
first_event_case test x first other kept rest es true is made above passes inside later =
    let same : x ≡ first = cc in
    let same_id = ap (λ (q : Listing). q.id) same in
    cons_case (first.id ≤ other.id) x other es inside (λ here. let one = ap (λ (q : Listing). q.id) here in omega (arith, same_id, one))
    (λ h. let le = among_events x.id es other above h in omega (arith, same_id, le))
first_event_case test x first other kept rest es false is made above passes inside later =
    cons_case (first.id ≤ other.id) x other es inside (λ here. let never : false ≡ true = sym is ∙ ap test here ∙ passes in absurd cc) (later made)

first_event : (test : Listing → Bool) (es : List Listing) (first : Listing) (rest : List Listing) → Climbs es → filter test es ≡ first ∷ rest → (other : Listing) → test other ≡ true
    → Contains es other → first.id ≤ other.id
unfolding Climbs
first_event test [] first rest climbs made other passes inside = absurd (Contains-nil other inside)
first_event test (x ∷ es) first rest climbs made other passes inside =
    first_event_case test x first other (filter test es) rest es (test x) refl made climbs.0 passes inside
    (λ kept h. first_event test es first rest climbs.1 kept other passes h)

-- ---- the first finding

head_passes : {X : Type 0} (test : X → Bool) (xs : List X) (x : X) (rest : List X) → filter test xs ≡ x ∷ rest → test x ≡ true
head_passes test xs x rest is = kept_passes test xs x (subst (λ l. Contains l x) (sym is) (Contains-head x rest))

module _ (shape : Shape) (up : IsTrue (finite.is_sorted nat_cmp shape)) where
  pub first_macro : (id : ℕ) (rest : List ℕ) → filter (costs_too_much shape) (named_macros shape) ≡ id ∷ rest → IsFirstOver terminal.steps shape id
  first_macro id rest is =
      Macro (ltb-true terminal.steps (cost shape id) (head_passes (costs_too_much shape) (named_macros shape) id rest is))
      (λ other lt. elim (cases_lt terminal.steps (cost shape other)) [
        | inl over ↦
            let inside = is_named shape other (λ no_commands. let nothing = free shape other no_commands in absurd (omega arith)) in
            let le = least (costs_too_much shape) (named_macros shape) id rest (named_rise shape up) is other (lt-ltb terminal.steps (cost shape other) over) inside in
            absurd (omega arith)
        | inr fits ↦ fits
      ])

  pub first_object : (e : Listing) (rest : List Listing) → filter (costs_too_much shape) (named_macros shape) ≡ []
      → filter (event_costs_too_much shape) (listed_events shape) ≡ e ∷ rest → IsFirstOver terminal.steps shape e.id
  first_object e rest none is =
      let fit = no_cost_over shape none in
      let passes = head_passes (event_costs_too_much shape) (listed_events shape) e rest is in
      let over = both_true (nat_lt terminal.steps (budget shape e.id e.event)) (not (list_any (costs_too_much shape) (listed shape e))) passes in
      Object fit e.event (ltb-true terminal.steps (budget shape e.id e.event) over.0)
      (λ other of lt. elim (cases_lt terminal.steps (budget shape other of)) [
        | inl more ↦
            let q = listing other of in
            let inside = event_listed shape other of (omega arith) in
            let alone = none_alone shape fit (listed shape q) in
            let test : event_costs_too_much shape q ≡ true = ap₂ (λ (a b : Bool). a && not b) (lt-ltb terminal.steps (budget shape other of) more) alone in
            let le = first_event (event_costs_too_much shape) (listed_events shape) e rest (objects_climb shape shape up) is q test inside in
            absurd (omega arith)
        | inr fits ↦ fits
      ])
