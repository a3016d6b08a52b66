-- The first macro or object over the greatest budget is the same in the graph of the triggers and in the pool.
use Rattle.std.proofs.Common.{◌≡◌, ℕ, zero, suc, ◌+◌, ◌<◌, ◌≤◌, Bool, true, false, cond, List, [], ◌∷◌, ◌++◌, map, length, get_or, Option, Some, refl, sym, ap, subst, ◌∙◌, arith, inl, inr}
use Rattle.std.proofs.lemmas.Option.{same_Some}
use Rattle.std.proofs.lemmas.Bool.{eqb-true, cases_lt}
use Rattle.std.proofs.lemmas.List.{append_assoc, get_or_past, length-map}
use Rattle.std.specs.Prelude.{IsTrue, nat_eq, sum_by, slice_get, slice_index_or}
use Rattle.std.specs.List.{flat_map, position_from, AllByRecursion}
use Rattle.std.specs.Ordering.{nat_cmp, is_lt}
use Rattle.std.specs.FinMap as finite
use Rattle.std.specs.FinMap.Entries.{below_all}
use Rattle.vt_rank.specs.declared.graph.Graph.{Graph}
use Rattle.vt_rank.specs.declared.budget.OverBudget.TheVariants as over
use Rattle.vt_rank.specs.Costs as graphs
use Rattle.vt_rank.specs.Costs.{group_cost}
use Rattle.vt_verify.specs.declared.listing.Listing.{Listing}
use Rattle.vt_stores.specs.Shapes.{Shape, shape_of}
use Rattle.vt_stores.specs.Stores.{Objects, IsRising}
use Rattle.vt_verify.specs.Triggers.{listing, listed}
use Rattle.vt_verify.specs.Rules.{IsFirstOver}
use Rattle.vt_verify.specs.Rules.IsFirstOver.{Macro, Object}
use Rattle.vt_verify.specs.TriggerGraphs.{IsTriggerGraph, is_event_of, if_any, if_listed, event_numbers, listed_events, group_of_event}
use Rattle.vt_stores.proofs.SortedEntries.{three, both_true}
use Rattle.vt_verify.proofs.lemmas.graphs.EventGroups.{rising_shape}
use Rattle.vt_verify.proofs.lemmas.graphs.SameTriggers.{groups_at}
use Rattle.vt_verify.proofs.lemmas.graphs.SameCosts.{cost_is, group_cost_is, budget_within, costs_within}
use Rattle.vt_stores.proofs.BinarySearch.{is_below}

-- ---- events by rising ID

-- the IDs of the events do not fall, and none is below `low`
Climbs : ℕ → List Listing → Type 0
Climbs low [] = Unit {0}
Climbs low (e ∷ events) = (low ≤ e.id) × Climbs e.id events

climbs_all : (low : ℕ) (events : List Listing) (j : ℕ) (d : Listing) → Climbs low events → j < length events → low ≤ (get_or events j d).id
unfolding Climbs
climbs_all low [] j d climbs lt = absurd (omega arith)
climbs_all low (e ∷ events) zero d climbs lt = climbs.0
climbs_all low (e ∷ events) (suc j) d climbs lt =
    let here = climbs.0 in
    let later = climbs_all e.id events j d climbs.1 (omega arith) in
    omega arith

climbs_two : (low : ℕ) (events : List Listing) (k j : ℕ) (d : Listing) → Climbs low events → k ≤ j → j < length events → (get_or events k d).id ≤ (get_or events j d).id
unfolding Climbs
climbs_two low [] k j d climbs le lt = absurd (omega arith)
climbs_two low (e ∷ events) zero zero d climbs le lt = omega arith
climbs_two low (e ∷ events) zero (suc j) d climbs le lt = climbs_all e.id events j d climbs.1 (omega arith)
climbs_two low (e ∷ events) (suc k) zero d climbs le lt = absurd (omega arith)
climbs_two low (e ∷ events) (suc k) (suc j) d climbs le lt = climbs_two e.id events k j d climbs.1 (omega arith) (omega arith)

any_case : (low id event : ℕ) (ms : List ℕ) (rest : List Listing) → low ≤ id → ((low : ℕ) → low ≤ id → Climbs low rest) → Climbs low (if_any (listing id event) ms ++ rest)
unfolding Climbs
any_case low id event [] rest le later = later low le
any_case low id event (m ∷ ms) rest le later = (le, later id (omega arith))

numbers_climb : (shape : Shape) (id : ℕ) (ns : List ℕ) (rest : List Listing) → ((low : ℕ) → low ≤ id → Climbs low rest)
    → (low : ℕ) → low ≤ id → Climbs low (flat_map (λ event. if_listed shape (listing id event)) ns ++ rest)
numbers_climb shape id [] rest later low le = later low le
numbers_climb shape id (n ∷ ns) rest later low le =
    subst (Climbs low)
    (sym (append_assoc (if_listed shape (listing id n)) (flat_map (λ event. if_listed shape (listing id event)) ns) rest))
    (any_case low id n (listed shape (listing id n)) (flat_map (λ event. if_listed shape (listing id event)) ns ++ rest) le (numbers_climb shape id ns rest later))

all_above : (low id : ℕ) (es : Shape) → low ≤ id → IsTrue (below_all nat_cmp id es) → AllByRecursion (λ e. low ≤ e.0) es
all_above low id [] le all = tt
all_above low id (e ∷ es) le all =
    let parts = both_true (is_lt (nat_cmp id e.0)) (below_all nat_cmp id es) all in
    let lt = is_below id e.0 (three id e.0) parts.0 in
    (omega arith, all_above low id es le parts.1)

objects_climb : (shape es : Shape) → IsTrue (finite.is_sorted nat_cmp es) → (low : ℕ) → AllByRecursion (λ e. low ≤ e.0) es
    → Climbs low (flat_map (λ e. flat_map (λ event. if_listed shape (listing e.0 event)) event_numbers) es)
unfolding Climbs
objects_climb shape [] rising low all = tt
objects_climb shape (e ∷ es) rising low all =
    let parts = both_true (below_all nat_cmp e.0 es) (finite.is_sorted nat_cmp es) rising in
    numbers_climb shape e.0 event_numbers (flat_map (λ e. flat_map (λ event. if_listed shape (listing e.0 event)) event_numbers) es)
    (λ low le. objects_climb shape es parts.1 low (all_above low e.0 es le parts.0)) low all.0

all_from_zero : (es : Shape) → AllByRecursion (λ e. 0 ≤ e.0) es
all_from_zero [] = tt
all_from_zero (e ∷ es) = (omega arith, all_from_zero es)

events_climb : (shape : Shape) → IsTrue (finite.is_sorted nat_cmp shape) → Climbs 0 (listed_events shape)
events_climb shape rising = objects_climb shape shape rising 0 (all_from_zero shape)

-- ---- the index of an event

pub there : (events : List Listing) (k : ℕ) (raised : Listing) → slice_get events k ≡ Some raised → (k < length events) × (raised ≡ slice_index_or events k raised)
there [] k raised is = absurd cc
there (e ∷ events) zero raised is = (omega arith, sym (same_Some e raised is))
there (e ∷ events) (suc k) raised is =
    let later = there events k raised is in
    let inside = later.0 in
    (omega arith, later.1)

record IsAtPlace (events : List Listing) (i : ℕ) (q : Listing) (k : ℕ) : Type 0 where
  place : ℕ
  sum : k ≡ i + place
  inside : place < length events
  same_id : (d : Listing) → (get_or events place d).id ≡ q.id

place_case : (e : Listing) (events : List Listing) (i : ℕ) (q : Listing) (k : ℕ) (rest : Option ℕ) (b : Bool) → is_event_of q e ≡ b
    → (rest ≡ Some k → IsAtPlace events (i + 1) q k) → cond b (Some i) rest ≡ Some k → IsAtPlace (e ∷ events) i q k
place_case e events i q k rest true is later some =
    let parts = both_true (nat_eq q.id e.id) (nat_eq q.event e.event) is in
    let same = same_Some i k some in record {
      place = 0;
      sum = omega arith;
      inside = omega arith;
      same_id = λ d. sym (eqb-true q.id e.id parts.0);
    }
place_case e events i q k rest false is later some =
    let at = later some in
    let sum = at.sum in
    let inside = at.inside in record {
      place = suc at.place;
      sum = omega arith;
      inside = omega arith;
      same_id = at.same_id;
    }

at_place : (q : Listing) (i : ℕ) (events : List Listing) (k : ℕ) → position_from (is_event_of q) i events ≡ Some k → IsAtPlace events i q k
at_place q i [] k some = absurd cc
at_place q i (e ∷ events) k some =
    place_case e events i q k (position_from (is_event_of q) (i + 1) events) (is_event_of q e) refl (at_place q (i + 1) events k) some

module _ (shape : Shape) (events : List Listing) (g : Graph) (are : IsTriggerGraph shape events g) where
  -- ---- groups within the list

  no_group : (k : ℕ) → length events ≤ k → group_cost g k ≡ 0
  no_group k le =
      let len = length-map events (listed shape) in
      ap (sum_by (graphs.cost_of g)) (groups_at shape events g are k ∙ get_or_past (map (listed shape) events) k [] (omega arith))

  -- a group that costs more than a cap has an event
  pub over_is_inside : (cap k : ℕ) → cap < group_cost g k → k < length events
  over_is_inside cap k lt = elim (cases_lt k (length events)) [
    | inl inside ↦ inside
    | inr beyond ↦ let none = no_group k beyond in absurd (omega arith)
  ]

  -- ---- the first macro or object over the cap

  pub first_macro : (steps n : ℕ) → graphs.IsFirstOverCap g steps (over.Node n) → IsFirstOver steps shape n
  first_macro steps n first =
      let same = cost_is shape events g are n in
      let lt = first.0 in
      Macro (omega arith) (λ other less. costs_within shape events g are steps other (first.1 other less))

  module _ (rising : IsTrue (finite.is_sorted nat_cmp shape)) where
    -- the groups of lesser IDs have lesser indices
    before : (k : ℕ) (raised : Listing) → k < length events → raised ≡ slice_index_or events k raised
        → (other event j : ℕ) → other < raised.id → group_of_event events (listing other event) ≡ Some j → j < k
    before k raised inside is other event j less found =
        let at = at_place (listing other event) 0 events j found in
        let climbs = subst (Climbs 0) (sym are.events_are) (events_climb shape rising) in
        let sum = at.sum in
        let within = at.inside in
        let id = at.same_id raised in
        let here = ap (λ (e : Listing). e.id) is in
        elim (cases_lt at.place k) [
          | inl lt ↦ omega arith
          | inr ge ↦ let two = climbs_two 0 events k at.place raised climbs ge within in absurd (omega arith)
        ]

    pub first_object : (steps k : ℕ) (raised : Listing) → k < length events → raised ≡ slice_index_or events k raised
        → graphs.IsFirstOverCap g steps (over.Group k) → IsFirstOver steps shape raised.id
    first_object steps k raised inside is first =
        let same = group_cost_is shape events g are k raised inside is in
        let lt = first.1 in
        Object (λ other. costs_within shape events g are steps other (first.0 other)) raised.event (omega arith)
        (λ other event less. budget_within shape events g are (listing other event) steps
        (λ j found. first.2 j (before k raised inside is other event j less found)))

-- ---- the first object over the cap, for objects with rising IDs

pub first_over : (objects : Objects) (events : List Listing) (g : Graph) → IsRising objects → IsTriggerGraph (shape_of objects) events g
    → (steps k : ℕ) (raised : Listing) → slice_get events k ≡ Some raised → graphs.IsFirstOverCap g steps (over.Group k) → IsFirstOver steps (shape_of objects) raised.id
first_over objects events g rising are steps k raised is first =
    let at = there events k raised is in
    first_object (shape_of objects) events g are (rising_shape objects rising) steps k raised at.0 at.1 first
