-- No macro and no event is over the greatest budget exactly if none is found.
use Rattle.std.proofs.Common.{◌≡◌, ℕ, zero, suc, ◌<◌, ◌≤◌, Bool, true, false, cond, not, ◌&&◌, ◌||◌, List, [], ◌∷◌, ◌++◌, map, Option, Some, None, refl, sym, ap, ap₂, subst, ◌∙◌, arith, inl, inr}
use Rattle.std.proofs.lemmas.Bool.{cases_lt, eqb-true, lt-ltb, le-ltb}
use Rattle.std.proofs.lemmas.List.{append-nil}
use Rattle.std.proofs.lemmas.List.Elements.{Contains-append_left, Contains-append_right}
use Rattle.std.specs.Prelude.{Contains, filter, nat_lt, nat_eq, sum_by}
use Rattle.std.specs.Option.{option_to_list}
use Rattle.std.specs.List.{flat_map, list_any}
use Rattle.std.specs.Ordering.{nat_cmp, eq_by_cmp}
use Rattle.vt_chains.specs.Limits.{terminal}
use Rattle.vt_chains.proofs.Elements.{Contains-nil, Contains-head, Contains-tail, cons_case}
use Rattle.vt_stores.specs.Shapes.{Shape, Fixed, fixed_at}
use Rattle.vt_stores.proofs.SortedEntries.{both_true}
use Rattle.vt_verify.specs.declared.listing.Listing.{Listing}
use Rattle.vt_verify.specs.Budgets.{cost, cost_within, budget}
use Rattle.vt_verify.specs.Macros.{may_be_named, commands_of, commands_in, commands}
use Rattle.vt_verify.specs.Orders.{named_macros}
use Rattle.vt_verify.specs.Rules.{IsWithinBudget}
use Rattle.vt_verify.specs.TriggerGraphs.{is_event_of, has, listed_events}
use Rattle.vt_verify.specs.Triggers.{listing, listed, run_by_name}
use Rattle.vt_verify.proofs.lemmas.graphs.SameTriggers.{unlisted}
use Rattle.check_inspect.specs.Costs.{costs_too_much, event_costs_too_much, macro_finding, event_finding, over_findings}
use Rattle.check_reading.proofs.lemmas.InForce.{same_test}

-- ---- filters

kept_case : {X : Type 0} (b : Bool) (x : X) (rest : List X) → cond b (x ∷ rest) rest ≡ [] → (b ≡ false) × (rest ≡ [])
kept_case true x rest none = absurd cc
kept_case false x rest none = (refl, none)

pub none_kept : {X : Type 0} (test : X → Bool) (xs : List X) (y : X) → filter test xs ≡ [] → Contains xs y → test y ≡ false
none_kept test [] y none inside = absurd (Contains-nil y inside)
none_kept test (x ∷ xs) y none inside =
    let parts = kept_case (test x) x (filter test xs) none in
    cons_case (test y ≡ false) x y xs inside (λ same. ap test (sym same) ∙ parts.0) (none_kept test xs y parts.1)

pub keeps_none : {X : Type 0} (test : X → Bool) (xs : List X) → ((x : X) → test x ≡ false) → filter test xs ≡ []
keeps_none test [] fails = refl
keeps_none test (x ∷ xs) fails = ap (λ (b : Bool). cond b (x ∷ filter test xs) (filter test xs)) (fails x) ∙ keeps_none test xs fails

pub map_none : {X Y : Type 0} (f : X → Y) (xs : List X) → map f xs ≡ [] → xs ≡ []
map_none f [] none = refl
map_none f (x ∷ xs) none = absurd cc

pub both_none : {X : Type 0} (xs ys : List X) → xs ++ ys ≡ [] → (xs ≡ []) × (ys ≡ [])
both_none [] ys none = (refl, none)
both_none (x ∷ xs) ys none = absurd cc

none_of : {X : Type 0} (test : X → Bool) (xs : List X) → ((x : X) → test x ≡ false) → list_any test xs ≡ false
none_of test [] fails = refl
none_of test (x ∷ xs) fails = ap₂ (λ (a b : Bool). a || b) (fails x) (none_of test xs fails)

-- ---- macros with a cost are named

named_true : (b : Bool) (id : ℕ) (bytes : List ℕ) → (flat_map commands_of (option_to_list (cond b (Some bytes) None)) ≡ [] → ⊥) → b ≡ true
named_true true id bytes some = refl
named_true false id bytes some = absurd (some refl)

in_run : (id : ℕ) (f : Fixed) → may_be_named id f ≡ true → Contains (run_by_name id f) id
in_run id f is = subst (λ (b : Bool). Contains (cond b (id ∷ []) []) id) (sym is) (Contains-head id [])

module _ (id : ℕ) (f : Fixed) (may : may_be_named id f ≡ true) where
  among_case : (e : ℕ × Fixed) (es : Shape) (b : Bool) → eq_by_cmp nat_cmp id e.0 ≡ b → cond b (Some e.1) (fixed_at es id) ≡ Some f
      → (fixed_at es id ≡ Some f → Contains (named_macros es) id) → Contains (named_macros (e ∷ es)) id
  among_case e es true is found later =
      let same : id ≡ e.0 = eqb-true id e.0 (sym (same_test id e.0) ∙ is) in
      let one : e.1 ≡ f = cc in
      Contains-append_left (run_by_name e.0 e.1) (named_macros es) id
      (subst (λ (k : ℕ). Contains (run_by_name k e.1) id) same (subst (λ (g : Fixed). Contains (run_by_name id g) id) (sym one) (in_run id f may)))
  among_case e es false is found later = Contains-append_right (run_by_name e.0 e.1) (named_macros es) id (later found)

  among : (es : Shape) → fixed_at es id ≡ Some f → Contains (named_macros es) id
  among [] found = absurd cc
  among (e ∷ es) found = among_case e es (eq_by_cmp nat_cmp id e.0) refl found (among es)

fixed_case : (shape : Shape) (id : ℕ) (found : Option Fixed) → fixed_at shape id ≡ found → (flat_map (commands_in id) (option_to_list found) ≡ [] → ⊥)
    → Contains (named_macros shape) id
fixed_case shape id None is some = absurd (some refl)
fixed_case shape id (Some f) is some =
    among id f (named_true (may_be_named id f) id f.bytes (λ none. some (append-nil (commands_in id f) ∙ none))) shape is

pub is_named : (shape : Shape) (id : ℕ) → (commands shape id ≡ [] → ⊥) → Contains (named_macros shape) id
unfolding commands
is_named shape id some = fixed_case shape id (fixed_at shape id) refl some

free_within : (shape : Shape) (id depth : ℕ) → commands shape id ≡ [] → cost_within depth shape id ≡ 0
unfolding cost_within
free_within shape id zero none = refl
free_within shape id (suc depth) none = ap (sum_by _) none

pub free : (shape : Shape) (id : ℕ) → commands shape id ≡ [] → cost shape id ≡ 0
unfolding cost
free shape id none = free_within shape id 256 none

has_by : (b : Bool) (m : ℕ) (ms l : List ℕ) → cond b l [] ≡ l → l ≡ m ∷ ms → b ≡ true
has_by true m ms l same is = refl
has_by false m ms l same is = let never = same ∙ is in absurd cc

-- ---- no cost is over the budget

at_most : (steps a : ℕ) → nat_lt steps a ≡ false → a ≤ steps
at_most steps a is = elim (cases_lt steps a) [
  | inl lt ↦ let yes = lt-ltb steps a lt in let never : true ≡ false = sym yes ∙ is in absurd cc
  | inr ge ↦ ge
]

-- without a named macro over the budget, no macro is over it
pub no_cost_over : (shape : Shape) → filter (costs_too_much shape) (named_macros shape) ≡ [] → (id : ℕ) → cost shape id ≤ terminal.steps
no_cost_over shape none id = elim (cases_lt terminal.steps (cost shape id)) [
  | inl lt ↦
      let inside = is_named shape id (λ no_commands. let nothing = free shape id no_commands in absurd (omega arith)) in
      at_most terminal.steps (cost shape id) (none_kept (costs_too_much shape) (named_macros shape) id none inside)
  | inr ge ↦ ge
]

total_is : (shape : Shape) (id event : ℕ) → budget shape id event ≡ sum_by (cost shape) (listed shape (listing id event))
unfolding budget
total_is shape id event = refl

event_among : (q : Listing) (es : List Listing) → has es q ≡ true → Contains es q
event_among q [] is = absurd cc
event_among q (e ∷ es) is = one (is_event_of q e) refl is (event_among q es)
  where
    one : (b : Bool) → is_event_of q e ≡ b → (b || has es q) ≡ true → (has es q ≡ true → Contains es q) → Contains (e ∷ es) q
    one true here is later =
        let ids = both_true (nat_eq q.id e.id) (nat_eq q.event e.event) here in
        let same : e ≡ q = ap₂ (λ (id event : ℕ). listing id event) (sym (eqb-true q.id e.id ids.0)) (sym (eqb-true q.event e.event ids.1)) in
        subst (λ (r : Listing). Contains (e ∷ es) r) same (Contains-head e es)
    one false here is later = Contains-tail e q es (later is)

listed_case : (shape : Shape) (id event : ℕ) (ms : List ℕ) → listed shape (listing id event) ≡ ms → 0 < budget shape id event → Contains (listed_events shape) (listing id event)
listed_case shape id event [] is some = let total = total_is shape id event ∙ ap (sum_by (cost shape)) is in absurd (omega arith)
listed_case shape id event (m ∷ ms) is some =
    let q = listing id event in
    event_among q (listed_events shape) (has_by (has (listed_events shape) q) m ms (listed shape q) (unlisted shape q) is)

-- an event that costs something is listed
pub event_listed : (shape : Shape) (id event : ℕ) → 0 < budget shape id event → Contains (listed_events shape) (listing id event)
event_listed shape id event some = listed_case shape id event (listed shape (listing id event)) refl some

pub none_alone : (shape : Shape) → ((id : ℕ) → cost shape id ≤ terminal.steps) → (ms : List ℕ) → list_any (costs_too_much shape) ms ≡ false
none_alone shape fit ms = none_of (costs_too_much shape) ms (λ m. le-ltb terminal.steps (cost shape m) (fit m))

module _ (shape : Shape) (none : over_findings shape ≡ []) where
  parts : (filter (costs_too_much shape) (named_macros shape) ≡ []) × (filter (event_costs_too_much shape) (listed_events shape) ≡ [])
  parts =
      let two = both_none (map macro_finding (filter (costs_too_much shape) (named_macros shape)))
      (map event_finding (filter (event_costs_too_much shape) (listed_events shape))) none in
      (map_none macro_finding _ two.0, map_none event_finding _ two.1)

  cost_fits : (id : ℕ) → cost shape id ≤ terminal.steps
  cost_fits id = no_cost_over shape parts.0 id

  no_cost : (m : ℕ) → costs_too_much shape m ≡ false
  no_cost m = le-ltb terminal.steps (cost shape m) (cost_fits m)

  budget_case : (id event : ℕ) (ms : List ℕ) → listed shape (listing id event) ≡ ms → budget shape id event ≤ terminal.steps
  budget_case id event [] is = let total = total_is shape id event ∙ ap (sum_by (cost shape)) is in omega arith
  budget_case id event (m ∷ ms) is =
      let q = listing id event in
      let test = none_kept (event_costs_too_much shape) (listed_events shape) q parts.1 (event_among q (listed_events shape) (has_by (has (listed_events shape) q) m ms (listed shape q) (unlisted shape q) is)) in
      let alone : not (list_any (costs_too_much shape) (listed shape q)) ≡ true = ap not (none_of (costs_too_much shape) (listed shape q) no_cost) in
      at_most terminal.steps (budget shape id event) (without_other (nat_lt terminal.steps (budget shape id event)) (not (list_any (costs_too_much shape) (listed shape q))) test alone)
    where
      without_other : (a b : Bool) → (a && b) ≡ false → b ≡ true → a ≡ false
      without_other true true is alone = is
      without_other true false is alone = absurd cc
      without_other false b is alone = refl

  pub within : IsWithinBudget terminal.steps shape
  within = record { costs = cost_fits; budgets = λ id event. budget_case id event (listed shape (listing id event)) refl }

pub none_over : (shape : Shape) → IsWithinBudget terminal.steps shape → over_findings shape ≡ []
none_over shape is =
    ap₂ (λ a b. map macro_finding a ++ map event_finding b)
    (keeps_none (costs_too_much shape) (named_macros shape) (λ id. le-ltb terminal.steps (cost shape id) (is.costs id)))
    (keeps_none (event_costs_too_much shape) (listed_events shape) (λ e. ap (λ (b : Bool). b && not (list_any (costs_too_much shape) (listed shape e))) (le-ltb terminal.steps (budget shape e.id e.event) (is.budgets e.id e.event))))
