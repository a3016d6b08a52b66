-- The steps of events and commands, by the counted steps of macros.
use Rattle.std.proofs.Common.{◌≡◌, ℕ, ◌+◌, ◌<◌, ◌≤◌, min, Bool, true, false, cond, List, [], ◌∷◌, ◌++◌, length, map, Option, Some, None, refl, sym, ap, subst, ◌∙◌, arith, inl, inr}
use Rattle.std.proofs.lemmas.List.Elements.{Contains-append_left, Contains-push, Contains-push_cases}
use Rattle.std.specs.Prelude.{sum_by, slice_index, Contains}
use Rattle.vt_commands.specs.declared.command.Command.{Command}
use Rattle.vt_rank.specs.Costs.{greatest}
use Rattle.vt_rank.proofs.Members.{Contains-nil, Contains-head, Contains-tail, Contains-cons_cases}
use Rattle.vt_rank.proofs.Totals.{sum_by-meets}
use Rattle.vt_stores.specs.Shapes.{Shape}
use Rattle.vt_verify.specs.declared.listing.Listing.{Listing}
use Rattle.vt_verify.specs.Budgets.{cost, budget, total, command_cost, hidden_cost}
use Rattle.vt_verify.specs.TriggerGraphs.{if_any}
use Rattle.vt_verify.specs.Triggers.{listing, listed, row_listings, changes_mask, masks}
use Rattle.check_costs.specs.declared.share.EventCost.{EventCost}
use Rattle.check_costs.specs.declared.share.Share.TheVariants as shares
use Rattle.check_costs.specs.declared.share.TheConstants.{MOST_STEPS}
use Rattle.check_costs.specs.CostedPools.{AreMacroSteps}
use Rattle.check_costs.specs.Shares.{counted, event_cost, hide_cost, IsCostliest, IsCostliestHide, hide_by, steps_of, event_shares}

-- ---- events

-- the steps of the events of the command's row
abbrev pub raised_steps : Shape → Command → ℕ
raised_steps shape command = sum_by (λ e. (event_cost shape e).steps) (row_listings command)

pub budget_is : (shape : Shape) (e : Listing) → budget shape e.id e.event ≡ total (cost shape) shape e
unfolding budget
budget_is shape e = refl

pub event_is : (shape : Shape) (steps : List ℕ) (e : Listing) → AreMacroSteps shape steps → min (sum_by (slice_index steps) (listed shape e)) MOST_STEPS ≡ (event_cost shape e).steps
event_is shape steps e are =
    sum_by-meets (slice_index steps) (cost shape) MOST_STEPS (listed shape e) (λ m inside. let is = are m in omega arith)
    ∙ ap (λ (n : ℕ). min n MOST_STEPS) (sym (budget_is shape e))

pub most_of_event : (shape : Shape) (e : Listing) → (event_cost shape e).steps ≤ MOST_STEPS
most_of_event shape e = omega arith

-- ---- the events at which macros run

none_case : (e : Listing) (macros : List ℕ) → length macros ≡ 0 → if_any e macros ≡ []
none_case e [] none = refl
none_case e (m ∷ ms) none = absurd (omega (arith, none))

some_case : (e : Listing) (macros : List ℕ) → 0 < length macros → if_any e macros ≡ e ∷ []
some_case e [] some = absurd (omega (arith, some))
some_case e (m ∷ ms) some = refl

pub no_shares : (shape : Shape) (e : Listing) → length (listed shape e) ≡ 0 → event_shares shape e ≡ []
no_shares shape e none = ap (λ (es : List Listing). map (λ raised. shares.Raises (event_cost shape raised)) es) (none_case e (listed shape e) none)

pub one_share : (shape : Shape) (e : Listing) → 0 < length (listed shape e) → event_shares shape e ≡ shares.Raises (event_cost shape e) ∷ []
one_share shape e some = ap (λ (es : List Listing). map (λ raised. shares.Raises (event_cost shape raised)) es) (some_case e (listed shape e) some)

-- ---- the costliest event

module _ (shape : Shape) (masks : List ℕ) (mask : ℕ) (other : EventCost) (of_mask : other ≡ hide_cost shape mask) where
  same_steps : other.steps ≡ (hide_cost shape mask).steps
  same_steps = ap (λ (e : EventCost). e.steps) of_mask

  one_more : (most : ℕ) (m : ℕ) → other.steps ≤ most → ((m : ℕ) → Contains masks m → (hide_cost shape m).steps ≤ most) → Contains (masks ++ mask ∷ []) m → (hide_cost shape m).steps ≤ most
  one_more most m less each inside = elim (Contains-push_cases masks mask m inside) as (λ _. (hide_cost shape m).steps ≤ most) [
    | inl before ↦ each m before
    | inr same ↦ subst (λ (k : ℕ). (hide_cost shape k).steps ≤ most) same (subst (λ (n : ℕ). n ≤ most) same_steps less)
  ]

  zero_below : (n : ℕ) → n ≤ 0 → n ≡ 0
  zero_below n less = omega arith

  pub costlier_more : (found : Option EventCost) → steps_of found < other.steps → IsCostliest shape masks found → IsCostliest shape (masks ++ mask ∷ []) (Some other)
  costlier_more None more is = (
    (mask, Contains-push masks mask, of_mask),
    more,
    λ m inside. one_more other.steps m (omega arith) (λ k before. let none = is k before in omega (arith, none)) inside,
  )
  costlier_more (Some found) more is = (
    (mask, Contains-push masks mask, of_mask),
    omega (arith, more),
    λ m inside. one_more other.steps m (omega arith) (λ k before. let less = is.2 k before in omega (arith, less, more)) inside,
  )

  pub costlier_kept : (found : Option EventCost) → other.steps ≤ steps_of found → IsCostliest shape masks found → IsCostliest shape (masks ++ mask ∷ []) found
  costlier_kept None less is = λ m inside. zero_below (hide_cost shape m).steps (one_more 0 m less (λ k before. let none = is k before in omega (arith, none)) inside)
  costlier_kept (Some found) less is = (
    (is.0.0, Contains-append_left masks (mask ∷ []) is.0.0 is.0.1, is.0.2),
    is.1,
    λ m inside. one_more found.steps m less is.2 inside,
  )

-- ---- the greatest of some numbers, counted

module _ (f : ℕ → ℕ) where
  below_greatest : (xs : List ℕ) (x : ℕ) → Contains xs x → f x ≤ greatest f xs
  below_greatest [] x inside = absurd (Contains-nil x inside)
  below_greatest (y ∷ ys) x inside = elim (Contains-cons_cases y x ys inside) as (λ _. f x ≤ greatest f (y ∷ ys)) [
    | inl same ↦ let equal = ap f same in omega (arith, equal)
    | inr later ↦ let less = below_greatest ys x later in omega (arith, less)
  ]

  greatest_counted : (xs : List ℕ) (most : ℕ) → ((x : ℕ) → Contains xs x → counted (f x) ≤ most) → counted (greatest f xs) ≤ most
  greatest_counted [] most each = omega arith
  greatest_counted (y ∷ ys) most each =
      let here = each y (Contains-head y ys) in
      let rest = greatest_counted ys most (λ x inside. each x (Contains-tail y x ys inside)) in
      omega (arith, here, rest)

-- ---- the cost of a command

hide_total : Shape → ℕ → ℕ
hide_total shape mask = total (cost shape) shape (listing mask 4)

hide_total_is : (shape : Shape) (mask : ℕ) → (hide_cost shape mask).steps ≡ counted (hide_total shape mask)
unfolding hide_total
hide_total_is shape mask = ap counted (budget_is shape (listing mask 4))

hidden_of : (shape : Shape) → greatest (λ mask. total (cost shape) shape (listing mask 4)) (masks shape) ≡ greatest (hide_total shape) (masks shape)
unfolding hide_total
hidden_of shape = refl

greatest_is : (shape : Shape) (hide : Option EventCost) → IsCostliestHide shape hide → steps_of hide ≡ counted (greatest (hide_total shape) (masks shape))
greatest_is shape None is =
    let most = greatest_counted (hide_total shape) (masks shape) 0 (λ m inside. let none = is m inside in let same = hide_total_is shape m in omega (arith, none, same)) in
    omega (arith, most)
greatest_is shape (Some e) is =
    let most = greatest_counted (hide_total shape) (masks shape) e.steps (λ m inside. let less = is.2 m inside in let same = hide_total_is shape m in omega (arith, less, same)) in
    let least = below_greatest (hide_total shape) (masks shape) is.0.0 is.0.1 in
    let steps = ap (λ (c : EventCost). c.steps) is.0.2 in
    let same = hide_total_is shape is.0.0 in
    omega (arith, most, least, steps, same)

hide_case : (b : Bool) (hide : Option EventCost) (n : ℕ) → steps_of hide ≡ counted n → steps_of (cond b hide None) ≡ counted (cond b n 0)
hide_case true hide n is = is
hide_case false hide n is = omega arith

pub hide_is : (shape : Shape) (hide : Option EventCost) (command : Command) → IsCostliestHide shape hide → steps_of (hide_by command hide) ≡ counted (hidden_cost (cost shape) shape command)
hide_is shape hide command is =
    hide_case (changes_mask command) hide (greatest (λ mask. total (cost shape) shape (listing mask 4)) (masks shape))
    (greatest_is shape hide is ∙ ap counted (sym (hidden_of shape)))

pub raised_is : (shape : Shape) (command : Command) → counted (raised_steps shape command) ≡ counted (sum_by (total (cost shape) shape) (row_listings command))
raised_is shape command =
    sum_by-meets (λ e. (event_cost shape e).steps) (total (cost shape) shape) MOST_STEPS (row_listings command)
    (λ e inside. let same = budget_is shape e in omega (arith, same))

pub command_is : (shape : Shape) (hide : Option EventCost) (command : Command) → IsCostliestHide shape hide
    → counted (1 + steps_of (hide_by command hide) + raised_steps shape command) ≡ counted (command_cost (cost shape) shape command)
command_is shape hide command is =
    let hidden = hide_is shape hide command is in
    let raised = raised_is shape command in
    omega (arith, hidden, raised)
