-- Runs end: each step reduces the cost of the pending commands.
use Rattle.std.proofs.Common.{◌≡◌, ◌≤◌, ◌+◌, ◌++◌, ℕ, zero, suc, max, Bool, true, false, cond, ◌==◌, ◌&&◌, List, [], ◌∷◌, map, filter, Option, Some, None, is_ok, refl, sym, ap, subst, ◌∙◌, arith}
use Rattle.std.proofs.lemmas.Option.{same_Some}
use Rattle.std.proofs.lemmas.Bool.{eqb-true}
use Rattle.std.proofs.lemmas.List.Sums.{sum_by-cons, sum_by-append}
use Rattle.std.specs.Prelude.{sum_by, IsTrue}
use Rattle.std.specs.Cmp.{unsigned_tied}
use Rattle.std.specs.Option.{option_map}
use Rattle.std.specs.Ordering.{nat_cmp, eq_by_cmp}
use Rattle.std.specs.List.{AllByRecursion}
use Rattle.std.specs.FinMap as finite
use Rattle.vt_kinds.specs.declared.kind.Kind.{Kind}
use Rattle.vt_kinds.specs.declared.kind.Kind.TheVariants as kinds
use Rattle.vt_kinds.specs.declared.kinds.Kinds.TheVariants as sets
use Rattle.vt_kinds.specs.declared.object.Object.TheVariants as objects
use Rattle.vt_commands.specs.declared.command.Command.{Command}
use Rattle.vt_commands.specs.declared.command.Command.TheVariants.{ChangeActiveMask}
use Rattle.vt_commands.specs.declared.event.Event.TheVariants as events
use Rattle.vt_commands.specs.declared.raising.Raised.{Raised}
use Rattle.vt_commands.specs.Events.{event_number, raise, row_events}
use Rattle.vt_kinds.specs.declared.place.Place.TheVariants as places
use Rattle.vt_kinds.specs.Ids.{null_id}
use Rattle.vt_kinds.specs.References.{slot}
use Rattle.vt_kinds.specs.Records.{Seen, kind_of}
use Rattle.vt_stores.specs.Stores.{ObjectMap, Objects, object_at}
use Rattle.vt_rank.specs.Costs.{greatest}
use Rattle.vt_verify.specs.declared.listing.Listing.{Listing}
use Rattle.vt_stores.specs.Shapes.{Shape, fixed, shape_of}
use Rattle.vt_verify.specs.Macros.{commands}
use Rattle.vt_verify.specs.Triggers.{listing, listing_of, listed, is_mask, masks}
use Rattle.vt_verify.specs.Budgets.{total, command_cost, macro_cost, cost, budget, MacroCostsAreTotals}
use Rattle.vt_verify.specs.Rules.{IsAcceptable, working_sets}
use Rattle.vt_chains.specs.Limits.{terminal}
use Rattle.vt_effects.specs.Changes.{is_one_of}
use Rattle.vt_effects.specs.Effects.{kind_in, pointer_value, effect, after}
use Rattle.vt_effects.specs.Soundness.{IsSound, value_fits}
use Rattle.vt_macros.specs.Machines.{mask_of, hide, events_of, raised, event_commands, joined_all, fault, End, Ended, or_sticks, follow_ups, run, total_budget, run_of}
use Rattle.vt_effects.specs.Soundness.{shape_in}
use Rattle.vt_macros.specs.Runs.{Ends}
use Rattle.vt_effects.proofs.lemmas.stores.OneChangedObject.{first_of}
use Rattle.vt_effects.proofs.lemmas.order.OrderAfterCommand.{commands_keep_order}
use Rattle.vt_effects.proofs.lemmas.stores.SameShape.{shapes_stay}
use Rattle.vt_macros.proofs.MacroTargetsExist.{all_append, all_flat, all_of, faultless}
use Rattle.vt_verify.proofs.lemmas.graphs.SameCosts.{sums_of_sums, same_sums}

-- ---- sums

sum_mapped : {A B : Type 0} (f : B → ℕ) (g : A → B) (xs : List A) → sum_by f (map g xs) ≡ sum_by (λ x. f (g x)) xs
sum_mapped f g [] = refl
sum_mapped f g (x ∷ xs) = sum_by-cons f (g x) (map g xs) ∙ ap (λ n. f (g x) + n) (sum_mapped f g xs) ∙ sym (sum_by-cons (λ x. f (g x)) x xs)

-- ---- the costs of events

-- the cost of the macros of a raised event
abbrev pub raised_cost : Shape → Raised → ℕ
raised_cost shape r = total (cost shape) shape (listing_of r)

joined_cost : (shape : Shape) (event : Listing) → MacroCostsAreTotals shape → sum_by (command_cost (cost shape) shape) (event_commands shape event) ≡ total (cost shape) shape event
unfolding event_commands
joined_cost shape event totals =
    sums_of_sums (command_cost (cost shape) shape) (commands shape) (listed shape event)
    ∙ same_sums (macro_cost (cost shape) shape) (cost shape) (listed shape event) (λ id. sym (totals id))

pub joined_costs : (shape : Shape) (rs : List Raised) → MacroCostsAreTotals shape
    → sum_by (command_cost (cost shape) shape) (joined_all shape rs) ≡ sum_by (raised_cost shape) rs
joined_costs shape rs totals =
    sums_of_sums (command_cost (cost shape) shape) (λ r. event_commands shape (listing_of r)) rs
    ∙ same_sums (λ r. sum_by (command_cost (cost shape) shape) (event_commands shape (listing_of r))) (raised_cost shape) rs (λ r. joined_cost shape (listing_of r) totals)

-- ---- the hidden mask

mask_kind : (k : Kind) → is_one_of sets.Masks (Some k) ≡ true → is_mask k ≡ true
mask_kind kinds.DataMask is = refl
mask_kind kinds.AlarmMask is = refl
mask_kind _ is = absurd cc

most_of : (a b n : ℕ) → n ≤ b → n ≤ max a b
most_of a b n le = omega (arith, le)

first_most : (a b : ℕ) → a ≤ max a b
first_most a b = omega arith

-- the cost of a mask's Hide event is at most the greatest of all masks
mask_or : (f : ℕ → ℕ) (q k : ℕ) (y x : Seen) (rest : Option Seen) (ms : List ℕ) (b c : Bool) → eq_by_cmp nat_cmp q k ≡ b → is_mask (kind_of y) ≡ c
    → cond b (Some y) rest ≡ Some x → is_mask (kind_of x) ≡ true → (rest ≡ Some x → f q ≤ greatest f ms) → f q ≤ greatest f (cond c (k ∷ ms) ms)
mask_or f q k y x rest ms true true same mask found is later =
    subst (λ (n : ℕ). f n ≤ max (f k) (greatest f ms)) (sym (eqb-true q k (sym (unsigned_tied q k) ∙ same))) (first_most (f k) (greatest f ms))
mask_or f q k y x rest ms true false same mask found is later =
    let never : false ≡ true = sym mask ∙ ap (λ (o : Seen). is_mask (kind_of o)) (same_Some y x found) ∙ is in
    absurd cc
mask_or f q k y x rest ms false true same mask found is later = most_of (f k) (greatest f ms) (f q) (later found)
mask_or f q k y x rest ms false false same mask found is later = later found

masks_of : (e : ℕ × Seen) (es : Objects) → masks (shape_of (e ∷ es)) ≡ cond (is_mask (kind_of e.1)) (e.0 ∷ masks (shape_of es)) (masks (shape_of es))
masks_of e es = by (is_mask (kind_of e.1))
  where
    by : (b : Bool) → map (λ f. f.0) (cond b ((e.0, fixed e.1) ∷ filter (λ f. is_mask f.1.kind) (shape_of es)) (filter (λ f. is_mask f.1.kind) (shape_of es)))
        ≡ cond b (e.0 ∷ masks (shape_of es)) (masks (shape_of es))
    by true = refl
    by false = refl

mask_among : (f : ℕ → ℕ) (es : Objects) (q : ℕ) (x : Seen) → object_at es q ≡ Some x → is_mask (kind_of x) ≡ true → f q ≤ greatest f (masks (shape_of es))
mask_among f [] q x found is = absurd cc
mask_among f (e ∷ es) q x found is =
    subst (λ (ms : List ℕ). f q ≤ greatest f ms) (sym (masks_of e es))
    (mask_or f q e.0 e.1 x (object_at es q) (masks (shape_of es)) (eq_by_cmp nat_cmp q e.0) (is_mask (kind_of e.1)) refl refl found is
    (λ later. mask_among f es q x later is))

found_mask : (f : ℕ → ℕ) (m : ObjectMap) (q : ℕ) (found : Option Seen) → finite.get m q ≡ found → is_one_of sets.Masks (option_map kind_of found) ≡ true
    → f q ≤ greatest f (masks (shape_of (finite.entries m)))
found_mask f m q None is one = absurd cc
found_mask f m q (Some x) is one = mask_among f (finite.entries m) q x (sym (finite.get-entries m q) ∙ is) (mask_kind (kind_of x) one)

-- the cost of hiding a mask or NULL
hide_cost : (m : ObjectMap) (shape : Shape) (mask : ℕ) (b : Bool) → shape_of (finite.entries m) ≡ shape
    → (b ≡ false → is_one_of sets.Masks (kind_in m mask) ≡ true)
    → sum_by (raised_cost shape) (cond b [] (raise mask events.Hide ∷ []))
    ≤ greatest (λ id. total (cost shape) shape (listing id (event_number events.Hide))) (masks shape)
hide_cost m shape mask true is there = omega arith
hide_cost m shape mask false is there =
    let most : total (cost shape) shape (listing mask (event_number events.Hide))
    ≤ greatest (λ id. total (cost shape) shape (listing id (event_number events.Hide))) (masks shape) =
    subst (λ (s : Shape). total (cost shape) shape (listing mask (event_number events.Hide))
    ≤ greatest (λ id. total (cost shape) shape (listing id (event_number events.Hide))) (masks s)) is
    (found_mask (λ id. total (cost shape) shape (listing id (event_number events.Hide))) m mask (finite.get m mask) refl (there refl)) in
    let one : sum_by (raised_cost shape) (raise mask events.Hide ∷ []) ≡ total (cost shape) shape (listing mask (event_number events.Hide)) + 0 =
    sum_by-cons (raised_cost shape) (raise mask events.Hide) [] in
    omega (arith, most, one)

active_mask_is : (m : ObjectMap) (set : ℕ) (found : Option Seen) → IsSound m → finite.get m set ≡ found → (mask_of found == null_id) ≡ false
    → is_one_of sets.Masks (kind_in m (mask_of found)) ≡ true
active_mask_is m set None sound is other = absurd cc
active_mask_is m set (Some (objects.WorkingSet o)) sound is other =
    in_masks (o.active_mask == null_id) other (IsSound.slots sound set (objects.WorkingSet o) is).0
  where
    in_masks : (b : Bool) → b ≡ false
        → IsTrue (cond b true (is_one_of sets.Masks (kind_in m o.active_mask) && value_fits m (slot kinds.WorkingSet places.ActiveMask o.active_mask) (pointer_value (finite.get m o.active_mask))))
        → is_one_of sets.Masks (kind_in m o.active_mask) ≡ true
    in_masks true never fits = absurd cc
    in_masks false never fits = first_of (is_one_of sets.Masks (kind_in m o.active_mask)) (value_fits m (slot kinds.WorkingSet places.ActiveMask o.active_mask) (pointer_value (finite.get m o.active_mask))) fits
active_mask_is m set (Some _) sound is other = absurd cc

-- ---- the events that a command raises

plain_bound : (shape : Shape) (rows : List Raised)
    → sum_by (raised_cost shape) rows + 1 ≤ 1 + 0 + sum_by (total (cost shape) shape) (map listing_of rows)
plain_bound shape rows = omega (arith, sum_mapped (total (cost shape) shape) listing_of rows)

mask_bound : (shape : Shape) (most : ℕ) (a b : Raised) (hidden : List Raised) (c : Bool) → sum_by (raised_cost shape) hidden ≤ most
    → sum_by (raised_cost shape) (cond c (a ∷ []) (hidden ++ a ∷ b ∷ [])) + 1 ≤ 1 + most + sum_by (total (cost shape) shape) (map listing_of (a ∷ b ∷ []))
mask_bound shape most a b hidden true le =
    omega (arith, sum_by-cons (raised_cost shape) a [], sum_by-cons (raised_cost shape) a (b ∷ []), sum_mapped (total (cost shape) shape) listing_of (a ∷ b ∷ []))
mask_bound shape most a b hidden false le =
    omega (arith, le, sum_by-append (raised_cost shape) hidden (a ∷ b ∷ []), sum_mapped (total (cost shape) shape) listing_of (a ∷ b ∷ []))

events_bound : (m : ObjectMap) (shape : Shape) (command : Command) → IsSound m → shape_of (finite.entries m) ≡ shape
    → sum_by (raised_cost shape) (events_of m command) + 1 ≤ command_cost (cost shape) shape command
events_bound m shape (ChangeActiveMask set mask) sound is =
    mask_bound shape (greatest (λ id. total (cost shape) shape (listing id (event_number events.Hide))) (masks shape)) (raise set events.ActiveMask) (raise mask events.Show)
    (hide (mask_of (finite.get m set))) (mask_of (finite.get m set) == mask)
    (hide_cost m shape (mask_of (finite.get m set)) (mask_of (finite.get m set) == null_id) is
    (λ other. active_mask_is m set (finite.get m set) sound refl other))
events_bound m shape command sound is = plain_bound shape (row_events command)

refused_bound : (shape : Shape) (command : Command) → 0 + 1 ≤ command_cost (cost shape) shape command
refused_bound shape command = omega arith

pub raised_bound : (m : ObjectMap) (shape : Shape) (command : Command) → IsSound m → shape_of (finite.entries m) ≡ shape
    → sum_by (raised_cost shape) (raised m command) + 1 ≤ command_cost (cost shape) shape command
unfolding raised
raised_bound m shape command sound is = by (is_ok (effect m command))
  where
    by : (b : Bool) → sum_by (raised_cost shape) (cond b (events_of m command) []) + 1 ≤ command_cost (cost shape) shape command
    by true = events_bound m shape command sound is
    by false = refused_bound shape command

entries_shape : (m : ObjectMap) (shape : Shape) → shape_in m ≡ shape → shape_of (finite.entries m) ≡ shape
unfolding shape_in
entries_shape m shape is = is

-- the commands that a command triggers cost less than the command
follow_bound : (m : ObjectMap) (shape : Shape) (command : Command) → IsSound m → shape_in m ≡ shape → MacroCostsAreTotals shape
    → sum_by (command_cost (cost shape) shape) (follow_ups m command) + 1 ≤ command_cost (cost shape) shape command
unfolding follow_ups
follow_bound m shape command sound is totals =
    subst (λ (s : Shape). sum_by (command_cost (cost shape) shape) (joined_all s (raised m command)) + 1 ≤ command_cost (cost shape) shape command)
    (sym (shapes_stay m command ∙ is))
    (subst (λ (n : ℕ). n + 1 ≤ command_cost (cost shape) shape command) (sym (joined_costs shape (raised m command) totals))
    (raised_bound m shape command sound (entries_shape m shape is)))

-- ---- no pending command has a fault

abbrev NoFault : Shape → List Command → Type 0
NoFault shape cs = AllByRecursion (λ c. fault shape c ≡ None) cs

joined_faultless : (shape : Shape) (event : Listing) → ((id : ℕ) → NoFault shape (commands shape id)) → NoFault shape (event_commands shape event)
unfolding event_commands
joined_faultless shape event none =
    all_flat (λ c. fault shape c ≡ None) (commands shape) (listed shape event) (all_of (λ id. NoFault shape (commands shape id)) (listed shape event) none)

all_faultless : (shape : Shape) (rs : List Raised) → ((id : ℕ) → NoFault shape (commands shape id)) → NoFault shape (joined_all shape rs)
all_faultless shape rs none =
    all_flat (λ c. fault shape c ≡ None) (λ r. event_commands shape (listing_of r)) rs
    (all_of (λ r. NoFault shape (event_commands shape (listing_of r))) rs (λ r. joined_faultless shape (listing_of r) none))

follow_faultless : (m : ObjectMap) (shape : Shape) (command : Command) → shape_in m ≡ shape → ((id : ℕ) → NoFault shape (commands shape id))
    → NoFault shape (follow_ups m command)
unfolding follow_ups
follow_faultless m shape command is none =
    subst (λ (s : Shape). NoFault shape (joined_all s (raised m command))) (sym (shapes_stay m command ∙ is)) (all_faultless shape (raised m command) none)

-- ---- the run

pub no_fault_runs : (shape : Shape) (m : ObjectMap) (command : Command) (next : End) → shape_in m ≡ shape → fault shape command ≡ None
    → or_sticks (fault (shape_in m) command) m next ≡ next
no_fault_runs shape m command next is none =
    ap (λ (s : Shape). or_sticks (fault s command) m next) is ∙ ap (λ f. or_sticks f m next) none

pub run_none : (n : ℕ) (m : ObjectMap) → run n m [] ≡ Ended m n
unfolding run
run_none zero m = refl
run_none (suc n) m = refl

pub run_step : (n : ℕ) (m : ObjectMap) (command : Command) (pending : List Command)
    → run (suc n) m (command ∷ pending) ≡ or_sticks (fault (shape_in m) command) m (run n (after m command) (follow_ups m command ++ pending))
unfolding run
run_step n m command pending = refl

-- commands that cost at most the given steps run to their end
pub commands_end : (shape : Shape) → MacroCostsAreTotals shape → working_sets shape ≡ 1 → ((id : ℕ) → NoFault shape (commands shape id)) → (n : ℕ) (m : ObjectMap) (cs : List Command)
    → shape_in m ≡ shape → IsSound m → NoFault shape cs → sum_by (command_cost (cost shape) shape) cs ≤ n → Ends m n (run n m cs)
commands_end shape totals one none n m [] is sound faultless le =
    record { new = m; left = n; ended = run_none n m; within = omega arith; working_set = ap working_sets is ∙ one; sound = sound; shape = refl }
commands_end shape totals one none zero m (c ∷ cs) is sound faultless le =
    absurd (omega (arith, le, sum_by-cons (command_cost (cost shape) shape) c cs))
commands_end shape totals one none (suc n) m (c ∷ cs) is sound faultless le =
    let follows : sum_by (command_cost (cost shape) shape) (follow_ups m c) + 1 ≤ command_cost (cost shape) shape c = follow_bound m shape c sound is totals in
    let rest : Ends (after m c) n (run n (after m c) (follow_ups m c ++ cs)) =
    commands_end shape totals one none n (after m c) (follow_ups m c ++ cs) (shapes_stay m c ∙ is) (commands_keep_order m c sound)
    (all_append (λ d. fault shape d ≡ None) (follow_ups m c) cs (follow_faultless m shape c is none) faultless.1)
    (omega (arith, le, follows, sum_by-cons (command_cost (cost shape) shape) c cs, sum_by-append (command_cost (cost shape) shape) (follow_ups m c) cs)) in
    record {
      new = rest.new;
      left = rest.left;
      ended = run_step n m c cs ∙ no_fault_runs shape m c (run n (after m c) (follow_ups m c ++ cs)) is faultless.0 ∙ rest.ended;
      within = omega (arith, rest.within);
      working_set = rest.working_set;
      sound = rest.sound;
      shape = rest.shape ∙ shapes_stay m c;
    }

-- ---- the run of events

pub one_working_set : (pool : Objects) → IsAcceptable terminal pool → working_sets (shape_of pool) ≡ 1
one_working_set pool acceptable = omega (arith, IsAcceptable.working_set acceptable, IsAcceptable.one_working_set acceptable)

pub budget_is : (shape : Shape) (r : Raised) → budget shape (listing_of r).id (listing_of r).event ≡ raised_cost shape r
unfolding budget
budget_is shape r = refl

pub runs_end : (pool : Objects) (m : ObjectMap) (rs : List Raised) → IsAcceptable terminal pool → MacroCostsAreTotals (shape_of pool) → shape_in m ≡ shape_of pool → IsSound m
    → Ends m (total_budget (shape_in m) rs) (run_of m rs)
runs_end pool m rs acceptable totals is sound =
    subst (λ (s : Shape). Ends m (total_budget s rs) (run (total_budget s rs) m (joined_all s rs))) (sym is)
    (commands_end (shape_of pool) totals (one_working_set pool acceptable) (λ id. faultless pool id acceptable) (total_budget (shape_of pool) rs) m (joined_all (shape_of pool) rs) is sound
    (all_faultless (shape_of pool) rs (λ id. faultless pool id acceptable))
    (omega (
      arith,
      joined_costs (shape_of pool) rs totals,
      same_sums (λ r. budget (shape_of pool) (listing_of r).id (listing_of r).event) (raised_cost (shape_of pool)) rs (budget_is (shape_of pool)),
    )))
