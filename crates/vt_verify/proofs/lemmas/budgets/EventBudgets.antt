-- The budget of each event is at the event's index.
use Rattle.std.proofs.Common.{◌≡◌, ℕ, suc, ◌+◌, ◌<◌, Bool, true, false, cond, List, [], ◌∷◌, map, length, Option, Some, None, refl, sym, ap, ap₂, subst, ◌∙◌, arith}
use Rattle.std.proofs.lemmas.Bool.{eqb-true, or_from}
use Rattle.std.proofs.lemmas.Option.{slice_get-map, get_or_from_slice_get, same_Some}
use Rattle.std.specs.Prelude.{nat_eq, sum_by, slice_get, slice_index, slice_index_or}
use Rattle.std.specs.Option.{option_map}
use Rattle.std.specs.List.{position_from}
use Rattle.vt_stores.proofs.SortedEntries.{both_true}
use Rattle.vt_verify.specs.declared.listing.Listing.{Listing}
use Rattle.vt_stores.specs.Shapes.{Shape}
use Rattle.vt_verify.specs.Triggers.{listing, listed}
use Rattle.vt_verify.specs.TriggerGraphs.{is_event_of, has, listed_events}
use Rattle.vt_verify.specs.Budgets.{cost, budget}
use Rattle.vt_verify.proofs.lemmas.graphs.SameTriggers.{unlisted}

-- ---- each index has the budget of its event

pub each_step : {E : Type 0} (f : E → ℕ) (steps : List ℕ) (events : List E) → length steps ≡ length events
    → ((k : ℕ) (e : E) → k < length events → e ≡ slice_index_or events k e → slice_index steps k ≡ f e) → steps ≡ map f events
each_step f [] [] len each = refl
each_step f [] (e ∷ events) len each = absurd (omega (arith, len))
each_step f (n ∷ steps) [] len each = absurd (omega (arith, len))
each_step f (n ∷ steps) (e ∷ events) len each =
    ap₂ (λ (m : ℕ) (ms : List ℕ). m ∷ ms) (each 0 e (omega arith) refl)
    (each_step f steps events (omega (arith, len)) (λ k other lt is. each (suc k) other (omega arith) is))

pub step_at : {E : Type 0} (f : E → ℕ) (steps : List ℕ) (events : List E) (k : ℕ) (e : E) (n : ℕ) → steps ≡ map f events → slice_get events k ≡ Some e
    → n ≡ slice_index_or steps k n → n ≡ f e
step_at f steps events k e n are there is =
    is ∙ ap (λ (l : List ℕ). slice_index_or l k n) are
    ∙ get_or_from_slice_get (map f events) k (f e) n (slice_get-map f events k ∙ ap (option_map f) there)

-- ---- an event of the list

same_event : (q e : Listing) → is_event_of q e ≡ true → e ≡ q
same_event q e is =
    let parts = both_true (nat_eq q.id e.id) (nat_eq q.event e.event) is in
    ap₂ (λ (id event : ℕ). listing id event) (sym (eqb-true q.id e.id parts.0)) (sym (eqb-true q.event e.event parts.1))

record IsFoundAt (events : List Listing) (i : ℕ) (q : Listing) (k : ℕ) : Type 0 where
  place : ℕ
  sum : k ≡ i + place
  there : slice_get events place ≡ Some q

found_case : (e : Listing) (events : List Listing) (i : ℕ) (q : Listing) (k : ℕ) (rest : Option ℕ) (b : Bool) → is_event_of q e ≡ b
    → (rest ≡ Some k → IsFoundAt events (i + 1) q k) → cond b (Some i) rest ≡ Some k → IsFoundAt (e ∷ events) i q k
found_case e events i q k rest true is later some =
    let same = same_Some i k some in record { place = 0; sum = omega (arith, same); there = ap Some (same_event q e is) }
found_case e events i q k rest false is later some =
    let at = later some in
    let sum = at.sum in record { place = suc at.place; sum = omega (arith, sum); there = at.there }

found_from : (q : Listing) (i : ℕ) (events : List Listing) (k : ℕ) → position_from (is_event_of q) i events ≡ Some k → IsFoundAt events i q k
found_from q i [] k some = absurd cc
found_from q i (e ∷ events) k some = found_case e events i q k (position_from (is_event_of q) (i + 1) events) (is_event_of q e) refl (found_from q (i + 1) events k) some

pub found_event : (q : Listing) (events : List Listing) (k : ℕ) → position_from (is_event_of q) 0 events ≡ Some k → slice_get events k ≡ Some q
found_event q events k some =
    let at = found_from q 0 events k some in
    let sum = at.sum in
    let same : at.place ≡ k = omega (arith, sum) in
    subst (λ (n : ℕ). slice_get events n ≡ Some q) same at.there

parts : (b : Bool) (i : ℕ) (rest : Option ℕ) → cond b (Some i) rest ≡ None → (b ≡ false) × (rest ≡ None)
parts true i rest none = absurd cc
parts false i rest none = (refl, none)

not_there : (q : Listing) (i : ℕ) (events : List Listing) → position_from (is_event_of q) i events ≡ None → has events q ≡ false
not_there q i [] none = refl
not_there q i (e ∷ events) none =
    let both = parts (is_event_of q e) i (position_from (is_event_of q) (i + 1) events) none in
    or_from (is_event_of q e) (has events q) both.0 (not_there q (i + 1) events both.1)

-- no macro runs at an event that is not in the list
pub no_event : (shape : Shape) (q : Listing) → position_from (is_event_of q) 0 (listed_events shape) ≡ None → budget shape q.id q.event ≡ 0
unfolding budget
no_event shape q none =
    let no = not_there q 0 (listed_events shape) none in
    let empty : listed shape q ≡ [] = sym (unlisted shape q) ∙ ap (λ (b : Bool). cond b (listed shape q) []) no in
    ap (λ (l : List ℕ). sum_by (cost shape) l) empty
