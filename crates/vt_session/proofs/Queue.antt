-- What waits to be taken: the outputs of one input and its events, or nothing.
use Rattle.std.specs.List.{slice_get}
use Rattle.std.specs.Option.{option_map}
use Rattle.std.proofs.Common.{◌≡◌, ◌<◌, ◌⊎◌, inl, inr, ℕ, zero, suc, ◌+◌, ◌-◌, eqb, ne_eqb, false, map, Option, Some, None, List, [], ◌∷◌, ◌++◌, drop, take, refl, ap, subst, ◌∙◌, append-nil, arith}
use Rattle.vt_host_events.specs.declared.event.HostEvent.{HostEvent}
use Rattle.vt_server.specs.declared.input.Input.{Input}
use Rattle.vt_server.specs.declared.output.Output.{Output}
use Rattle.vt_server.specs.Judgements.{AreEventsOf}
use Rattle.vt_server.specs.Outputs.{outputs_of}
use Rattle.vt_server.specs.States.{TakesInputs}
use Rattle.vt_server.specs.Steps.{JudgedInput, after_all, sent_by_all}
use Rattle.vt_server.specs.Terminals.{State}
use Rattle.vt_session.specs.Outputs.{HostItem, Sent, Told}

-- Without outputs and events nothing waits.
pub none_waits : (outputs : List Output) (events : List HostEvent) (next : ℕ) → outputs ≡ [] → events ≡ [] → next ≡ 0
    → drop next (map (λ o. Sent o) outputs ++ map (λ e. Told e) events) ≡ []
none_waits outputs events next no_output no_event first =
    λ i. drop (first i) (map (λ o. Sent o) (no_output i) ++ map (λ e. Told e) (no_event i))

none_by : (old new : State) (before after : List Output) (events : List JudgedInput) → AreEventsOf [] events → new ≡ after_all old events
    → after ≡ before ++ outputs_of (sent_by_all old events) → (new ≡ old) × (after ≡ before)
none_by old new before after [] are state sent = (state, sent ∙ append-nil before)
none_by old new before after (e ∷ events) are state sent = absurd are

-- No input is taken before the first.
pub none_before : (old new : State) (inputs : List Input) (at : ℕ) (before after : List Output) → at ≡ 0
    → TakesInputs old (take at inputs) new before after → (new ≡ old) × (after ≡ before)
none_before old new inputs at before after first taken =
    let none = subst (λ (n : ℕ). TakesInputs old (take n inputs) new before after) first taken in
    none_by old new before after none.events none.are_inputs none.state none.sent

-- an index among two
pub among_two : (n : ℕ) → n < 2 → (n ≡ 0) ⊎ (n ≡ 1)
among_two zero less = inl refl
among_two (suc zero) less = inr refl
among_two (suc (suc n)) less = absurd (omega (arith, less))

split_at : (items : List HostItem) (n : ℕ) (item : HostItem) → slice_get items n ≡ Some item → drop n items ≡ item ∷ drop (suc n) items
split_at [] n item is = absurd cc
split_at (o ∷ items) zero item is = cc
split_at (o ∷ items) (suc n) item is = split_at items n item is

-- the item at an index, and the items after it
pub taken_at : (items : List HostItem) (n : ℕ) (item : HostItem) → slice_get items n ≡ Some item
    → (drop n items ≡ item ∷ drop (n + 1) items) × (slice_get items (n + 1 - 1) ≡ Some item)
taken_at items n item is =
    let next : suc n ≡ n + 1 = omega arith in
    let same : n + 1 - 1 ≡ n = omega arith in
    (split_at items n item is ∙ ap (λ (k : ℕ). item ∷ drop k items) next, ap (slice_get items) same ∙ is)

-- an index after another is not 0
pub not_first : (n : ℕ) → eqb (n + 1) 0 ≡ false
not_first n = ne_eqb (n + 1) 0 (λ none. omega (arith, none))

-- An index after all items has none after it.
pub beyond_items : (items : List HostItem) (n : ℕ) → None ≡ slice_get items n → drop n items ≡ []
beyond_items [] zero none = refl
beyond_items [] (suc n) none = refl
beyond_items (o ∷ items) zero none = absurd cc
beyond_items (o ∷ items) (suc n) none = beyond_items items n none

pub known_none : (f : HostItem → ℕ) (o : Option HostItem) → None ≡ option_map f o → None ≡ o
known_none f None is = refl
known_none f (Some item) is = absurd cc

-- the item of which a number is known
pub known_item : (f : HostItem → ℕ) (o : Option HostItem) (number : ℕ) → Some number ≡ option_map f o → (item : HostItem) × ((o ≡ Some item) × (number ≡ f item))
known_item f None number is = absurd cc
known_item f (Some item) number is = (item, (refl, cc))

-- two inputs are not one
pub tick_alone : (first second : Input) → first ∷ second ∷ [] ≡ first ∷ [] → {P : Type 0} → P
tick_alone first second one = absurd cc
