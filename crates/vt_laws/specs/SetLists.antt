-- The list of the sets after a step (docs/PROFILE.md, "Closing a set", "Working sets", "Silence").
use Rattle.std.specs.Prelude.{◌≡◌, ◌≢◌, ℕ, ◌==◌, Bool, not, if◌then◌else◌, List, [], map, filter, None}
use Rattle.vt_can.specs.frames.Frame.{source_of}
use Rattle.vt_names.specs.Registry.{Set, set_at, registering, joining}
use Rattle.vt_stores.specs.Stores.{ObjectMap}
use Rattle.vt_node.specs.Bus.{meaning_of}
use Rattle.vt_laws.specs.Happenings.{loses, SetsAreHeld}
use Rattle.vt_server.specs.state.StateInvariants.{IsOrderly}
use Rattle.vt_server.specs.frame.TimeoutActs.{at_time, set_is_silent}
use Rattle.vt_server.specs.state.AddressViews.{stays_under, with_holder_name}
use Rattle.vt_server.specs.Steps.{JudgedInput, FrameAt, ActionAt, step, preloading}
use Rattle.vt_server.specs.Terminals.{State, holder}
use Rattle.vt_node.specs.declared.bus.FrameMeaning.{FrameMeaning}
use Rattle.vt_node.specs.declared.bus.FrameMeaning.TheVariants.{Claim, Master, Member}

-- the sets that are not silent at the time of a frame, in their order
abbrev pub heard_sets : State → ℕ → List Set
heard_sets s time = filter (λ set. not (set_is_silent (at_time s time) set)) s.sets

-- whether a set has no NAME or the NAME of its address's holder
abbrev pub stays : State → Set → Bool
stays s set = stays_under set.name (holder s set.address)

-- the set with its holder's NAME, if it is of this address and has no NAME
abbrev pub named_at : State → ℕ → Set → Set
named_at s address set = if set.address == address then with_holder_name set set.name (holder s address) else set

-- The sets after a frame, by its meaning and the holders after it. A claim closes each set with a NAME that is not its address's
-- holder, the others keep their order, and a set of its source without a NAME takes the holder's. A master message registers a
-- set, a member message adds a member, and nothing else changes the list.
abbrev pub sets_after : State → ℕ → FrameMeaning → List Set → List Set
sets_after t source (Claim name) sets = map (named_at t source) (filter (stays t) sets)
sets_after t source (Master count) sets = registering source (holder t source) count sets
sets_after t source (Member name) sets = joining (set_at source sets) name sets
sets_after t source _ sets = sets

-- The frame by which the address is lost closes the silent sets only. Later frames, and actions of the operator, close none.
abbrev pub sets_by : State → State → JudgedInput → List Set
sets_by s t (FrameAt time frame verdict) =
    if s.lost then s.sets else if loses s frame then heard_sets s time
    else sets_after t (source_of frame) (meaning_of s.claims.own s.claims.name frame) (heard_sets s time)
sets_by s t (ActionAt action shown) = s.sets

-- ---- the states for which the law holds

-- No set has the terminal's own address, and each set with a NAME has the NAME of its address's holder.
pub record IsSettled (s : State) : Type 0 where
  pub elsewhere : set_at s.claims.own s.sets ≡ None
  pub held : SetsAreHeld s

pub record SetsAfterSteps : Type 0 where
  pub listed : (s : State) (e : JudgedInput) → IsOrderly s → IsSettled s → (step s e).after.sets ≡ sets_by s (step s e).after e
  -- before the first input, after a preload at another address than the terminal's own, and after every input
  pub first : (s : State) → s.sets ≡ [] → IsSettled s
  pub preloaded : (address : ℕ) (s : State) (contents : ObjectMap) → address ≢ s.claims.own → IsSettled s
      → IsSettled (preloading s address contents)
  pub settled : (s : State) (e : JudgedInput) → IsOrderly s → IsSettled s → IsSettled (step s e).after
