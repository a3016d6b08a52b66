-- The pool that a log leaves: the records of the objects of the working set that is shown at its end.
use Rattle.std.specs.Prelude.{◌≡◌, ℕ, List, [], Option, Some, None, false}
use Rattle.std.specs.FinMap as finite
use Rattle.vt_stores.specs.Stores.{Objects, map_of}
use Rattle.vt_pool.specs.Pools.{joined}
use Rattle.vt_judge.specs.Judgements.{IsAcceptedPool}
use Rattle.vt_machine.specs.SetStates.{SetState}
use Rattle.vt_logs.specs.Replays.{IsReplay}
use Rattle.vt_logs.specs.declared.counts.Counts.{Counts}
use Rattle.vt_node.specs.Profile.{standard}
use Rattle.vt_server.specs.state.AddressStates.{empty}
use Rattle.vt_server.specs.Steps.{preloading}
use Rattle.vt_server.specs.Terminals.{State}
use Rattle.draw_gallery.specs.declared.state.GivenSet.{GivenSet}

-- ---- the terminal before the first line

-- A new terminal at the address 26 (38 in decimal) with the NAME 20001D0000000001 and the standard profile,
-- before its first input.
abbrev pub new_state : State
new_state = record {
  claims = record { own = 38; name = 2305874895050899457; addresses = [] };
  profile = standard;
  sets = [];
  places = λ address. empty;
  selected = None;
  shown = None;
  lost = false;
  now = 0;
}

-- A set with an acceptable pool is added to a new terminal.
pub record IsLoaded (set : GivenSet) (s : State) : Type 0 where
  pub objects : Objects
  pub accepted : IsAcceptedPool set.pool.now objects
  pub state : s ≡ preloading new_state set.owner (map_of objects)

abbrev pub IsStart : Option GivenSet → State → Type 0
IsStart None s = s ≡ new_state
IsStart (Some set) s = IsLoaded set s

-- ---- the end

-- The bytes are the records of all objects of the set that is shown, by rising ID.
pub record IsPoolShown (s : State) (bytes : List ℕ) : Type 0 where
  pub address : ℕ
  pub shown : s.shown ≡ Some address
  pub set : SetState
  pub of_address : (s.places address).content.pool ≡ Some set
  pub written : bytes ≡ joined (finite.entries set.objects)

-- No set with a pool is shown.
abbrev pub HasNothingShown : State → Type 0
HasNothingShown s = (address : ℕ) → s.shown ≡ Some address → (s.places address).content.pool ≡ None

-- The end of a replay of a log, by a terminal that has the set from the start if there is one.
pub record IsEndOf (set : Option GivenSet) (input : List ℕ) (end : State) : Type 0 where
  pub start : State
  pub given : IsStart set start
  pub text : List ℕ
  pub counts : Counts
  pub replay : IsReplay start input text counts end

-- A terminal replays a log, and no set is shown then.
pub record LeavesNothing (set : Option GivenSet) (input : List ℕ) : Type 0 where
  pub end : State
  pub of_log : IsEndOf set input end
  pub nothing : HasNothingShown end

-- A terminal replays a log, and its shown set has the objects of these records then.
pub record LeavesPool (set : Option GivenSet) (input bytes : List ℕ) : Type 0 where
  pub end : State
  pub of_log : IsEndOf set input end
  pub shown : IsPoolShown end bytes
