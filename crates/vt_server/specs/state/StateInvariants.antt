-- The invariants of every terminal on its address claims and its sets.
use Rattle.std.specs.Prelude.{◌≢◌, ◌<◌, ℕ}
use Rattle.vt_names.specs.Claims.{IsRisingByName}
use Rattle.vt_names.specs.Registry.{AreApart}
use Rattle.vt_server.specs.Terminals.{State}

-- every state of a terminal: claims by rising NAME, sets at distinct addresses
pub record IsOrderly (s : State) : Type 0 where
  pub rising : IsRisingByName s.claims.addresses
  pub apart : AreApart s.sets

-- an address that is not the terminal's own
pub record IsOther (address : ℕ) (s : State) : Type 0 where
  pub small : address < 256
  pub other : address ≢ s.claims.own
