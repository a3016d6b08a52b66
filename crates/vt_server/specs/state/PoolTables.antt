-- The code's table of pools and uploads by address (docs/PROFILE.md, "What a set has").
use Rattle.std.specs.Prelude.{◌≡◌, ℕ, Bool, false, List, [], Option, Some, None, length, get_or, refl}
use Rattle.std.specs.Coded.{Coded, code_by, coded×, coded_list, coded_option}
use Rattle.vt_machine.specs.SetStates.{SetState, state_code}
use Rattle.vt_pool.specs.PoolUploads.{Arrived, arrived_code}
use Rattle.vt_server.specs.state.AddressStates.{SetPool}

-- the pool and the upload of each address, if it has one
pub record Kept : Type 0 where
  pub pools : List (Option SetState)
  pub transfers : List (Option Arrived)

abbrev pub kept_code : Coded Kept
kept_code =
    code_by (List (Option SetState) × List (Option Arrived)) (coded× (coded_list (coded_option state_code)) (coded_list (coded_option arrived_code)))
    (λ k. (k.pools, k.transfers)) (λ p. record { pools = p.0; transfers = p.1 }) (λ _. refl)

-- The invariant of the table: an entry for each of the 256 addresses, and no pool while may_have_pools is false.
pub record AreKept (pools : List (Option SetState)) (transfers : List (Option Arrived)) (may_have_pools : Bool) : Type 0 where
  pub pools_each : length pools ≡ 256
  pub transfers_each : length transfers ≡ 256
  pub none : may_have_pools ≡ false → (address : ℕ) → get_or pools address None ≡ None

abbrev pub bytes_arrived : Option Arrived → List ℕ
bytes_arrived None = []
bytes_arrived (Some transfer) = transfer.bytes

abbrev pub spare_in : Option Arrived → ℕ
spare_in None = 0
spare_in (Some transfer) = transfer.spare

-- the pool and the upload of each address
abbrev pub content_by : List (Option SetState) → List (Option Arrived) → ℕ → SetPool
content_by pools transfers address = record { pool = get_or pools address None; transfer = bytes_arrived (get_or transfers address None) }

abbrev pub content_of : Kept → ℕ → SetPool
content_of contents = content_by contents.pools contents.transfers

-- the reserved capacity, in bytes, of the upload of an address
abbrev pub spare_of : Kept → ℕ → ℕ
spare_of contents address = spare_in (get_or contents.transfers address None)
