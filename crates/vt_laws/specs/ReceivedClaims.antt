-- The claims received in a run, and the holders after them (docs/PROFILE.md, "The holder of an address", "Loss of the address").
use Rattle.std.specs.Prelude.{◌≡◌, ℕ, ◌==◌, ◌&&◌, Bool, false, nat_lt, if◌then◌else◌, List, [], ◌∷◌, ◌++◌}
use Rattle.vt_can.specs.frames.Frame.{source_of}
use Rattle.vt_names.specs.Claims.{Claim, IsHolder}
use Rattle.vt_node.specs.Bus.{meaning_of}
use Rattle.vt_server.specs.Steps.{JudgedInput, FrameAt, ActionAt, after_all}
use Rattle.vt_server.specs.Terminals.{State, holder}
use Rattle.vt_node.specs.declared.bus.FrameMeaning.{FrameMeaning}
use Rattle.vt_node.specs.declared.bus.FrameMeaning.TheVariants as meanings

abbrev pub claim_of : ℕ → FrameMeaning → List Claim
claim_of source (meanings.Claim name) = record { address = source; name = name } ∷ []
claim_of source _ = []

-- whether a lower NAME claims the own address
abbrev pub takes_address : ℕ → ℕ → ℕ → FrameMeaning → Bool
takes_address own name source (meanings.Claim other) = (source == own) && nat_lt other name
takes_address own name source _ = false

-- The claims that a terminal receives, the latest first, before the earlier ones: all before the one by which it loses its own
-- address. Echoes do not count.
abbrev pub claims_heard : ℕ → ℕ → List Claim → List JudgedInput → List Claim
claims_heard own name before [] = before
claims_heard own name before (FrameAt time frame verdict ∷ events) =
    if takes_address own name (source_of frame) (meaning_of own name frame) then before
    else claims_heard own name (claim_of (source_of frame) (meaning_of own name frame) ++ before) events
claims_heard own name before (ActionAt action shown ∷ events) = claims_heard own name before events

-- The holder of each address after a run is the least NAME among those whose last claim in it was of the address.
abbrev pub HoldersOfRuns : Type 0
HoldersOfRuns =
    (own name : ℕ) (s : State) (events : List JudgedInput) (address : ℕ)
    → s.claims ≡ record { own = own; name = name; addresses = [] } → s.lost ≡ false
    → IsHolder (claims_heard own name [] events) address (holder (after_all s events) address)
