-- The holders of addresses before a claim (docs/PROFILE.md, "The holder of an address").
use Rattle.std.specs.Prelude.{◌≡◌, ℕ}
use Rattle.vt_names.specs.Claims.{address_of}
use Rattle.vt_server.specs.declared.frame.claim.FormerHolders.{FormerHolders}
use Rattle.vt_server.specs.Steps.{former_address, former_holder}
use Rattle.vt_server.specs.Terminals.{State, holder}

-- the former address of the claim's NAME, the holder of that address, and the holder of the source
pub record AreFormer (s : State) (source name : ℕ) (former : FormerHolders) : Type 0 where
  pub address : former.address ≡ former_address source (address_of s.claims.addresses name)
  pub address_holder : former.address_holder ≡ former_holder s former.address
  pub holder : former.holder ≡ holder s source
