-- Capacity and content unchanged by timeouts and closings (docs/PROFILE.md, "Timeouts", "Silence", "Want of memory").
use Rattle.std.specs.Prelude.{◌≡◌, ◌≤◌, ◌⊎◌, ℕ, None}
use Rattle.std.specs.FinMap as finite
use Rattle.vt_can.specs.Assigned.{TP_TIMEOUT, ETP_TIMEOUT}
use Rattle.vt_can.specs.transport.Sessions.{alive}
use Rattle.vt_names.specs.Registry.{set_at}
use Rattle.vt_server.specs.state.PoolTables.{content_of, spare_of}
use Rattle.vt_server.specs.declared.terminal.Terminal.{Terminal}

-- Overdue sessions have ended. Reserved capacity is unchanged, and so is the content of each address whose set is not closed.
pub record HasLapsed (old new : Terminal) (now : ℕ) : Type 0 where
  pub claims : new.node.claims ≡ old.node.claims
  pub tp : (address : ℕ) → finite.get new.node.tp address ≡ alive TP_TIMEOUT now (finite.get old.node.tp address)
  pub etp : (address : ℕ) → finite.get new.node.etp address ≡ alive ETP_TIMEOUT now (finite.get old.node.etp address)
  pub tp_spare : new.node.tp_spare ≡ old.node.tp_spare
  pub etp_spare : new.node.etp_spare ≡ old.node.etp_spare
  pub sets : old.registry.capacity ≤ new.registry.capacity
  pub uploads : (address : ℕ) → (set_at address new.registry.sets ≡ None)
      ⊎ ((content_of new.contents address ≡ content_of old.contents address) × (spare_of new.contents address ≡ spare_of old.contents address))

-- Some sets are closed with their content. Nothing else is changed.
pub record ClosesSets (old new : Terminal) : Type 0 where
  pub node : new.node ≡ old.node
  pub sets : old.registry.capacity ≤ new.registry.capacity
  pub uploads : (address : ℕ) → (set_at address new.registry.sets ≡ None)
      ⊎ ((content_of new.contents address ≡ content_of old.contents address) × (spare_of new.contents address ≡ spare_of old.contents address))
