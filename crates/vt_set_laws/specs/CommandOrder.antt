-- A new value of a pointer and a new item of a list are refused exactly if they break the order of the store
-- (docs/PROFILE.md, "What every store keeps", "Inclusions and chains").
use Rattle.std.specs.Prelude.{◌≡◌, ◌↔◌, IsTrue, None, Ok}
use Rattle.std.specs.FinMap as finite
use Rattle.vt_kinds.specs.Ids.{null_id}
use Rattle.vt_commands.specs.declared.command.Command.{Command}
use Rattle.vt_stores.specs.Stores.{ObjectMap}
use Rattle.vt_effects.specs.Changes.{other_id}
use Rattle.vt_effects.specs.Effects.{changed_by, effect, keeps_order, other_kind}
use Rattle.vt_effects.specs.Soundness.{IsSound}

-- The store after a command's change passes the tests of the order exactly if it is in order. The command is done exactly
-- then, and leaves this store.
pub record OrderDecides : Type 0 where
  pub tested : (store new : ObjectMap) (command : Command) → IsSound store → finite.get store null_id ≡ None
      → changed_by store command (other_kind store (other_id command)) ≡ Ok new → IsTrue (keeps_order store command new) ↔ IsSound new
  pub done : (store new : ObjectMap) (command : Command) → IsSound store → finite.get store null_id ≡ None
      → changed_by store command (other_kind store (other_id command)) ≡ Ok new → (effect store command ≡ Ok new) ↔ IsSound new
