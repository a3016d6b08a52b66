-- The macros that an event can run (docs/PROFILE.md, "Triggers and circles").
use Rattle.std.specs.Prelude.{◌≡◌, ◌↔◌, ℕ, Bool, true, List, filter, reverse, Contains}
use Rattle.vt_stores.specs.Shapes.{Shape}
use Rattle.vt_verify.specs.declared.listing.Listing.{Listing}
use Rattle.vt_verify.specs.Orders.{IsByRank}
use Rattle.vt_verify.specs.Triggers.{listed, triggered}

-- a macro is listed at the event, or triggered by one that the event can run
pub data CanRun (shape : Shape) (event : Listing) : ℕ → Type 0 where
  AtEvent : (id : ℕ) → Contains (listed shape event) id → CanRun shape event id
  Triggered : (id other : ℕ) → CanRun shape event id → Contains (triggered shape id) other → CanRun shape event other

-- The macros that an event can run, of all macros by falling rank: each once, and before those that it triggers.
pub record AreRunnable (shape : Shape) (event : Listing) (ids : List ℕ) : Type 0 where
  pub order : List ℕ
  pub by_rank : IsByRank shape order
  pub runs : ℕ → Bool
  pub can_run : (id : ℕ) → Contains order id → (runs id ≡ true) ↔ CanRun shape event id
  pub are : ids ≡ reverse (filter runs order)
