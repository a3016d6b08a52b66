-- The breakdown of an event's cost (docs/PROFILE.md, "Costs and budgets").
use Rattle.std.specs.Prelude.{◌≡◌, ℕ, List, map, Option, None}
use Rattle.vt_rank.specs.Paths.{HasNoCircle}
use Rattle.vt_stores.specs.Shapes.{Shape}
use Rattle.vt_verify.specs.declared.listing.Listing.{Listing}
use Rattle.vt_verify.specs.Budgets.{MacroCostsAreTotals}
use Rattle.vt_verify.specs.Rules.{cut_short}
use Rattle.vt_verify.specs.TriggerGraphs.{AreListings}
use Rattle.vt_verify.specs.Triggers.{triggered}
use Rattle.check_costs.specs.declared.breakdown.Breakdown.{Breakdown}
use Rattle.check_costs.specs.declared.share.EventCost.{EventCost}
use Rattle.check_costs.specs.Runnable.{AreRunnable}
use Rattle.check_costs.specs.Shares.{event_cost, IsCostliestHide, row_of, macro_row}

-- The cost of the event, and of each macro that it can run, with the shares of its commands.
pub record IsBreakdown (shape : Shape) (event : Listing) (b : Breakdown) : Type 0 where
  -- the bytes of each macro end with a whole command
  pub whole : cut_short shape ≡ None
  pub of_event : b.event ≡ event_cost shape event
  pub hide : Option EventCost
  pub costliest : IsCostliestHide shape hide
  pub ids : List ℕ
  pub runnable : AreRunnable shape event ids
  pub macros : map row_of b.macros.items ≡ map (macro_row shape hide) ids
  pub listings : AreListings shape b.listings
  -- each macro costs the sum of its commands
  pub totals : MacroCostsAreTotals shape

-- The commands of a macro are not known, or macros trigger each other in a circle.
abbrev pub AreCostsUnknown : Shape → Type 0
AreCostsUnknown shape = cut_short shape ≡ None → HasNoCircle (triggered shape) → ⊥
