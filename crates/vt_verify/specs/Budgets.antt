-- The costs of macros and the budgets of events (docs/PROFILE.md, "Costs and budgets").
use Rattle.std.specs.Prelude.{◌≡◌, ℕ, zero, suc, ◌+◌, if◌then◌else◌, sum_by, List, map}
use Rattle.vt_commands.specs.declared.command.Command.{Command}
use Rattle.vt_rank.specs.Costs.{greatest}
use Rattle.vt_commands.specs.declared.event.Event.TheVariants.{Hide}
use Rattle.vt_commands.specs.Events.{event_number}
use Rattle.vt_verify.specs.declared.listing.Listing.{Listing}
use Rattle.vt_stores.specs.Shapes.{Shape}
use Rattle.vt_verify.specs.Macros.{commands}
use Rattle.vt_verify.specs.TriggerGraphs.{listed_events}
use Rattle.vt_verify.specs.Triggers.{listing, listed, row_listings, changes_mask, masks}

-- ---- totals, for given costs of the macros

abbrev pub total : (ℕ → ℕ) → Shape → Listing → ℕ
total cost shape raised = sum_by cost (listed shape raised)

-- the cost of the costliest Hide event of a mask, for a command that changes an active mask
abbrev pub hidden_cost : (ℕ → ℕ) → Shape → Command → ℕ
hidden_cost cost shape command =
    if changes_mask command then greatest (λ mask. total cost shape (listing mask (event_number Hide))) (masks shape) else 0

-- one step for the command, and the cost of the events that it may raise
abbrev pub command_cost : (ℕ → ℕ) → Shape → Command → ℕ
command_cost cost shape command = 1 + hidden_cost cost shape command + sum_by (total cost shape) (row_listings command)

abbrev pub macro_cost : (ℕ → ℕ) → Shape → ℕ → ℕ
macro_cost cost shape id = sum_by (command_cost cost shape) (commands shape id)

-- ---- the cost

-- the cost of a macro, counting chains of triggers of up to `depth` macros
unfoldable pub cost_within : ℕ → Shape → ℕ → ℕ
cost_within zero shape id = 0
cost_within (suc depth) shape id = macro_cost (cost_within depth shape) shape id

-- the cost of a macro: no chain without a circle has more than 256 macros
unfoldable pub cost : Shape → ℕ → ℕ
cost shape id = cost_within 256 shape id

-- the budget of an event of an object: the cost of the macros listed there, repeats counted
unfoldable pub budget : Shape → ℕ → ℕ → ℕ
budget shape id event = total (cost shape) shape (listing id event)

-- each macro costs the sum of its commands
abbrev pub MacroCostsAreTotals : Shape → Type 0
MacroCostsAreTotals shape = (id : ℕ) → cost shape id ≡ macro_cost (cost shape) shape id

-- the events at which macros run, and the budget of each
pub record AreBudgets (shape : Shape) (events : List Listing) (steps : List ℕ) : Type 0 where
  pub events_are : events ≡ listed_events shape
  pub steps_are : steps ≡ map (λ e. budget shape e.id e.event) events
