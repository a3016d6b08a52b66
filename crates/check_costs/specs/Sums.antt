-- Each number of a breakdown is the sum of those below it.
use Rattle.std.specs.Prelude.{◌≡◌, ℕ, ◌+◌, sum_by, Option}
use Rattle.vt_commands.specs.declared.command.Command.{Command}
use Rattle.vt_chains.specs.Limits.{terminal}
use Rattle.vt_stores.specs.Shapes.{Shape, shape_of}
use Rattle.vt_stores.specs.Stores.{Objects}
use Rattle.vt_verify.specs.declared.listing.Listing.{Listing}
use Rattle.vt_verify.specs.Budgets.{MacroCostsAreTotals, budget, cost}
use Rattle.vt_verify.specs.Rules.{IsAcceptable}
use Rattle.vt_verify.specs.Triggers.{listed}
use Rattle.check_costs.specs.declared.share.EventCost.{EventCost}
use Rattle.check_costs.specs.declared.share.Share.{Share}
use Rattle.check_costs.specs.declared.share.Share.TheVariants as shares
use Rattle.check_costs.specs.Shares.{counted, event_cost, IsCostliestHide, command_shares, macro_shares}

-- the steps of commands in shares
abbrev pub steps_of_command : Share → ℕ
steps_of_command (shares.Command at function steps) = steps
steps_of_command (shares.MayHide e) = 0
steps_of_command (shares.Raises e) = 0

-- the steps of events in shares
abbrev pub steps_of_event : Share → ℕ
steps_of_event (shares.Command at function steps) = 0
steps_of_event (shares.MayHide e) = e.steps
steps_of_event (shares.Raises e) = e.steps

-- the steps of an event are those of its macros, repeats counted
abbrev pub EventsAddUp : Shape → Type 0
EventsAddUp shape = (e : Listing) → (event_cost shape e).steps ≡ counted (sum_by (λ id. counted (cost shape id)) (listed shape e))

-- the steps of a macro are those of the commands in its shares
abbrev pub MacrosAddUp : Shape → Option EventCost → Type 0
MacrosAddUp shape hide = (id : ℕ) → counted (cost shape id) ≡ counted (sum_by steps_of_command (macro_shares shape hide id))

-- the steps of a command are one, and those of the events in its shares
abbrev pub CommandsAddUp : Shape → Option EventCost → Type 0
CommandsAddUp shape hide = (at function : ℕ) (command : Command)
    → counted (sum_by steps_of_command (command_shares shape hide at function command)) ≡ counted (1 + sum_by steps_of_event (command_shares shape hide at function command))

-- Events, macros and commands cost the sum of what stands below them, counted.
pub record AddsUp (shape : Shape) (hide : Option EventCost) : Type 0 where
  pub events : EventsAddUp shape
  pub macros : MacrosAddUp shape hide
  pub commands : CommandsAddUp shape hide

-- The costs of a pool add up, if each macro costs the sum of its commands.
abbrev pub CostsAddUp : Type 0
CostsAddUp = (shape : Shape) (hide : Option EventCost) → MacroCostsAreTotals shape → IsCostliestHide shape hide → AddsUp shape hide

-- The steps of an event of an acceptable pool are its budget.
abbrev pub AcceptedCostsAreBudgets : Type 0
AcceptedCostsAreBudgets = (pool : Objects) (e : Listing) → IsAcceptable terminal pool → (event_cost (shape_of pool) e).steps ≡ budget (shape_of pool) e.id e.event
