-- What events and macros cost, and the shares of commands (docs/PROFILE.md, "Costs and budgets").
use Rattle.std.specs.Prelude.{◌≡◌, ℕ, ◌<◌, ◌≤◌, min, if◌then◌else◌, List, ◌∷◌, ◌++◌, map, Option, Some, None, slice_index, Contains}
use Rattle.std.specs.Option.{option_to_list}
use Rattle.std.specs.List.{flat_map}
use Rattle.vt_commands.specs.declared.command.Command.{Command}
use Rattle.vt_commands.specs.declared.event.Event.TheVariants.{Hide}
use Rattle.vt_commands.specs.Events.{event_number}
use Rattle.vt_stores.specs.Shapes.{Shape, fixed_at}
use Rattle.vt_verify.specs.declared.listing.Listing.{Listing}
use Rattle.vt_verify.specs.Budgets.{cost, budget, command_cost}
use Rattle.vt_verify.specs.Macros.{Piece, macro_bytes_in, pieces_of, macro_command}
use Rattle.vt_verify.specs.TriggerGraphs.{if_listed}
use Rattle.vt_verify.specs.Triggers.{listing, row_listings, changes_mask, masks}
use Rattle.check_costs.specs.declared.share.EventCost.{EventCost}
use Rattle.check_costs.specs.declared.share.MacroCost.{MacroCost}
use Rattle.check_costs.specs.declared.share.Share.{Share}
use Rattle.check_costs.specs.declared.share.Share.TheVariants as shares
use Rattle.check_costs.specs.declared.share.TheConstants.{MOST_STEPS}

-- steps, counted up to the most
abbrev pub counted : ℕ → ℕ
counted steps = min steps MOST_STEPS

-- the budget of an event, counted
abbrev pub event_cost : Shape → Listing → EventCost
event_cost shape e = record { id = e.id; event = e.event; steps = counted (budget shape e.id e.event) }

-- ---- the costliest Hide event of a mask

abbrev pub hide_cost : Shape → ℕ → EventCost
hide_cost shape mask = event_cost shape (listing mask (event_number Hide))

-- the Hide event with the most steps, of one of these masks; none if none of the events takes a step
abbrev pub IsCostliest : Shape → List ℕ → Option EventCost → Type 0
IsCostliest shape masks None = (mask : ℕ) → Contains masks mask → (hide_cost shape mask).steps ≡ 0
IsCostliest shape masks (Some e) =
    ((mask : ℕ) × Contains masks mask × (e ≡ hide_cost shape mask)) × (0 < e.steps) × ((mask : ℕ) → Contains masks mask → (hide_cost shape mask).steps ≤ e.steps)

abbrev pub IsCostliestHide : Shape → Option EventCost → Type 0
IsCostliestHide shape hide = IsCostliest shape (masks shape) hide

-- ---- the shares of a command

-- the costliest Hide event, for a command that changes an active mask
abbrev pub hide_by : Command → Option EventCost → Option EventCost
hide_by command hide = if changes_mask command then hide else None

abbrev pub steps_of : Option EventCost → ℕ
steps_of None = 0
steps_of (Some e) = e.steps

abbrev pub event_shares : Shape → Listing → List Share
event_shares shape e = map (λ raised. shares.Raises (event_cost shape raised)) (if_listed shape e)

-- the command, then the costliest Hide event if it may hide a mask, then the events of its row at which macros run
abbrev pub command_shares : Shape → Option EventCost → ℕ → ℕ → Command → List Share
command_shares shape hide at function command =
    shares.Command at function (counted (command_cost (cost shape) shape command))
    ∷ map shares.MayHide (option_to_list (hide_by command hide)) ++ flat_map (event_shares shape) (row_listings command)

-- the first byte of a macro command
abbrev pub function_of : List ℕ → ℕ
function_of bytes = slice_index bytes 0

-- the shares of one macro command's bytes; none if they are no command that macros may have
abbrev pub piece_shares : Shape → Option EventCost → Piece → List Share
piece_shares shape hide p = flat_map (command_shares shape hide p.at (function_of p.bytes)) (option_to_list (macro_command p.bytes))

-- ---- macros

-- a macro with its steps and its shares
pub record MacroRow : Type 0 where
  pub id : ℕ
  pub steps : ℕ
  pub shares : List Share

abbrev pub row_of : MacroCost → MacroRow
row_of m = record { id = m.id; steps = m.steps; shares = m.shares.items }

-- the bytes of the macro under an ID, if there is one
abbrev pub bytes_at : Shape → ℕ → List (List ℕ)
bytes_at shape id = flat_map (λ f. option_to_list (macro_bytes_in id f)) (option_to_list (fixed_at shape id))

abbrev pub macro_shares : Shape → Option EventCost → ℕ → List Share
macro_shares shape hide id = flat_map (λ bytes. flat_map (piece_shares shape hide) (pieces_of (id, bytes))) (bytes_at shape id)

abbrev pub macro_row : Shape → Option EventCost → ℕ → MacroRow
macro_row shape hide id = record { id = id; steps = counted (cost shape id); shares = macro_shares shape hide id }
