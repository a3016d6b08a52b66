-- The shares of macros add up to their costs.
use Rattle.std.proofs.Common.{◌≡◌, ℕ, ◌+◌, List, [], ◌∷◌, ◌++◌, length, map, Option, Some, None, refl, sym, ap, ap₂, ◌∙◌, arith}
use Rattle.std.proofs.lemmas.List.Sums.{sum_by-cons, sum_by-append}
use Rattle.std.specs.Prelude.{sum_by}
use Rattle.std.specs.Option.{option_to_list}
use Rattle.std.specs.List.{flat_map}
use Rattle.vt_commands.specs.declared.command.Command.{Command}
use Rattle.vt_rank.proofs.Totals.{sum_by-meets}
use Rattle.vt_stores.specs.Shapes.{Shape, Fixed, fixed_at}
use Rattle.vt_verify.specs.declared.listing.Listing.{Listing}
use Rattle.vt_verify.specs.Budgets.{MacroCostsAreTotals, budget, cost, command_cost}
use Rattle.vt_verify.specs.Macros.{macro_bytes_in, macro_command, with_offsets, cut_or_none, pieces_of, commands_of, commands}
use Rattle.vt_verify.specs.TriggerGraphs.{if_any}
use Rattle.vt_verify.specs.Triggers.{listed, row_listings}
use Rattle.vt_verify.proofs.lemmas.graphs.SameCosts.{sums_of_sums, same_sums}
use Rattle.vt_verify.proofs.lemmas.rules.FirstFailure.{each_of_each}
use Rattle.check_costs.specs.declared.share.EventCost.{EventCost}
use Rattle.check_costs.specs.declared.share.Share.{Share}
use Rattle.check_costs.specs.declared.share.Share.TheVariants as shares
use Rattle.check_costs.specs.declared.share.TheConstants.{MOST_STEPS}
use Rattle.check_costs.specs.Shares.{counted, event_cost, hide_by, steps_of, IsCostliestHide, event_shares, command_shares, piece_shares, bytes_at, macro_shares, function_of}
use Rattle.check_costs.specs.Sums.{steps_of_command, steps_of_event, EventsAddUp, MacrosAddUp, CommandsAddUp, CostsAddUp, AcceptedCostsAreBudgets}
use Rattle.check_costs.proofs.EventSteps.{raised_steps, budget_is, command_is}

-- ---- the commands in shares

no_command_hides : (es : List EventCost) → sum_by steps_of_command (map shares.MayHide es) ≡ 0
no_command_hides [] = refl
no_command_hides (e ∷ es) =
    let sum = sum_by-cons steps_of_command (shares.MayHide e) (map shares.MayHide es) in
    let rest = no_command_hides es in
    omega (arith, sum, rest)

module _ (shape : Shape) where
  raises : List Listing → List Share
  raises es = map (λ raised. shares.Raises (event_cost shape raised)) es

  no_command_raised : (es : List Listing) → sum_by steps_of_command (raises es) ≡ 0
  unfolding raises
  no_command_raised [] = refl
  no_command_raised (e ∷ es) =
      let sum = sum_by-cons steps_of_command (shares.Raises (event_cost shape e)) (raises es) in
      let rest = no_command_raised es in
      omega (arith, sum, rest)

  no_command_in : (e : Listing) → sum_by steps_of_command (event_shares shape e) ≡ 0
  unfolding raises
  no_command_in e = no_command_raised (if_any e (listed shape e))

  no_commands_in : (es : List Listing) → sum_by steps_of_command (flat_map (event_shares shape) es) ≡ 0
  no_commands_in [] = refl
  no_commands_in (e ∷ es) =
      let here = no_command_in e in
      let rest = no_commands_in es in
      let both = sum_by-append steps_of_command (event_shares shape e) (flat_map (event_shares shape) es) in
      omega (arith, both, here, rest)

  pub one_command : (hide : Option EventCost) (at function : ℕ) (command : Command)
      → sum_by steps_of_command (command_shares shape hide at function command) ≡ counted (command_cost (cost shape) shape command)
  one_command hide at function command =
      let first = shares.Command at function (counted (command_cost (cost shape) shape command)) in
      let hides = map shares.MayHide (option_to_list (hide_by command hide)) in
      let raised = flat_map (event_shares shape) (row_listings command) in
      let sum = sum_by-cons steps_of_command first (hides ++ raised) in
      let parts = sum_by-append steps_of_command hides raised in
      let none = no_command_hides (option_to_list (hide_by command hide)) in
      let nor = no_commands_in (row_listings command) in
      omega (arith, sum, parts, none, nor)

  -- ---- the commands in the shares of a macro

  piece_case : (hide : Option EventCost) (at function : ℕ) (found : Option Command)
      → sum_by steps_of_command (flat_map (command_shares shape hide at function) (option_to_list found)) ≡ sum_by (λ c. counted (command_cost (cost shape) shape c)) (option_to_list found)
  piece_case hide at function None = refl
  piece_case hide at function (Some command) =
      let sum = sum_by-append steps_of_command (command_shares shape hide at function command) [] in
      let one = one_command hide at function command in
      let other = sum_by-cons (λ c. counted (command_cost (cost shape) shape c)) command [] in
      omega (arith, sum, one, other)

  of_pieces : (hide : Option EventCost) (id at : ℕ) (ps : List (List ℕ))
      → sum_by steps_of_command (flat_map (piece_shares shape hide) (with_offsets id at ps))
      ≡ sum_by (λ c. counted (command_cost (cost shape) shape c)) (flat_map (λ p. option_to_list (macro_command p)) ps)
  of_pieces hide id at [] = refl
  of_pieces hide id at (p ∷ ps) =
      sum_by-append steps_of_command (piece_shares shape hide (record { id = id; at = at; bytes = p })) (flat_map (piece_shares shape hide) (with_offsets id (at + length p) ps))
      ∙ ap₂ (λ (a b : ℕ). a + b) (piece_case hide at (function_of p) (macro_command p)) (of_pieces hide id (at + length p) ps)
      ∙ sym (sum_by-append (λ c. counted (command_cost (cost shape) shape c)) (option_to_list (macro_command p)) (flat_map (λ p. option_to_list (macro_command p)) ps))

  of_bytes : (hide : Option EventCost) (id : ℕ) (bytes : List ℕ)
      → sum_by steps_of_command (flat_map (piece_shares shape hide) (pieces_of (id, bytes))) ≡ sum_by (λ c. counted (command_cost (cost shape) shape c)) (commands_of bytes)
  unfolding commands_of
  of_bytes hide id bytes = of_pieces hide id 0 (cut_or_none bytes)

  commands_are : (id : ℕ) → commands shape id ≡ flat_map commands_of (bytes_at shape id)
  unfolding commands
  commands_are id = sym (each_of_each commands_of (λ (f : Fixed). option_to_list (macro_bytes_in id f)) (option_to_list (fixed_at shape id)))

  of_macro : (hide : Option EventCost) (id : ℕ) → sum_by steps_of_command (macro_shares shape hide id) ≡ sum_by (λ c. counted (command_cost (cost shape) shape c)) (commands shape id)
  of_macro hide id =
      sums_of_sums steps_of_command (λ bytes. flat_map (piece_shares shape hide) (pieces_of (id, bytes))) (bytes_at shape id)
      ∙ same_sums (λ bytes. sum_by steps_of_command (flat_map (piece_shares shape hide) (pieces_of (id, bytes)))) (λ bytes. sum_by (λ c. counted (command_cost (cost shape) shape c)) (commands_of bytes))
      (bytes_at shape id) (of_bytes hide id)
      ∙ sym (sums_of_sums (λ c. counted (command_cost (cost shape) shape c)) commands_of (bytes_at shape id))
      ∙ ap (sum_by (λ c. counted (command_cost (cost shape) shape c))) (sym (commands_are id))

  macros_add_up : (hide : Option EventCost) → MacroCostsAreTotals shape → MacrosAddUp shape hide
  macros_add_up hide totals id =
      ap counted (totals id)
      ∙ sym (sum_by-meets (λ c. counted (command_cost (cost shape) shape c)) (command_cost (cost shape) shape) MOST_STEPS (commands shape id) (λ c inside. omega arith))
      ∙ ap counted (sym (of_macro hide id))

  -- ---- the events in the shares of a command

  hides_sum : (found : Option EventCost) → sum_by steps_of_event (map shares.MayHide (option_to_list found)) ≡ steps_of found
  hides_sum None = refl
  hides_sum (Some e) = sum_by-cons steps_of_event (shares.MayHide e) [] ∙ omega arith

  event_case : (e : Listing) (macros : List ℕ) → listed shape e ≡ macros → sum_by steps_of_event (raises (if_any e macros)) ≡ (event_cost shape e).steps
  unfolding raises
  event_case e [] is =
      let none : budget shape e.id e.event ≡ 0 = budget_is shape e ∙ ap (sum_by (cost shape)) is in
      omega (arith, none)
  event_case e (m ∷ ms) is = sum_by-cons steps_of_event (shares.Raises (event_cost shape e)) [] ∙ omega arith

  event_sum : (e : Listing) → sum_by steps_of_event (event_shares shape e) ≡ (event_cost shape e).steps
  unfolding raises
  event_sum e = event_case e (listed shape e) refl

  raised_sum : (command : Command) → sum_by steps_of_event (flat_map (event_shares shape) (row_listings command)) ≡ raised_steps shape command
  raised_sum command =
      sums_of_sums steps_of_event (event_shares shape) (row_listings command)
      ∙ same_sums (λ e. sum_by steps_of_event (event_shares shape e)) (λ e. (event_cost shape e).steps) (row_listings command) event_sum

  commands_add_up : (hide : Option EventCost) → IsCostliestHide shape hide → CommandsAddUp shape hide
  commands_add_up hide is at function command =
      let first = shares.Command at function (counted (command_cost (cost shape) shape command)) in
      let hides = map shares.MayHide (option_to_list (hide_by command hide)) in
      let raised = flat_map (event_shares shape) (row_listings command) in
      let one = one_command hide at function command in
      let sum = sum_by-cons steps_of_event first (hides ++ raised) in
      let parts = sum_by-append steps_of_event hides raised in
      let hidden = hides_sum (hide_by command hide) in
      let rest = raised_sum command in
      let same = command_is shape hide command is in
      omega (arith, one, sum, parts, hidden, rest, same)

  events_add_up : EventsAddUp shape
  events_add_up e =
      ap counted (budget_is shape e)
      ∙ sym (sum_by-meets (λ id. counted (cost shape id)) (cost shape) MOST_STEPS (listed shape e) (λ id inside. omega arith))

pub costs_add_up_lemma : CostsAddUp
costs_add_up_lemma shape hide totals is = record {
  events = events_add_up shape;
  macros = macros_add_up shape hide totals;
  commands = commands_add_up shape hide is;
}

pub accepted_lemma : AcceptedCostsAreBudgets
accepted_lemma pool e acceptable =
    let within = acceptable.within_budget.budgets e.id e.event in
    omega (arith, within)
