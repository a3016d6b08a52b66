-- The index of a pool's macros: those that run at an event, and the commands of each macro.
use Rattle.std.specs.Prelude.{◌≡◌, ◌≤◌, ℕ, Bool, false, List, length, map, take, drop, slice_index_or, Option, Some}
use Rattle.std.specs.List.{AllByRecursion, list_all}
use Rattle.vt_commands.specs.declared.command.Command.{Command}
use Rattle.vt_commands.specs.declared.raising.Raised.{Raised}
use Rattle.vt_commands.specs.Commands.{command_at}
use Rattle.vt_stores.specs.Shapes.{Shape}
use Rattle.vt_verify.specs.Macros.{commands}
use Rattle.vt_verify.specs.declared.listing.Listing.{Listing}
use Rattle.vt_verify.specs.Triggers.{listing_of}
use Rattle.vt_verify.specs.TriggerGraphs.{AreListings, macros_of_event}
use Rattle.vt_macros.specs.declared.index.Index.{Index}
use Rattle.vt_macros.specs.declared.index.Span.{Span}
use Rattle.vt_macros.specs.QuietMacros.{AreQuiet}

-- the elements from the start of a span to its end
abbrev pub in_span : {A : Type 0} → List A → Span → List A
in_span xs span = drop span.start (take span.end xs)

abbrev pub no_span : Span
no_span = record { start = 0; end = 0 }

-- the command at a span of the macros' bytes
abbrev pub command_in : Index → Span → Option Command
command_in index span = command_at (in_span index.bytes.items span)

-- the spans of the commands of a macro
abbrev pub pieces_in : Index → ℕ → List Span
pieces_in index id = in_span index.pieces.items (slice_index_or index.macros.items id no_span)

-- whether the index knows all macros that it has at an event to be quiet
abbrev pub is_quiet_event : Index → Listing → Bool
is_quiet_event index event = list_all (λ id. slice_index_or index.quiet.items id false) (macros_of_event index.listings event)

abbrev pub are_quiet_events : Index → List Raised → Bool
are_quiet_events index raised = list_all (λ r. is_quiet_event index (listing_of r)) raised

-- The index has the listed macros of each event, the commands of each macro, and each macro known to be quiet is quiet.
pub record IsIndexOf (shape : Shape) (index : Index) : Type 0 where
  pub listings_are : AreListings shape index.listings
  pub commands_are : (id : ℕ) → map (command_in index) (pieces_in index id) ≡ map Some (commands shape id)
  pub quiet_are : AreQuiet shape index.quiet.items

-- No span ends past the end of its list.
pub record HasSpansInBounds (index : Index) : Type 0 where
  pub count : length index.macros.items ≡ 256
  pub of_pieces : (id : ℕ) → (slice_index_or index.macros.items id no_span).end ≤ length index.pieces.items
  pub of_bytes : AllByRecursion (λ span. span.end ≤ length index.bytes.items) index.pieces.items
