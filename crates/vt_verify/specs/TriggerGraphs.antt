-- The triggers of macros as a graph with a group for each event at which macros run.
use Rattle.std.specs.Prelude.{◌≡◌, ◌<◌, ℕ, List, [], ◌∷◌, ◌++◌, map, if◌then◌else◌, Option, slice_index_or, nat_eq, ◌&&◌, Bool}
use Rattle.std.specs.Option.{option_to_list}
use Rattle.std.specs.List.{flat_map, list_any, position_from}
use Rattle.vt_commands.specs.declared.command.Command.{Command}
use Rattle.vt_rank.specs.declared.graph.Graph.{Graph}
use Rattle.vt_rank.specs.declared.graph.Item.{Item}
use Rattle.vt_rank.specs.declared.graph.Item.TheVariants as items
use Rattle.vt_rank.specs.Graphs.{items_of, lists}
use Rattle.vt_commands.specs.declared.event.Event.TheVariants.{Hide}
use Rattle.vt_commands.specs.Events.{event_number}
use Rattle.vt_verify.specs.declared.listing.Listing.{Listing}
use Rattle.vt_stores.specs.Shapes.{Shape, Fixed}
use Rattle.vt_verify.specs.Macros.{commands}
use Rattle.vt_verify.specs.Triggers.{listing, row_listings, changes_mask, masks, listed, listed_in}

-- the numbers of all events, in order
abbrev pub event_numbers : List ℕ
event_numbers =
    0 ∷ 1 ∷ 2 ∷ 3 ∷ 4 ∷ 5 ∷ 6 ∷ 7 ∷ 8 ∷ 9 ∷ 10 ∷ 11 ∷ 12 ∷ 13 ∷ 14 ∷ 15 ∷ 16 ∷ 17 ∷ 18 ∷ 19 ∷ 20 ∷ 21 ∷ 22 ∷ 23 ∷ 24 ∷ 25
    ∷ 26 ∷ []

-- the event, if macros run at it
abbrev pub if_any : Listing → List ℕ → List Listing
if_any raised [] = []
if_any raised (m ∷ ms) = raised ∷ []

-- the list itself, if it is not empty
abbrev pub non_empty : List ℕ → List (List ℕ)
non_empty [] = []
non_empty (m ∷ ms) = (m ∷ ms) ∷ []

-- the events of an object at which macros run
unfoldable pub events_in : ℕ → Fixed → List Listing
events_in id f = flat_map (λ event. if_any (listing id event) (listed_in event id f)) event_numbers

unfoldable pub groups_in : ℕ → Fixed → List (List ℕ)
groups_in id f = flat_map (λ event. non_empty (listed_in event id f)) event_numbers

abbrev pub if_listed : Shape → Listing → List Listing
if_listed shape raised = if_any raised (listed shape raised)

-- the events of all objects at which macros run, by rising ID and number
abbrev pub listed_events : Shape → List Listing
listed_events shape = flat_map (λ e. flat_map (λ event. if_listed shape (listing e.0 event)) event_numbers) shape

abbrev pub is_event_of : Listing → Listing → Bool
is_event_of raised e = nat_eq raised.id e.id && nat_eq raised.event e.event

-- whether an event is in a list of events
abbrev pub has : List Listing → Listing → Bool
has events raised = list_any (is_event_of raised) events

-- the group of an event, or None
abbrev pub group_of_event : List Listing → Listing → Option ℕ
group_of_event events raised = position_from (is_event_of raised) 0 events

abbrev pub groups_of : List Listing → List Listing → List ℕ
groups_of events raised = flat_map (λ r. option_to_list (group_of_event events r)) raised

-- the items that a command adds to its macro
abbrev pub command_items : List Listing → Command → List Item
command_items events command =
    items.Step ∷ (if changes_mask command then items.Most ∷ [] else []) ++ map items.Group (groups_of events (row_listings command))

-- The events at which macros run, and the graph of the macros: the group at an event's index has the macros of the event,
-- and each macro has the items of its commands.
pub record IsTriggerGraph (shape : Shape) (events : List Listing) (graph : Graph) : Type 0 where
  pub events_are : events ≡ listed_events shape
  pub groups : lists graph.groups ≡ map (listed shape) events
  pub nodes : (id : ℕ) → id < 256 → items_of graph id ≡ flat_map (command_items events) (commands shape id)
  pub most : graph.most.items ≡ groups_of events (map (λ mask. listing mask (event_number Hide)) (masks shape))

-- ---- the macros of events

-- events, and the macros of each event at its index
abbrev pub Groups : Type 0
Groups = List Listing × List (List ℕ)

-- the macros of an event; none for an event that is not in the list
abbrev pub macros_of_event : Groups → Listing → List ℕ
macros_of_event groups raised = flat_map (λ group. slice_index_or groups.1 group []) (option_to_list (group_of_event groups.0 raised))

-- the macros at each event are those that the objects list
abbrev pub AreListings : Shape → Groups → Type 0
AreListings shape groups = (raised : Listing) → macros_of_event groups raised ≡ listed shape raised
