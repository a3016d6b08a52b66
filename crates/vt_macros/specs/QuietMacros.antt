-- Quiet macros: their commands, and those of the macros that they trigger, write no field that the text of a screen shows
-- (docs/PROFILE.md, "The drawing and the screen text", "Runs").
use Rattle.std.specs.Prelude.{◌≡◌, ℕ, Bool, true, false, ◌&&◌, List, slice_index_or, Option, Some, None, Ok}
use Rattle.std.specs.List.{AllByRecursion, list_all}
use Rattle.vt_kinds.specs.declared.kind.Kind.{Kind}
use Rattle.vt_commands.specs.declared.command.Command.{Command}
use Rattle.vt_commands.specs.declared.raising.Raised.{Raised}
use Rattle.vt_commands.specs.Events.{row_events}
use Rattle.vt_commands.specs.Targets.{object_of}
use Rattle.vt_stores.specs.Shapes.{Shape, kind_at}
use Rattle.vt_stores.specs.Stores.{ObjectMap}
use Rattle.vt_verify.specs.declared.listing.Listing.{Listing}
use Rattle.vt_verify.specs.Macros.{commands}
use Rattle.vt_verify.specs.Triggers.{listing_of, listed}
use Rattle.vt_effects.specs.Effects.{effect}
use Rattle.vt_effects.specs.Looks.{HaveSameLook, writes_unseen}
use Rattle.vt_effects.specs.Soundness.{shape_in}
use Rattle.vt_macros.specs.Machines.{events_of, joined_all, run, run_of, store_of}

-- a command writes no field in a text; a missing object does not count
abbrev pub is_unseen_of : Command → Option Kind → Bool
is_unseen_of command None = false
is_unseen_of command (Some kind) = writes_unseen command kind

abbrev pub is_unseen_for : Shape → Command → Option ℕ → Bool
is_unseen_for shape command None = true
is_unseen_for shape command (Some id) = is_unseen_of command (kind_at shape id)

abbrev pub is_unseen_in : Shape → Command → Bool
is_unseen_in shape command = is_unseen_for shape command (object_of command)

-- whether all macros that run at an event are known to be quiet
abbrev pub is_quiet_at : Shape → List Bool → Listing → Bool
is_quiet_at shape known event = list_all (λ id. slice_index_or known id false) (listed shape event)

abbrev pub are_quiet : Shape → List Bool → List Raised → Bool
are_quiet shape known raised = list_all (λ r. is_quiet_at shape known (listing_of r)) raised

-- whether a command writes no field in a text, and triggers only known quiet macros
abbrev pub is_quiet : Shape → List Bool → Command → Bool
is_quiet shape known command = is_unseen_in shape command && are_quiet shape known (row_events command)

-- the command of a macro's bytes, if they are one
abbrev pub is_quiet_in : Shape → List Bool → Option Command → Bool
is_quiet_in shape known None = false
is_quiet_in shape known (Some command) = is_quiet shape known command

-- Each macro known to be quiet has quiet commands alone.
abbrev pub AreQuiet : Shape → List Bool → Type 0
AreQuiet shape known = (id : ℕ) → slice_index_or known id false ≡ true → AllByRecursion (λ command. is_quiet shape known command ≡ true) (commands shape id)

-- The runs of events keep the look of a store, however many steps are left.
abbrev pub RunsKeepLook : ObjectMap → List Raised → Type 0
RunsKeepLook store raised = (left : ℕ) → HaveSameLook store (store_of (run left store (joined_all (shape_in store) raised)))

-- A command that is done keeps the look of a store, with the macros of its events.
abbrev pub KeepsLook : ObjectMap → Command → Type 0
KeepsLook store command = (middle : ObjectMap) → effect store command ≡ Ok middle → HaveSameLook store (store_of (run_of middle (events_of store command)))

-- Events that trigger quiet macros alone keep the look of a store.
abbrev pub QuietRunsKeepLooks : Type 0
QuietRunsKeepLooks = (store : ObjectMap) (known : List Bool) (raised : List Raised) → AreQuiet (shape_in store) known
    → are_quiet (shape_in store) known raised ≡ true → RunsKeepLook store raised
