-- A working set with its objects, its held key, its selected input and its audio commands, and the effects of calls on it
-- (docs/PROFILE.md, "Runs", "Steps").
use denote.RattleType.{RattleType}
use Rattle.std.specs.Prelude.{◌≡◌, ◌≤◌, ◌+◌, ◌-◌, ℕ, Bool, true, false, ◌==◌, if◌then◌else◌, List, [], ◌∷◌, Option, Some, None, Result, Ok, Err, refl, length}
use Rattle.std.specs.Coded.{Coded, code_by, coded×, coded_option, coded_ℕ}
use Rattle.std.specs.FinMap as map
use Rattle.vt_kinds.specs.contracts.macro_bytes.MacroBytes as macro_bytes
use Rattle.vt_kinds.specs.contracts.object.Object as object
use Rattle.vt_macros.specs.contracts.audio.Audio as audio
use Rattle.vt_commands.specs.declared.command.Command.{Command}
use Rattle.vt_commands.specs.declared.raising.Raised.{Raised}
use Rattle.vt_macros.specs.declared.audio.Audio.{Audio}
use Rattle.vt_macros.specs.Audio.{noted, silence}
use Rattle.vt_macros.specs.AudioOfRuns.{audio_of_run}
use Rattle.vt_kinds.specs.declared.kind.Kind.{Kind}
use Rattle.vt_kinds.specs.declared.kind.Kind.TheVariants as kinds
use Rattle.vt_kinds.specs.Ids.{null_id}
use Rattle.vt_kinds.specs.Kinds.{kind_number}
use Rattle.vt_stores.specs.LentObjects.{bytes_row}
use Rattle.vt_kinds.specs.Records.{kind_of}
use Rattle.vt_stores.specs.Stores.{ObjectMap, Objects}
use Rattle.vt_verify.specs.Rules.{is_working_set, working_sets}
use Rattle.vt_machine.specs.contracts.live.HeldKey as held_key
use Rattle.vt_machine.specs.declared.live.HeldKey.{HeldKey}
use Rattle.vt_machine.specs.declared.live.Outcome.{Outcome}
use Rattle.vt_machine.specs.declared.live.Outcome.TheVariants.{Done, Refused}
use Rattle.vt_chains.specs.Depths.{ids_of}
use Rattle.vt_shown.specs.ShownMarks.{AreShown, AreSomeShown}
use Rattle.vt_effects.specs.Effects.{effect, kind_in}
use Rattle.vt_macros.specs.Machines.{Ended, mask_of, run, joined_all, total_budget, events_of}
use Rattle.vt_effects.specs.Soundness.{shape_in}
use Rattle.vt_effects.specs.Soundness.{IsSound}

-- a working set's objects, the held key with the mask of its press, the selected input, and the audio commands that are done
pub record SetState : Type 0 where
  pub objects : ObjectMap
  pub key : Option HeldKey
  pub input : Option ℕ
  pub audio : Audio

abbrev pub seen_row : RattleType
seen_row = object.the_row (macro_bytes.the_row bytes_row (record { items = λ v. v.items })) (record { items = λ v. v })

abbrev pub state_code : Coded SetState
state_code =
    code_by (ObjectMap × (Option HeldKey × (Option ℕ × Audio)))
    (coded× (map.code coded_ℕ seen_row.coded) (coded× (coded_option held_key.the_row.coded) (coded× (coded_option coded_ℕ) audio.the_row.coded)))
    (λ s. (s.objects, (s.key, (s.input, s.audio))))
    (λ p. record { objects = p.0; key = p.1.0; input = p.1.1.0; audio = p.1.1.1 })
    (λ _. refl)

-- a pool that has just come: no key is held, no input is selected, and no audio command is done
abbrev pub fresh_set : ObjectMap → SetState
fresh_set objects = record { objects = objects; key = None; input = None; audio = silence }

-- the state with its objects replaced
abbrev pub with_objects : SetState → ObjectMap → SetState
with_objects state new = record state { objects = new }

-- the state with the objects and the audio commands that macros leave
abbrev pub after_run : SetState → ObjectMap → Audio → SetState
after_run state new audio = record state { objects = new; audio = audio }

-- the held object is a Key or a Button
abbrev pub is_key : Option Kind → Bool
is_key (Some kinds.Key) = true
is_key (Some kinds.Button) = true
is_key _ = false

abbrev pub holds_key : ObjectMap → Option HeldKey → Bool
holds_key store None = true
holds_key store (Some key) = is_key (kind_in store key.id)

-- ---- the working set and its active mask

-- the first Working Set of a list of objects, or NULL
abbrev pub first_set : Objects → ℕ
first_set [] = null_id
first_set (e ∷ entries) = if is_working_set (kind_of e.1) then e.0 else first_set entries

unfoldable pub working_set_in : ObjectMap → ℕ
working_set_in store = first_set (map.entries store)

-- the active mask of a store's working set; NULL if there is no working set
abbrev pub active_in : ObjectMap → ℕ
active_in store = mask_of (map.get store (working_set_in store))

-- the active mask of the working set
abbrev pub IsActive : ObjectMap → ℕ → Type 0
IsActive store mask = (set : ℕ) × (kind_in store set ≡ Some kinds.WorkingSet) × (mask_of (map.get store set) ≡ mask)

-- If a store has one working set, that set is the one found, and its active mask is unique.
pub record ActiveMasksAreOne : Type 0 where
  pub one : (store : ObjectMap) (mask other : ℕ) → working_sets (shape_in store) ≡ 1 → IsActive store mask → IsActive store other → mask ≡ other
  pub set : (store : ObjectMap) (set : ℕ) → working_sets (shape_in store) ≡ 1 → kind_in store set ≡ Some kinds.WorkingSet → set ≡ working_set_in store
  pub set_there : (store : ObjectMap) → working_sets (shape_in store) ≡ 1 → kind_in store (working_set_in store) ≡ Some kinds.WorkingSet
  pub mask : (store : ObjectMap) (mask : ℕ) → working_sets (shape_in store) ≡ 1 → IsActive store mask → mask ≡ active_in store
  pub active : (store : ObjectMap) → working_sets (shape_in store) ≡ 1 → IsActive store (active_in store)

-- ---- stores after runs

-- Commands have run on objects, in `steps` steps of at most `most`. The run has ended without getting stuck, the
-- references and chains are in order, and no kind, no macro entry and no macro byte has changed.
pub record HasRun (old : ObjectMap) (commands : List Command) (most steps : ℕ) (new : ObjectMap) : Type 0 where
  pub ended : run most old commands ≡ Ended new (most - steps)
  pub within : steps ≤ most
  pub sound : IsSound new
  pub shape : shape_in new ≡ shape_in old

-- ---- commands

-- A command that is done takes effect, and then the macros of its events run. It takes its own step and theirs.
pub record IsDone (old : ObjectMap) (command : Command) (steps : ℕ) (new : ObjectMap) : Type 0 where
  pub middle : ObjectMap
  pub done : effect old command ≡ Ok middle
  pub run_steps : ℕ
  pub steps_are : steps ≡ run_steps + 1
  pub has_run : HasRun middle (joined_all (shape_in middle) (events_of old command)) (total_budget (shape_in middle) (events_of old command)) run_steps new

-- A refused command has an error byte, and changes nothing.
pub record IsCommandRefused (old : ObjectMap) (command : Command) (bits : ℕ) (new : ObjectMap) : Type 0 where
  pub refused : ◌≡◌ {A = Result ObjectMap ℕ} (effect old command) (Err bits)
  pub same : new ≡ old

abbrev pub Applied : ObjectMap → Command → Outcome → ObjectMap → Type 0
Applied old command (Done steps) new = IsDone old command steps new
Applied old command (Refused bits) new = IsCommandRefused old command bits new

-- The audio commands after a command: if it is done, with itself and those of the macros of its events; if it is refused, as before.
abbrev pub audio_by : Audio → Command → List Raised → Result ObjectMap ℕ → Audio
audio_by audio command raised (Ok middle) = audio_of_run (noted audio command) middle raised
audio_by audio command raised (Err bits) = audio

abbrev pub audio_after_command : Command → SetState → Audio
audio_after_command command state = audio_by state.audio command (events_of state.objects command) (effect state.objects command)

-- ---- updates

-- both objects exist and are of the same kind
abbrev pub same_kind : Option Kind → Option Kind → Bool
same_kind (Some kind) (Some other) = kind_number kind == kind_number other
same_kind _ _ = false

-- a held or selected object is kept, if its ID has an object of the same kind in both stores
abbrev pub is_kept : ObjectMap → ObjectMap → ℕ → Bool
is_kept old new id = same_kind (kind_in old id) (kind_in new id)

abbrev pub kept_key : ObjectMap → ObjectMap → Option HeldKey → Option HeldKey
kept_key old new None = None
kept_key old new (Some key) = if is_kept old new key.id then Some key else None

abbrev pub kept_input : ObjectMap → ObjectMap → Option ℕ → Option ℕ
kept_input old new None = None
kept_input old new (Some input) = if is_kept old new input then Some input else None

-- the working set with its objects updated; its audio commands stay
abbrev pub renewed : SetState → ObjectMap → SetState
renewed state new = record {
  objects = new;
  key = kept_key state.objects new state.key;
  input = kept_input state.objects new state.input;
  audio = state.audio;
}

-- ---- the marks of shown objects

-- There is a mark for each object. Where the marks hold, the active mask shows each marked object; where they are whole too, the
-- marked objects are all that it shows.
pub record HasMarks (store : ObjectMap) (hold whole : Bool) (marks : List Bool) : Type 0 where
  pub each : length marks ≡ length (ids_of store)
  pub shown : hold ≡ true → AreSomeShown store (active_in store) marks
  pub all : hold ≡ true → whole ≡ true → AreShown store (active_in store) marks
