-- A session: a terminal, the outputs that wait to be taken, and the text written last (docs/EMBEDDING.md, "Inputs").
use Rattle.std.specs.List.{slice_get}
use Rattle.std.specs.Prelude.{◌≡◌, ◌⊎◌, ℕ, ◌==◌, ◌+◌, ◌-◌, ◌/◌, ◌%◌, ◌^◌, Bool, true, false, nat_le, nat_lt, if◌then◌else◌, List, [], ◌∷◌, ◌++◌, map, length, drop, take, Option, Some, None}
use Rattle.vt_can.specs.declared.frames.frame.Frame.{Frame}
use Rattle.vt_node.specs.declared.profile.Profile.{Profile}
use Rattle.vt_server.specs.declared.input.Input.{Input}
use Rattle.vt_server.specs.declared.output.Output.TheVariants as output
use Rattle.vt_server.specs.message.UploadEnds.{TellsEndAfter, upload_end}
use Rattle.vt_server.specs.shown.Screens.{KeepsScreen, redraws}
use Rattle.vt_server.specs.state.AddressStates.{empty}
use Rattle.vt_server.specs.States.{state_of, TakesInputs}
use Rattle.vt_server.specs.Terminals.{State}
use Rattle.vt_laws.specs.Headline.{Pools, ArePoolsInForce, KeepsPromise}
use Rattle.vt_session.specs.declared.session.Session.{Session}
use Rattle.vt_host_events.specs.Events.{IsObserving, TellsEvents}
use Rattle.vt_host_events.specs.declared.observer.Observer.{Observer}
use Rattle.vt_session.specs.Inputs.{frame_of, tick_at, time_of}
use Rattle.vt_session.specs.Outputs.{HostItem, Sent, Told}
use Rattle.vt_session.specs.Looks.{KeepsPicture, LooksOn}
use Rattle.vt_session.specs.Statuses.{DONE, NO_MEMORY, NO_SUCH, WAITING, NOT_BEGUN}

-- the state of its terminal
abbrev pub state : Session → State
state session = state_of session.terminal

-- the outputs of the last input, and behind them its events
abbrev pub items : Session → List HostItem
items session = map Sent session.outputs.items ++ map Told session.observer.events.items

-- the outputs and events that wait to be taken
abbrev pub waiting : Session → List HostItem
waiting session = drop session.next (items session)

-- the one taken last, of which the calls of outputs tell
abbrev pub latest : Session → Option HostItem
latest session = if session.next == 0 then None else slice_get (items session) (session.next - 1)

-- Why a session takes no input, if it takes none: its own address is none that a node may have, or outputs wait.
abbrev pub closed : Session → Option ℕ
closed session =
    if session.begun
    then (if nat_lt session.next (length session.outputs.items + length session.observer.events.items) then Some WAITING else None)
    else Some NOT_BEGUN

-- ---- the begin

-- the byte of a number that begins at a bit
abbrev pub byte_of : ℕ → ℕ → ℕ
byte_of number bit = number / 2 ^ bit % 2 ^ 8

-- the profile in five numbers
abbrev pub profile_of : ℕ → ℕ → ℕ → ℕ → ℕ → Profile
profile_of memory keys fonts hardware size = record {
  memory = memory;
  soft_key_width = byte_of keys 0;
  soft_key_height = byte_of keys 8;
  virtual_soft_keys = byte_of keys 16;
  physical_soft_keys = byte_of keys 24;
  small_fonts = byte_of fonts 0;
  large_fonts = byte_of fonts 8;
  font_styles = byte_of fonts 16;
  boot_time = byte_of hardware 0;
  graphic_type = byte_of hardware 8;
  hardware = byte_of hardware 16;
  width = size % 2 ^ 16;
  height = size / 2 ^ 16;
}

-- A session with a new terminal at this address, with this NAME and profile, of which no output waits and no screen is drawn. With
-- an address above 253 it takes no input.
pub record Begins (own name : ℕ) (given : Profile) (after : Session) : Type 0 where
  pub begun : after.begun ≡ nat_le own 253
  pub claims : nat_le own 253 ≡ true → (state after).claims ≡ record { own = own; name = name; addresses = [] }
  pub profile : (state after).profile ≡ given
  pub sets : (state after).sets ≡ []
  pub places : (address : ℕ) → (state after).places address ≡ empty
  pub selected : (state after).selected ≡ None
  pub shown : (state after).shown ≡ None
  pub lost : (state after).lost ≡ false
  pub now : (state after).now ≡ 0
  pub redraws : redraws after.terminal ≡ true
  pub waiting : waiting after ≡ []
  pub latest : latest after ≡ None
  pub looks : after.looks ≡ 0
  pub text : after.text.items ≡ []

-- ---- calls without an input

-- The terminal and the text written last are unchanged.
pub record Stays (before after : Session) : Type 0 where
  pub state : state after ≡ state before
  pub redraws : redraws after.terminal ≡ redraws before.terminal
  pub looks : after.looks ≡ before.looks
  pub begun : after.begun ≡ before.begun
  pub text : after.text.items ≡ before.text.items

-- The terminal, the text written last, the outputs that wait and the one taken last are unchanged.
pub record Remains (before after : Session) : Type 0 where
  pub stays : Stays before after
  pub waiting : waiting after ≡ waiting before
  pub latest : latest after ≡ latest before

-- A frame waits to be taken, unless the terminal lost its address or memory was refused. A lost terminal needs no memory.
pub record Sends (before : Session) (frame : Frame) (after : Session) (status : ℕ) : Type 0 where
  pub sent : ((status ≡ DONE) × (waiting after ≡ (if (state before).lost then [] else Sent (output.Frame frame) ∷ []))) ⊎ ((status ≡ NO_MEMORY) × (waiting after ≡ []))
  pub latest : latest after ≡ None
  pub lost : (state before).lost ≡ true → status ≡ DONE
  pub stays : Stays before after

abbrev pub SendsBy : Option ℕ → Session → Frame → Session → ℕ → Type 0
SendsBy None before frame after status = Sends before frame after status
SendsBy (Some refusal) before frame after status = (status ≡ refusal) × (after ≡ before)

-- ---- inputs

-- The events of inputs are told, from what an observer saw before them. The first input is a frame with its time, or an action. If it is the
-- only one and ends an upload, the end that is told is right.
pub record TellsOf (before : Session) (first : Input) (inputs : List Input) (after : Session) : Type 0 where
  pub seen : Observer
  pub observed : IsObserving (state before) (time_of first) (frame_of first) seen
  pub told : TellsEvents seen (frame_of first) after.outputs.items after.terminal after.observer
  pub end : inputs ≡ first ∷ [] → TellsEndAfter (state before) first (upload_end after.terminal)

abbrev pub Tells : Session → List Input → Session → Type 0
Tells before [] after = ⊥
Tells before (first ∷ inputs) after = TellsOf before first (first ∷ inputs) after

-- The terminal has taken inputs, and keeps the promise of the headline: for any pools in force before, each run of macros ends within
-- the budgets of the report, the pools in force are those accepted last, and no drawing sticks. All outputs wait, and the events behind them.
pub record HasTaken (before : Session) (inputs : List Input) (after : Session) : Type 0 where
  pub steps : TakesInputs (state before) inputs (state after) [] after.outputs.items
  pub promise : (pools : Pools) → ArePoolsInForce pools (state before) → KeepsPromise pools (state before) inputs (state after) [] after.outputs.items
  pub events : Tells before inputs after
  pub all_wait : after.next ≡ 0
  pub screen : redraws after.terminal ≡ false → KeepsScreen (state before) (state after)
  pub look : LooksOn before.looks after.looks (KeepsPicture (state before) (state after))
  pub begun : after.begun ≡ before.begun
  pub text : after.text.items ≡ before.text.items

-- Memory was refused, and nothing is changed. No output waits. A terminal that lost its address needs no memory.
pub record LacksMemory (before after : Session) : Type 0 where
  pub not_lost : (state before).lost ≡ true → ⊥
  pub state : state after ≡ state before
  pub redraws : redraws after.terminal ≡ redraws before.terminal
  pub waiting : waiting after ≡ []
  pub latest : latest after ≡ None
  pub look : after.looks ≡ before.looks
  pub begun : after.begun ≡ before.begun
  pub text : after.text.items ≡ before.text.items

abbrev pub Takes : Session → List Input → Session → ℕ → Type 0
Takes before inputs after status = ((status ≡ DONE) × HasTaken before inputs after) ⊎ ((status ≡ NO_MEMORY) × LacksMemory before after)

-- the answer of a session that takes inputs
abbrev pub AnswersOpen : Session → Option Input → Session → ℕ → Type 0
AnswersOpen before None after status = (status ≡ NO_SUCH) × (after ≡ before)
AnswersOpen before (Some input) after status = Takes before (input ∷ []) after status

-- the answer to an input of a session that takes inputs, or refuses them with a status
abbrev pub AnswersBy : Option ℕ → Session → Option Input → Session → ℕ → Type 0
AnswersBy None before input after status = AnswersOpen before input after status
AnswersBy (Some refusal) before input after status = (status ≡ refusal) × (after ≡ before)

-- the answer to an input, or to numbers that are none
abbrev pub Answers : Session → Option Input → Session → ℕ → Type 0
Answers before input after status = AnswersBy (closed before) before input after status

-- Two inputs are taken, or memory was refused: then nothing is changed, or the first one alone is taken.
abbrev pub TakesBoth : Session → List Input → Session → ℕ → Type 0
TakesBoth before inputs after status =
    ((status ≡ DONE) × HasTaken before inputs after)
    ⊎ ((status ≡ NO_MEMORY) × (LacksMemory before after ⊎ HasTaken before (take 1 inputs) after))

-- the time, and then an input
abbrev pub input_at : Session → ℕ → Input → List Input
input_at before time input = tick_at before time ∷ input ∷ []

-- the answer of a session that takes inputs to a time with an input
abbrev pub AnswersAtOpen : Session → ℕ → Option Input → Session → ℕ → Type 0
AnswersAtOpen before time None after status = (status ≡ NO_SUCH) × (after ≡ before)
AnswersAtOpen before time (Some input) after status = TakesBoth before (input_at before time input) after status

abbrev pub AnswersAtBy : Option ℕ → Session → ℕ → Option Input → Session → ℕ → Type 0
AnswersAtBy None before time input after status = AnswersAtOpen before time input after status
AnswersAtBy (Some refusal) before time input after status = (status ≡ refusal) × (after ≡ before)

-- the answer to a time with an input, or with numbers that are none
abbrev pub AnswersAt : Session → ℕ → Option Input → Session → ℕ → Type 0
AnswersAt before time input after status = AnswersAtBy (closed before) before time input after status

-- the time of an action that happens at the latest time so far, without a tick
abbrev pub latest_time : ℕ
latest_time = 2 ^ 64 - 1

abbrev pub AnswersIf : Bool → Session → ℕ → Option Input → Session → ℕ → Type 0
AnswersIf true before time input after status = Answers before input after status
AnswersIf false before time input after status = AnswersAt before time input after status

-- the answer to an action at a time, or at the latest time so far
abbrev pub AnswersWhen : Session → ℕ → Option Input → Session → ℕ → Type 0
AnswersWhen before time input after status = AnswersIf (time == latest_time) before time input after status
