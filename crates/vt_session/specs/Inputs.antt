-- The inputs of a terminal in numbers (docs/EMBEDDING.md, "Inputs").
use Rattle.std.specs.Prelude.{ℕ, ◌==◌, ◌&&◌, ◌^◌, nat_le, nat_lt, if◌then◌else◌, List, [], ◌∷◌, take, Option, Some, None}
use Rattle.std.specs.Borrow.{Bor}
use Rattle.byteorder.specs.Endian.{little_bytes}
use Rattle.vt_can.specs.declared.frames.frame.Frame.{Frame as CanFrame}
use Rattle.vt_can.specs.declared.lines.line.Action.{Action}
use Rattle.vt_can.specs.declared.lines.line.Action.TheVariants.{Press, Release, Select, Number, Text, Set}
use Rattle.vt_server.specs.declared.input.Input.{Input}
use Rattle.vt_server.specs.declared.input.Input.TheVariants.{Frame, Operator}
use Rattle.vt_server.specs.frame.Deadlines.{echo}
use Rattle.vt_server.specs.States.{state_of}
use Rattle.vt_session.specs.declared.session.Session.{Session}

-- a frame with an identifier of 29 bits and the first bytes of a number, at most eight
abbrev pub frame_input : ℕ → ℕ → ℕ → ℕ → Option Input
frame_input time id count bits =
    if nat_le count 8 && nat_lt id (2 ^ 29)
    then Some (Frame time (record { id = id; bytes = record { items = take count (little_bytes 8 bits) } }))
    else None

-- the input of a tick: an echo
abbrev pub tick_at : Session → ℕ → Input
tick_at session time = Frame time (echo (state_of session.terminal).claims.own)

abbrev pub ticks : Session → ℕ → List Input
ticks session time = tick_at session time ∷ []

abbrev pub tick_input : Session → ℕ → Option Input
tick_input session time = Some (tick_at session time)

-- the actions by their numbers: press, release, select, number and set
abbrev pub action_by : ℕ → ℕ → ℕ → Option Action
action_by kind id number =
    if kind == 0 then Some (Press id)
    else if kind == 1 then Some (Release id)
    else if kind == 2 then Some (Select id)
    else if kind == 3 then Some (Number id number)
    else if kind == 4 then (if nat_lt number (2 ^ 8) then Some (Set number) else None)
    else None

abbrev pub operator_input : Option Action → Option Input
operator_input None = None
operator_input (Some action) = Some (Operator action)

-- an action on the object of an ID of 16 bits
abbrev pub action_input : ℕ → ℕ → ℕ → Option Input
action_input kind id number = operator_input (if nat_lt id (2 ^ 16) then action_by kind id number else None)

-- a text for the object of an ID of 16 bits
abbrev pub text_input : ℕ → Bor (List ℕ) → Option Input
text_input id text = operator_input (if nat_lt id (2 ^ 16) then Some (Text id text) else None)

-- ---- the moment of an input

abbrev pub time_of : Input → Option ℕ
time_of (Frame time frame) = Some time
time_of (Operator action) = None

abbrev pub frame_of : Input → Option CanFrame
frame_of (Frame time frame) = Some frame
frame_of (Operator action) = None
