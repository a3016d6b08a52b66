-- Outputs and events in numbers (docs/EMBEDDING.md, "Outputs", "Events").
use Rattle.std.specs.Prelude.{ℕ, List, [], ◌∷◌, drop, get_or, length, Option, Some, None}
use Rattle.byteorder.specs.Endian.{little_number}
use Rattle.vt_host_events.specs.declared.event.HostEvent.{HostEvent}
use Rattle.vt_session.specs.Events.{address_of_event, kind_of_event, numbers_of_event}
use Rattle.vt_machine.specs.declared.operator.OperatorRefusal.{OperatorRefusal}
use Rattle.vt_machine.specs.declared.operator.OperatorRefusal.TheVariants.{NotShown, Disabled, Range, TooLong, WrongKind, NotPressed, Held}
use Rattle.vt_server.specs.declared.output.OperatorFault.{OperatorFault}
use Rattle.vt_server.specs.declared.output.OperatorFault.TheVariants as faults
use Rattle.vt_server.specs.declared.output.Output.{Output}
use Rattle.vt_server.specs.declared.output.Output.TheVariants.{Frame, Refused}

-- what a host takes: an output of the terminal, or an event
pub data HostItem : Type 0 where
  Sent : (output : Output) → HostItem
  Told : (event : HostEvent) → HostItem

-- 1 for a frame, 2 for a refusal to the operator, 3 for an event
abbrev pub kind_of_output : Output → ℕ
kind_of_output (Frame frame) = 1
kind_of_output (Refused fault) = 2

abbrev pub kind_of : HostItem → ℕ
kind_of (Sent output) = kind_of_output output
kind_of (Told event) = 3

-- the number of a refusal
abbrev pub refusal_number : OperatorRefusal → ℕ
refusal_number NotShown = 1
refusal_number Disabled = 2
refusal_number Range = 3
refusal_number TooLong = 4
refusal_number WrongKind = 5
refusal_number NotPressed = 6
refusal_number Held = 7

abbrev pub fault_number : OperatorFault → ℕ
fault_number (faults.Refused refusal) = refusal_number refusal
fault_number faults.Busy = 8
fault_number faults.NoSet = 9

-- the identifier of a frame, the number of a refusal, or the kind of an event
abbrev pub id_of : Option HostItem → ℕ
id_of None = 0
id_of (Some (Sent (Frame frame))) = frame.id
id_of (Some (Sent (Refused fault))) = fault_number fault
id_of (Some (Told event)) = kind_of_event event

-- the number of data bytes, or the address of an event
abbrev pub count_of : Option HostItem → ℕ
count_of None = 0
count_of (Some (Sent (Frame frame))) = length frame.bytes.items
count_of (Some (Sent (Refused fault))) = 0
count_of (Some (Told event)) = address_of_event event

-- the first eight of some bytes, and 0 for each past the end
abbrev pub eight_of : List ℕ → List ℕ
eight_of bytes =
    get_or bytes 0 0 ∷ get_or bytes 1 0 ∷ get_or bytes 2 0 ∷ get_or bytes 3 0
    ∷ get_or bytes 4 0 ∷ get_or bytes 5 0 ∷ get_or bytes 6 0 ∷ get_or bytes 7 0 ∷ []

-- eight bytes from an index on as a number, the first lowest
abbrev pub word_at : List ℕ → ℕ → ℕ
word_at bytes at = little_number 8 (eight_of (drop at bytes))

-- the data bytes, or the numbers of an event
abbrev pub data_of : Option HostItem → ℕ
data_of None = 0
data_of (Some (Sent (Frame frame))) = word_at frame.bytes.items 0
data_of (Some (Sent (Refused fault))) = 0
data_of (Some (Told event)) = numbers_of_event event
