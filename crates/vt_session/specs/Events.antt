-- Events for a host in numbers (docs/EMBEDDING.md, "Events").
use Rattle.std.specs.Prelude.{ℕ, ◌+◌, ◌-◌, ◌*◌, ◌^◌, min}
use Rattle.vt_records.specs.declared.fault.PoolFault.{PoolFault}
use Rattle.vt_records.specs.declared.fault.PoolFault.TheVariants as faults
use Rattle.vt_host_events.specs.declared.event.HostEvent.{HostEvent}
use Rattle.vt_host_events.specs.declared.event.HostEvent.TheVariants as events

-- a number in 32 bits, and one in 16 bits: the greatest one where it is too large
abbrev pub in_32 : ℕ → ℕ
in_32 n = min n (2 ^ 32 - 1)

abbrev pub in_16 : ℕ → ℕ
in_16 n = min n (2 ^ 16 - 1)

-- two numbers of 16 bits in one, the first lowest
abbrev pub pair : ℕ → ℕ → ℕ
pair low high = high * 2 ^ 16 + low

abbrev pub kind_of_event : HostEvent → ℕ
kind_of_event (events.SetCame address) = 1
kind_of_event (events.SetSilent address) = 2
kind_of_event (events.SetClosed address) = 3
kind_of_event (events.PoolAccepted address) = 4
kind_of_event (events.PoolUpdated address) = 5
kind_of_event (events.PoolFaulty address fault) = 6
kind_of_event (events.PoolRefused address rule) = 7
kind_of_event (events.PoolDeleted address) = 8
kind_of_event (events.Uploaded address progress) = 9
kind_of_event (events.TextAborted address) = 10
kind_of_event (events.Shown display) = 11
kind_of_event (events.Alarm alarm) = 12
kind_of_event (events.AlarmOver address) = 13
kind_of_event (events.Signal address signal) = 14
kind_of_event (events.Volume address percent) = 15
kind_of_event (events.AddressLost address) = 16

abbrev pub address_of_event : HostEvent → ℕ
address_of_event (events.SetCame address) = address
address_of_event (events.SetSilent address) = address
address_of_event (events.SetClosed address) = address
address_of_event (events.PoolAccepted address) = address
address_of_event (events.PoolUpdated address) = address
address_of_event (events.PoolFaulty address fault) = address
address_of_event (events.PoolRefused address rule) = address
address_of_event (events.PoolDeleted address) = address
address_of_event (events.Uploaded address progress) = address
address_of_event (events.TextAborted address) = address
address_of_event (events.Shown display) = display.address
address_of_event (events.Alarm alarm) = alarm.address
address_of_event (events.AlarmOver address) = address
address_of_event (events.Signal address signal) = address
address_of_event (events.Volume address percent) = address
address_of_event (events.AddressLost address) = address

-- two numbers of 32 bits in one, the first lowest
abbrev pub both : ℕ → ℕ → ℕ
both first second = second * 2 ^ 32 + first

-- the number of a fault with its offset
abbrev pub fault_numbers : PoolFault → ℕ
fault_numbers (faults.Truncated at) = both 1 (in_32 at)
fault_numbers (faults.UnknownType at) = both 2 (in_32 at)
fault_numbers (faults.LeftOutType at) = both 3 (in_32 at)
fault_numbers (faults.Scale at) = both 4 (in_32 at)
fault_numbers (faults.Decimals at) = both 5 (in_32 at)
fault_numbers (faults.OutOfMemory at) = both 6 (in_32 at)
fault_numbers (faults.NullId at) = both 7 (in_32 at)

-- the two numbers of an event
abbrev pub numbers_of_event : HostEvent → ℕ
numbers_of_event (events.PoolFaulty address fault) = fault_numbers fault
numbers_of_event (events.PoolRefused address rule) = both (pair rule.rule (in_16 rule.at)) (pair rule.object rule.other)
numbers_of_event (events.Uploaded address progress) = both (in_32 progress.came) (in_32 progress.announced)
numbers_of_event (events.Shown display) = both display.mask display.soft_keys
numbers_of_event (events.Alarm alarm) = both alarm.mask (pair alarm.priority alarm.acoustic)
numbers_of_event (events.Signal address signal) = both (pair signal.activations signal.frequency) (pair signal.on signal.off)
numbers_of_event (events.Volume address percent) = both percent 0
numbers_of_event (events.SetCame address) = 0
numbers_of_event (events.SetSilent address) = 0
numbers_of_event (events.SetClosed address) = 0
numbers_of_event (events.PoolAccepted address) = 0
numbers_of_event (events.PoolUpdated address) = 0
numbers_of_event (events.PoolDeleted address) = 0
numbers_of_event (events.TextAborted address) = 0
numbers_of_event (events.AlarmOver address) = 0
numbers_of_event (events.AddressLost address) = 0
