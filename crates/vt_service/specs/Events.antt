-- Events as JSON (docs/LIVE.md, "Events"). Members have the order of their names.
use Rattle.std.specs.Prelude.{ℕ, List, codes, ◌==◌, if◌then◌else◌}
use Rattle.serde_json.specs.Data.{Data, member, no_members, null, object, string}
use Rattle.vt_can.specs.Assigned.{NULL_ADDRESS}
use Rattle.vt_host_events.specs.declared.event.Alarm.{Alarm}
use Rattle.vt_host_events.specs.declared.event.HostEvent.{HostEvent}
use Rattle.vt_host_events.specs.declared.event.HostEvent.TheVariants as events
use Rattle.vt_macros.specs.declared.audio.Signal.{Signal}
use Rattle.vt_records.specs.FaultTexts.{fault_text}
use Rattle.vt_records.specs.declared.fault.PoolFault.{PoolFault}
use Rattle.vt_server.specs.declared.sets.Progress.{Progress}
use Rattle.vt_server.specs.declared.shown.ShownMasks.{ShownMasks}
use Rattle.vt_server.specs.declared.upload_end.BrokenRule.{BrokenRule}
use Rattle.vt_service.specs.Values.{id_data, number_data}

-- an event without numbers
abbrev pub plain : List ℕ → ℕ → Data
plain name address = object (member (codes "address") (number_data address) (member (codes "event") (string name) no_members))

abbrev pub faulty : ℕ → PoolFault → Data
faulty address fault =
    object (member (codes "address") (number_data address) (member (codes "event") (string (codes "pool-faulty"))
    (member (codes "fault") (string (fault_text fault)) no_members)))

abbrev pub refused : ℕ → BrokenRule → Data
refused address rule =
    object (member (codes "address") (number_data address) (member (codes "event") (string (codes "pool-refused"))
    (member (codes "object") (id_data rule.object) (member (codes "offset") (number_data rule.at)
    (member (codes "other") (id_data rule.other) (member (codes "rule") (number_data rule.rule) no_members))))))

abbrev pub uploaded : ℕ → Progress → Data
uploaded address progress =
    object (member (codes "address") (number_data address) (member (codes "announced") (number_data progress.announced)
    (member (codes "event") (string (codes "uploaded")) (member (codes "received") (number_data progress.came) no_members))))

-- an address, or null for that of no node
abbrev pub address_data : ℕ → Data
address_data address = if address == NULL_ADDRESS then null else number_data address

abbrev pub shown : ShownMasks → Data
shown display =
    object (member (codes "address") (address_data display.address) (member (codes "event") (string (codes "shown"))
    (member (codes "mask") (id_data display.mask) (member (codes "soft_key_mask") (id_data display.soft_keys) no_members))))

abbrev pub alarm : Alarm → Data
alarm a =
    object (member (codes "address") (number_data a.address) (member (codes "event") (string (codes "alarm"))
    (member (codes "mask") (number_data a.mask) (member (codes "priority") (number_data a.priority)
    (member (codes "signal") (number_data a.acoustic) no_members)))))

abbrev pub signal : ℕ → Signal → Data
signal address s =
    object (member (codes "address") (number_data address) (member (codes "event") (string (codes "signal"))
    (member (codes "frequency") (number_data s.frequency) (member (codes "off") (number_data s.off)
    (member (codes "on") (number_data s.on) (member (codes "times") (number_data s.activations) no_members))))))

abbrev pub volume : ℕ → ℕ → Data
volume address percent =
    object (member (codes "address") (number_data address) (member (codes "event") (string (codes "volume"))
    (member (codes "percent") (number_data percent) no_members)))

abbrev pub event_data : HostEvent → Data
event_data (events.SetCame address) = plain (codes "set-came") address
event_data (events.SetSilent address) = plain (codes "set-silent") address
event_data (events.SetClosed address) = plain (codes "set-closed") address
event_data (events.PoolAccepted address) = plain (codes "pool-accepted") address
event_data (events.PoolUpdated address) = plain (codes "pool-updated") address
event_data (events.PoolFaulty address fault) = faulty address fault
event_data (events.PoolRefused address rule) = refused address rule
event_data (events.PoolDeleted address) = plain (codes "pool-deleted") address
event_data (events.Uploaded address progress) = uploaded address progress
event_data (events.TextAborted address) = plain (codes "text-aborted") address
event_data (events.Shown display) = shown display
event_data (events.Alarm a) = alarm a
event_data (events.AlarmOver address) = plain (codes "alarm-over") address
event_data (events.Signal address s) = signal address s
event_data (events.Volume address percent) = volume address percent
event_data (events.AddressLost address) = plain (codes "address-lost") address
