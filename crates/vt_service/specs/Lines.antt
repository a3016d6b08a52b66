-- Lines of JSON, and those of outputs and events (docs/LIVE.md, "Outputs").
use Rattle.std.specs.declared.alloc.Global.{Global}
use Rattle.std.specs.Prelude.{ℕ, List, map, codes, Option, String, string_bytes}
use Rattle.serde_json.specs.Data.{Data, member, no_members, object, string}
use Rattle.serde_json.specs.Read.{read}
use Rattle.vt_can.specs.lines.WrittenForms.{frame_text}
use Rattle.vt_logs.specs.Texts.{refusal_name}
use Rattle.vt_server.specs.declared.output.Output.TheVariants.{Frame, Refused}
use Rattle.vt_session.specs.Outputs.{HostItem, Sent, Told}
use Rattle.vt_service.specs.Events.{event_data}
use Rattle.vt_service.specs.Values.{text_data}

-- what lines read as
abbrev pub lines_data : List (String Global) → List (Option Data)
lines_data lines = map (λ line. read (string_bytes line)) lines

-- an output or an event
abbrev pub item_data : HostItem → Data
item_data (Sent (Frame frame)) = object (member (codes "send") (text_data (frame_text frame)) no_members)
item_data (Sent (Refused fault)) = object (member (codes "refused") (string (refusal_name fault)) no_members)
item_data (Told event) = event_data event
