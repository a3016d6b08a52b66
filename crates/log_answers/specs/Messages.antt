-- Messages of a terminal at the lines of a log (docs/PROFILE.md, "Answers").
use Rattle.std.specs.Prelude.{ℕ, Bool, Option, None, List}
use Rattle.std.specs.List.{filter, filter_map}
use Rattle.std.specs.Option.{option_map}
use Rattle.log_answers.specs.declared.said.Said.{Said}
use Rattle.log_answers.specs.declared.topic.Topic.{Topic}
use Rattle.log_answers.specs.Topics.{same_topic, topic_of}
use Rattle.vt_can.specs.declared.frames.frame.Frame.{Frame}
use Rattle.vt_server.specs.declared.output.Output.{Output}
use Rattle.vt_server.specs.declared.output.Output.TheVariants as outputs

-- the message of a frame at a line, if the frame has a topic
abbrev pub said_in : ℕ → ℕ → Frame → Option Said
said_in line time frame = option_map (λ topic. record { line = line; time = time; topic = topic; bytes = frame.bytes }) (topic_of frame)

-- what a terminal says with an output at a line: refusals to the operator say nothing
abbrev pub said_with : ℕ → ℕ → Output → Option Said
said_with line time (outputs.Frame frame) = said_in line time frame
said_with line time (outputs.Refused fault) = None

-- what it says with all its outputs at a line
abbrev pub said_by : ℕ → ℕ → List Output → List Said
said_by line time sent = filter_map (said_with line time) sent

-- ---- on a topic

abbrev pub is_on : Topic → Said → Bool
is_on topic said = same_topic said.topic topic

-- the messages on a topic, in their order
abbrev pub on_topic : Topic → List Said → List Said
on_topic topic messages = filter (is_on topic) messages
