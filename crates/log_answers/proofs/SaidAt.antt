-- What is said at a line is of this line and of its time.
use Rattle.std.proofs.Common.{ℕ, Bool, true, false, cond, List, [], ◌∷◌, Option, Some, None, refl}
use Rattle.std.specs.List.{cons_option}
use Rattle.std.specs.Option.{option_map, option_to_list}
use Rattle.log_answers.specs.Conversations.{is_message_of, recorded_by, repeats}
use Rattle.log_answers.specs.declared.said.Said.{Said}
use Rattle.log_answers.specs.declared.topic.Topic.{Topic}
use Rattle.log_answers.specs.Messages.{said_by, said_in}
use Rattle.log_answers.specs.Topics.{topic_of}
use Rattle.log_answers.proofs.OpenInOrder.{AreAt}
use Rattle.vt_can.specs.declared.frames.frame.Frame.{Frame}
use Rattle.vt_can.specs.lines.Readings.{FrameAt, OperatorAction, SkippedFrame, CommentLine}
use Rattle.vt_logs.specs.Texts.{LineReading}
use Rattle.vt_server.specs.declared.output.Output.{Output}
use Rattle.vt_server.specs.declared.output.Output.TheVariants as outputs
use Rattle.std.proofs.Common.{Ok, Err}

said-or-not : (line time : ℕ) (frame : Frame) (topic : Option Topic) (rest : List Said) → AreAt line time rest
    → AreAt line time (cons_option (option_map (λ (t : Topic). record { line = line; time = time; topic = t; bytes = frame.bytes }) topic) rest)
said-or-not line time frame None rest at = at
said-or-not line time frame (Some topic) rest at = ((refl, refl), at)

pub said_by-at : (line time : ℕ) (sent : List Output) → AreAt line time (said_by line time sent)
said_by-at line time [] = tt
said_by-at line time (outputs.Frame frame ∷ sent) = said-or-not line time frame (topic_of frame) (said_by line time sent) (said_by-at line time sent)
said_by-at line time (outputs.Refused fault ∷ sent) = said_by-at line time sent

said-alone : (line time : ℕ) (frame : Frame) (topic : Option Topic)
    → AreAt line time (option_to_list (option_map (λ (t : Topic). record { line = line; time = time; topic = t; bytes = frame.bytes }) topic))
said-alone line time frame None = tt
said-alone line time frame (Some topic) = ((refl, refl), tt)

recorded-or-not : (line time : ℕ) (frame : Frame) (is_message is_repeated : Bool) → AreAt line time (cond is_message (cond is_repeated [] (option_to_list (said_in line time frame))) [])
recorded-or-not line time frame false is_repeated = tt
recorded-or-not line time frame true true = tt
recorded-or-not line time frame true false = said-alone line time frame (topic_of frame)

pub recorded_by-at : (own line now : ℕ) (status : List ℕ) (reading : LineReading) → AreAt line now (recorded_by own line now status reading)
recorded_by-at own line now status (Ok (FrameAt time frame)) = recorded-or-not line now frame (is_message_of own frame) (repeats status frame)
recorded_by-at own line now status (Ok (OperatorAction action)) = tt
recorded_by-at own line now status (Ok (SkippedFrame why)) = tt
recorded_by-at own line now status (Ok CommentLine) = tt
recorded_by-at own line now status (Err fault) = tt
