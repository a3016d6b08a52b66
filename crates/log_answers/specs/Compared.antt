-- What a comparison looks at: each message of the recorded terminal but for a repeated status, and each message of this one
-- (docs/PROFILE.md, "Answers").
use Rattle.std.specs.Prelude.{◌≡◌, ◌≢◌, ℕ, List, [], ◌∷◌, ◌++◌, Some}
use Rattle.log_answers.specs.declared.said.Said.{Said}
use Rattle.log_answers.specs.Conversations.{recorded_in}
use Rattle.log_answers.specs.Messages.{said_by}
use Rattle.vt_can.specs.Assigned.{VT_STATUS}
use Rattle.vt_can.specs.declared.frames.frame.Frame.{Frame}
use Rattle.vt_can.specs.frames.Identifier.{parts_of, pgn_of, destination_of}
use Rattle.vt_server.specs.declared.output.Output.{Output}
use Rattle.vt_server.specs.declared.output.Output.TheVariants as outputs

-- a message of a terminal: a frame of the parameter group E600 with its two addresses, and at least the byte of the function
pub record IsMessage (frame : Frame) (source destination function : ℕ) (rest : List ℕ) : Type 0 where
  pub group : pgn_of (parts_of frame.id) ≡ 0xE600
  pub sender : (parts_of frame.id).source ≡ source
  pub receiver : destination_of (parts_of frame.id) ≡ Some destination
  pub bytes : frame.bytes.items ≡ function ∷ rest

-- a message at a line is compared with all its bytes, on a topic of its own destination and function
pub record IsComparedAs (said : Said) (line time : ℕ) (frame : Frame) (destination function : ℕ) : Type 0 where
  pub at_line : said.line ≡ line
  pub at_time : said.time ≡ time
  pub to : said.topic.destination ≡ destination
  pub of : said.topic.function ≡ function
  pub whole : said.bytes ≡ frame.bytes

-- a list has this message alone
pub record IsAlone (found : List Said) (line time : ℕ) (frame : Frame) (destination function : ℕ) : Type 0 where
  pub said : Said
  pub found_is : found ≡ said ∷ []
  pub compared : IsComparedAs said line time frame destination function

-- Each message of the recorded terminal is an answer, unless it is a status with the bytes of the one before. Each message among the
-- outputs of this terminal is a question, at its place. What is an answer is a message of the recorded terminal.
pub record EachMessageIsCompared : Type 0 where
  pub answers : (own line time : ℕ) (status : List ℕ) (frame : Frame) (destination function : ℕ) (rest : List ℕ)
      → IsMessage frame own destination function rest → (function ≡ VT_STATUS → function ∷ rest ≢ status)
      → IsAlone (recorded_in own line time status frame) line time frame destination function
  pub questions : (line time : ℕ) (before after : List Output) (frame : Frame) (source destination function : ℕ) (rest : List ℕ)
      → IsMessage frame source destination function rest
      → (said : Said) × IsComparedAs said line time frame destination function
      × (said_by line time (before ++ outputs.Frame frame ∷ after) ≡ said_by line time before ++ said ∷ said_by line time after)
  pub nothing_else : (own line time : ℕ) (status : List ℕ) (frame : Frame) → recorded_in own line time status frame ≢ []
      → (pgn_of (parts_of frame.id) ≡ 0xE600) × ((parts_of frame.id).source ≡ own)
