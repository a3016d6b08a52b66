-- What becomes of a line (docs/LIVE.md).
use Rattle.std.specs.Prelude.{◌≡◌, ◌⊎◌, ◌<◌, ℕ, List, [], ◌∷◌, ◌++◌, length, map, codes, Option, Some, None, IsUtf8, option_and_then}
use Rattle.serde_json.specs.Data.{Data}
use Rattle.serde_json.specs.Find.{as_number, as_u64, get}
use Rattle.serde_json.specs.Read.{read}
use Rattle.vt_session.specs.declared.session.Session.{Session}
use Rattle.vt_session.specs.Outputs.{HostItem}
use Rattle.vt_session.specs.Sessions.{Stays, state, waiting}
use Rattle.vt_service.specs.Answers.{IsAnswer, answer_data, refusal_data}
use Rattle.vt_service.specs.Asking.{IsValue}
use Rattle.vt_service.specs.Commands.{Does}
use Rattle.vt_service.specs.Lines.{item_data}
use Rattle.vt_service.specs.Requests.{IsRefused, Reads}
use Rattle.vt_service.specs.declared.members.Malformed.{Malformed}
use Rattle.vt_service.specs.declared.members.Malformed.TheVariants.{NoMemory, NotJson}
use Rattle.vt_service.specs.declared.request.Command.{Command}
use Rattle.vt_service.specs.declared.request.Question.{Question}
use Rattle.vt_service.specs.declared.request.Request.TheVariants as requests

-- the number of a request, if it has one
abbrev pub number_of : Data → Option ℕ
number_of d = option_and_then as_u64 (option_and_then as_number (get (codes "id") d))

-- A command is done: its outputs and events are told, in their order, and then its answer. `told` is what the lines read as.
pub record IsDone (before : Session) (command : Command) (number : Option ℕ) (after : Session) (told : List (Option Data)) : Type 0 where
  pub mid : Session
  pub status : ℕ
  pub does : Does before command mid status
  pub stays : Stays mid after
  pub answer : Data
  pub answers : IsAnswer number status after answer
  pub lines : told ≡ map (λ item. Some (item_data item)) (waiting mid) ++ Some answer ∷ []

-- A question is answered, or memory was refused.
abbrev pub IsAsked : Session → Option ℕ → Question → List (Option Data) → List (Option Data) → Type 0
IsAsked session number question old new =
    ((value : Data) × IsValue (state session) question value × (new ≡ old ++ Some (answer_data number value) ∷ []))
    ⊎ (new ≡ old ++ Some (refusal_data number NoMemory) ∷ [])

-- What a value that was read does to the session, and what is told. A question, or a command with bytes, can be refused for want of memory.
pub data IsServed (d : Data) (before : Session) : Session → List (Option Data) → Type 0 where
  done : (command : Command) (after : Session) (told : List (Option Data)) → Reads d (requests.Command command)
      → IsDone before command (number_of d) after told → IsServed d before after told
  answered : (question : Question) (value : Data) → Reads d (requests.Question question) → IsValue (state before) question value
      → IsServed d before before (Some (answer_data (number_of d) value) ∷ [])
  unanswered : (question : Question) → Reads d (requests.Question question) → IsServed d before before (Some (refusal_data (number_of d) NoMemory) ∷ [])
  refused : (why : Malformed) → IsRefused d why → IsServed d before before (Some (refusal_data (number_of d) why) ∷ [])

-- What a line does to the session, and what is told.
pub data IsAnswered (line : List ℕ) (before : Session) : Session → List (Option Data) → Type 0 where
  served : (d : Data) (after : Session) (told : List (Option Data)) → IsUtf8 line → read line ≡ Some d → IsServed d before after told
      → IsAnswered line before after told
  not_json : (IsUtf8 line → read line ≡ None) → IsAnswered line before before (Some (refusal_data None NotJson) ∷ [])
  no_memory : 0 < length line → IsAnswered line before before (Some (refusal_data None NoMemory) ∷ [])

-- The lines of the answer are appended, and no output waits.
pub record Serves (before : Session) (line : List ℕ) (after : Session) (old new : List (Option Data)) : Type 0 where
  pub told : List (Option Data)
  pub answered : IsAnswered line before after told
  pub lines : new ≡ old ++ told
  pub taken : waiting after ≡ []
