-- Answers (docs/LIVE.md, "Answers").
use Rattle.std.specs.Prelude.{◌≡◌, ℕ, ◌==◌, if◌then◌else◌, List, codes, Option}
use Rattle.serde_json.specs.Data.{Data, boolean, member, no_members, object, string}
use Rattle.vt_can.specs.transport.FirstTimes.{IsFirstTime}
use Rattle.vt_server.specs.frame.Deadlines.{IsDue}
use Rattle.vt_server.specs.shown.Screens.{redraws}
use Rattle.vt_session.specs.declared.session.Session.{Session}
use Rattle.vt_session.specs.Sessions.{state}
use Rattle.vt_session.specs.Statuses.{DONE, NO_MEMORY, NO_POOL, NO_SUCH, NOT_BEGUN}
use Rattle.vt_service.specs.Members.{member_name}
use Rattle.vt_service.specs.Values.{number_data, number_or_null}
use Rattle.vt_service.specs.declared.answers.Told.{Told}
use Rattle.vt_service.specs.declared.members.Malformed.{Malformed}
use Rattle.vt_service.specs.declared.members.Malformed.TheVariants.{NoMemory, NotJson, UnknownRequest, WrongMember}

-- what became of a command, by its status
abbrev pub result_name : ℕ → List ℕ
result_name status =
    if status == DONE then codes "done"
    else if status == NO_MEMORY then codes "no-memory"
    else if status == NO_POOL then codes "no-pool"
    else if status == NOT_BEGUN then codes "not-begun"
    else if status == NO_SUCH then codes "no-such"
    else codes "unknown-status"

-- what a host asks of the terminal of a session
pub record IsTold (session : Session) (told : Told) : Type 0 where
  pub deadline : IsFirstTime (IsDue (state session)) told.deadline
  pub look : told.look ≡ session.looks
  pub lost : told.lost ≡ (state session).lost
  pub redraws : told.redraws ≡ redraws session.terminal
  pub shown : told.shown ≡ (state session).shown

-- the answer to a command
abbrev pub command_data : Option ℕ → ℕ → Told → Data
command_data number status told =
    object (member (codes "answer") (number_or_null number) (member (codes "deadline") (number_or_null told.deadline)
    (member (codes "look") (number_data told.look) (member (codes "lost") (boolean told.lost)
    (member (codes "redraws") (boolean told.redraws) (member (codes "result") (string (result_name status))
    (member (codes "shown") (number_or_null told.shown) no_members)))))))

-- the answer to a command, from the session after it
pub record IsAnswer (number : Option ℕ) (status : ℕ) (session : Session) (d : Data) : Type 0 where
  pub told : Told
  pub is_told : IsTold session told
  pub whole : d ≡ command_data number status told

-- the answer to a question
abbrev pub answer_data : Option ℕ → Data → Data
answer_data number value =
    object (member (codes "answer") (number_or_null number) (member (codes "result") (string (codes "done"))
    (member (codes "value") value no_members)))

abbrev pub plain_refusal : Option ℕ → List ℕ → Data
plain_refusal number name = object (member (codes "answer") (number_or_null number) (member (codes "result") (string name) no_members))

-- the answer to a line that is no request
abbrev pub refusal_data : Option ℕ → Malformed → Data
refusal_data number NoMemory = plain_refusal number (codes "no-memory")
refusal_data number NotJson = plain_refusal number (codes "not-json")
refusal_data number UnknownRequest = plain_refusal number (codes "unknown-request")
refusal_data number (WrongMember wrong) =
    object (member (codes "answer") (number_or_null number) (member (codes "member") (string (member_name wrong))
    (member (codes "result") (string (codes "wrong-member")) no_members)))
