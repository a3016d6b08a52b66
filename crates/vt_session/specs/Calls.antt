-- What each call does (docs/EMBEDDING.md, "Calls"): the session before it, its arguments, the session after it, and its result.
use Rattle.std.specs.Borrow.{Bor}
use Rattle.std.specs.Prelude.{◌≡◌, ◌⊎◌, ℕ, ◌-◌, ◌^◌, Bool, if◌then◌else◌, List, [], ◌∷◌, length, Option, Some, None, unwrap_or}
use Rattle.vt_can.specs.Assigned.{NULL_ADDRESS}
use Rattle.vt_can.specs.transport.FirstTimes.{IsFirstTime}
use Rattle.vt_node.specs.Messages.{claim_from}
use Rattle.vt_server.specs.frame.Deadlines.{IsDue}
use Rattle.vt_server.specs.shown.Screens.{IsScreenOf, redraws}
use Rattle.vt_server.specs.shown.ShownSet.{display, status_frame}
use Rattle.vt_session.specs.declared.session.Session.{Session}
use Rattle.vt_session.specs.Inputs.{action_input, frame_input, text_input, tick_input}
use Rattle.vt_session.specs.Outputs.{HostItem, kind_of, id_of, count_of, data_of, word_at}
use Rattle.vt_session.specs.Sessions.{Answers, AnswersWhen, SendsBy, Stays, closed, latest, state, waiting}

-- ---- inputs

abbrev pub Hears : Session → ℕ → ℕ → ℕ → ℕ → Session → ℕ → Type 0
Hears before time id count bits after status = Answers before (frame_input time id count bits) after status

abbrev pub Ticks : Session → ℕ → Session → ℕ → Type 0
Ticks before time after status = Answers before (tick_input before time) after status

abbrev pub Acts : Session → ℕ → ℕ → ℕ → ℕ → Session → ℕ → Type 0
Acts before time kind id number after status = AnswersWhen before time (action_input kind id number) after status

abbrev pub Texts : Session → ℕ → ℕ → Bor (List ℕ) → Session → ℕ → Type 0
Texts before time id text after status = AnswersWhen before time (text_input id text) after status

-- ---- frames that a host sends

abbrev pub Claims : Session → Session → ℕ → Type 0
Claims before after status = SendsBy (closed before) before (claim_from (state before).claims.own (state before).claims.name) after status

abbrev pub SendsStatus : Session → Session → ℕ → Type 0
SendsStatus before after status = SendsBy (closed before) before (status_frame (state before).claims.own (display (state before))) after status

-- ---- outputs

-- The next output or event is taken, if one waits.
abbrev pub NextsBy : List HostItem → Session → Session → ℕ → Type 0
NextsBy [] before after kind = (kind ≡ 0) × ((waiting after ≡ []) × (latest after ≡ None))
NextsBy (item ∷ rest) before after kind = (kind ≡ kind_of item) × ((waiting after ≡ rest) × (latest after ≡ Some item))

pub record Nexts (before after : Session) (kind : ℕ) : Type 0 where
  pub taken : NextsBy (waiting before) before after kind
  pub stays : Stays before after

abbrev pub TellsId : Session → Session → ℕ → Type 0
TellsId before after id = (after ≡ before) × (id ≡ id_of (latest before))

abbrev pub TellsCount : Session → Session → ℕ → Type 0
TellsCount before after count = (after ≡ before) × (count ≡ count_of (latest before))

abbrev pub TellsData : Session → Session → ℕ → Type 0
TellsData before after bits = (after ≡ before) × (bits ≡ data_of (latest before))

-- ---- the screen

-- The text of the screen is drawn, or memory was refused, and there is no text.
pub record Draws (before after : Session) (count : ℕ) : Type 0 where
  pub drawn : ((count ≡ length after.text.items) × IsScreenOf (state before) after.text.items) ⊎ ((count ≡ 2 ^ 64 - 1) × (after.text.items ≡ []))
  pub state : state after ≡ state before
  pub redraws : redraws after.terminal ≡ redraws before.terminal
  pub waiting : waiting after ≡ waiting before
  pub latest : latest after ≡ latest before
  pub looks : after.looks ≡ before.looks
  pub begun : after.begun ≡ before.begun

abbrev pub TellsWord : Session → ℕ → Session → ℕ → Type 0
TellsWord before at after word = (after ≡ before) × (word ≡ word_at before.text.items at)

-- ---- what a host asks

abbrev pub number_of : Bool → ℕ
number_of b = if b then 1 else 0

abbrev pub TellsRedraws : Session → Session → ℕ → Type 0
TellsRedraws before after result = (after ≡ before) × (result ≡ number_of (redraws before.terminal))

abbrev pub TellsLooks : Session → Session → ℕ → Type 0
TellsLooks before after number = (after ≡ before) × (number ≡ before.looks)

abbrev pub TellsLost : Session → Session → ℕ → Type 0
TellsLost before after result = (after ≡ before) × (result ≡ number_of (state before).lost)

abbrev pub TellsShown : Session → Session → ℕ → Type 0
TellsShown before after address = (after ≡ before) × (address ≡ unwrap_or (state before).shown NULL_ADDRESS)

-- the first time at which a tick would do anything but move the time on
pub record TellsDeadline (before after : Session) (result : ℕ) : Type 0 where
  pub same : after ≡ before
  pub time : Option ℕ
  pub first : IsFirstTime (IsDue (state before)) time
  pub told : result ≡ unwrap_or time (2 ^ 64 - 1)
