-- What commands do (docs/LIVE.md, "Commands").
use Rattle.std.specs.Borrow.{Bor}
use Rattle.std.specs.Prelude.{◌≡◌, ℕ, List, Some}
use Rattle.vt_can.specs.declared.lines.line.Action.TheVariants as actions
use Rattle.vt_server.specs.declared.input.Input.TheVariants.{Frame, Operator}
use Rattle.vt_session.specs.declared.session.Session.{Session}
use Rattle.vt_session.specs.Calls.{Claims, SendsStatus, Ticks}
use Rattle.vt_session.specs.Preloads.{Preloads}
use Rattle.vt_session.specs.Sessions.{Answers, AnswersWhen, Begins}
use Rattle.vt_session.specs.Statuses.{DONE}
use Rattle.vt_service.specs.declared.request.Command.{Command}
use Rattle.vt_service.specs.declared.request.Command.TheVariants as commands

-- A text of the operator is taken at a time, or at the latest time so far, or refused with a status.
pub record EntersText (before : Session) (time object : ℕ) (bytes : List ℕ) (after : Session) (status : ℕ) : Type 0 where
  pub text : Bor (List ℕ)
  pub bytes_are : text.now ≡ bytes
  pub answers : AnswersWhen before time (Some (Operator (actions.Text object text))) after status

-- A command is done, or refused with a status.
abbrev pub Does : Session → Command → Session → ℕ → Type 0
Does before (commands.Begin own name profile) after status = (status ≡ DONE) × Begins own name profile after
Does before (commands.Preload address pool) after status = Preloads before address pool.items after status
Does before (commands.Frame time frame) after status = Answers before (Some (Frame time frame)) after status
Does before (commands.Tick time) after status = Ticks before time after status
Does before (commands.Act time action) after status = AnswersWhen before time (Some (Operator action)) after status
Does before (commands.Text time object text) after status = EntersText before time object text.items after status
Does before commands.Claim after status = Claims before after status
Does before commands.Status after status = SendsStatus before after status
