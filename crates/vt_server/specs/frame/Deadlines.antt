-- A tick, and the time from which a tick does anything (docs/PROFILE.md, "Ticks").
use Rattle.std.specs.Prelude.{◌≡◌, ◌⊎◌, ℕ, max, Bool, true, false, ◌&&◌, nat_eq, []}
use Rattle.std.specs.Option.{option_eq}
use Rattle.vt_can.specs.Assigned.{GLOBAL_ADDRESS, TP_TIMEOUT, ETP_TIMEOUT, SENDER_TIMEOUT}
use Rattle.vt_can.specs.declared.frames.frame.Frame.{Frame}
use Rattle.vt_can.specs.transport.Sessions.{is_overdue}
use Rattle.vt_node.specs.Messages.{message_to}
use Rattle.vt_node.specs.Watches.{SomeAwaited, SomeSilent}
use Rattle.vt_server.specs.shown.ShownSet.{selected_now, shown_now}
use Rattle.vt_server.specs.state.AddressStates.{AddressState}
use Rattle.vt_server.specs.Terminals.{State}

-- the frame of a tick: an echo without data
abbrev pub echo : ℕ → Frame
echo own = message_to own GLOBAL_ADDRESS []

-- some address has a session that is overdue
abbrev pub HasOverdueAt : (ℕ → AddressState) → ℕ → Type 0
HasOverdueAt places now =
    (((a : ℕ) × (is_overdue TP_TIMEOUT now (places a).tp ≡ true)) ⊎ ((a : ℕ) × (is_overdue ETP_TIMEOUT now (places a).etp ≡ true)))
    ⊎ ((a : ℕ) × (is_overdue SENDER_TIMEOUT now (places a).sending ≡ true))

-- the selected set and the shown set are those that would be chosen now
abbrev pub is_settled : State → Bool
is_settled s = option_eq nat_eq s.selected (selected_now s) && option_eq nat_eq s.shown (shown_now s)

-- At this time a session is overdue or a set is silent.
abbrev pub IsLate : State → ℕ → Type 0
IsLate s now = HasOverdueAt s.places now ⊎ SomeSilent (λ a. (s.places a).heard) s.sets now

-- A tick at this time does something, or at any later time of the terminal: another set would be shown or selected, the silence
-- of an address begins, a session is overdue, or a set is silent.
abbrev pub IsDue : State → ℕ → Type 0
IsDue s time = (s.lost ≡ false) × ((is_settled s ≡ false) ⊎ (SomeAwaited (λ a. (s.places a).heard) ⊎ IsLate s (max s.now time)))
