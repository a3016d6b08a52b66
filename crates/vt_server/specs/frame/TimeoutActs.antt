-- The acts at the time of a frame line: timeouts of sessions, then closings of silent sets (docs/PROFILE.md, "The order of a
-- step", "Timeouts", "Silence").
use Rattle.std.specs.Prelude.{ℕ, max, Bool, if◌then◌else◌, List, [], ◌∷◌, ◌++◌, map, filter, Option, Some, None}
use Rattle.vt_can.specs.Assigned.{TP_TIMEOUT, ETP_TIMEOUT, SENDER_TIMEOUT}
use Rattle.vt_can.specs.transport.Sessions.{each_below, is_overdue}
use Rattle.vt_names.specs.Registry.{Set}
use Rattle.vt_node.specs.Watches.{is_silent}
use Rattle.vt_server.specs.state.AddressViews.{Act, TpExpires, EtpExpires, SendingExpires, FallsSilent}
use Rattle.vt_server.specs.state.AddressStates.{watched}
use Rattle.vt_server.specs.Terminals.{State, Sent, after_acts, sent_by_acts}

-- The time of a frame line never goes back; the silence of preloaded addresses counts from it.
abbrev pub at_time : State → ℕ → State
at_time s time = record s { now = max s.now time; places = λ address. watched (max s.now time) (s.places address) }

abbrev pub set_is_silent : State → Set → Bool
set_is_silent s set = is_silent s.now (s.places set.address).heard

abbrev pub tp_due : State → List (ℕ × Act)
tp_due s = each_below (λ a. is_overdue TP_TIMEOUT s.now (s.places a).tp) TpExpires 256

abbrev pub etp_due : State → List (ℕ × Act)
etp_due s = each_below (λ a. is_overdue ETP_TIMEOUT s.now (s.places a).etp) EtpExpires 256

abbrev pub sending_due : State → List (ℕ × Act)
sending_due s = each_below (λ a. is_overdue SENDER_TIMEOUT s.now (s.places a).sending) SendingExpires 256

-- the closings of silent sets in order of registration
abbrev pub silences : State → List (ℕ × Act)
silences s = map (λ set. (set.address, FallsSilent)) (filter (set_is_silent s) s.sets)

-- the states after each group of timeouts in turn
abbrev pub after_tp_timeouts : State → State
after_tp_timeouts s = after_acts s (tp_due s)

abbrev pub after_etp_timeouts : State → State
after_etp_timeouts s = let t = after_tp_timeouts s in after_acts t (etp_due t)

abbrev pub after_timeouts : State → State
after_timeouts s = let t = after_etp_timeouts s in after_acts t (sending_due t)

unfoldable pub lapsed : State → State
lapsed s = let t = after_timeouts s in after_acts t (silences t)

-- the aborts of overdue sessions; nothing is sent for a silent set
unfoldable pub sent_by_lapses : State → List Sent
sent_by_lapses s =
    let t = after_tp_timeouts s in let u = after_etp_timeouts s in
    sent_by_acts s (tp_due s) ++ (sent_by_acts t (etp_due t) ++ sent_by_acts u (sending_due u))

-- the address of the first silent set in a list
abbrev pub first_silent : State → List Set → Option ℕ
first_silent s [] = None
first_silent s (set ∷ sets) = if set_is_silent s set then Some set.address else first_silent s sets
