-- How much of a message has arrived from an address, in one of the two protocols (docs/PROFILE.md, "Transport").
use Rattle.std.specs.Prelude.{ℕ, ◌==◌, if◌then◌else◌, Option}
use Rattle.vt_can.specs.declared.transport.sessions.Timed.{Timed}
use Rattle.vt_transport.specs.Arrivals as tp
use Rattle.vt_transport.specs.SessionState as tp_session
use Rattle.vt_extended.specs.Arrivals as etp
use Rattle.vt_extended.specs.SessionState as etp_session

-- the number of bytes so far and the size of a message of a parameter group that begins with a byte; of two, the one in the extended protocol
abbrev pub arrived_at : ℕ → ℕ → Option (Timed tp_session.SessionState) → Option (Timed etp_session.SessionState) → ℕ × ℕ
arrived_at pgn first short long =
    if (etp.arrived_in pgn first long).1 == 0 then tp.arrived_in pgn first short else etp.arrived_in pgn first long
