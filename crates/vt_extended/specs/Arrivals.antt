-- How much of a message has arrived in a session (docs/PROFILE.md, "The ETP receiver").
use Rattle.std.specs.Prelude.{ℕ, ◌==◌, ◌&&◌, Bool, false, if◌then◌else◌, List, [], ◌∷◌, length, Option, Some, None}
use Rattle.vt_can.specs.declared.transport.sessions.Timed.{Timed}
use Rattle.vt_extended.specs.SessionState.{SessionState}

abbrev pub begins_with : ℕ → List ℕ → Bool
begins_with first [] = false
begins_with first (byte ∷ bytes) = byte == first

-- the number of bytes so far and the size as announced, of a message of a parameter group that begins with a byte
abbrev pub arrived_of : ℕ → ℕ → SessionState → ℕ × ℕ
arrived_of pgn first session =
    if (session.opening.pgn == pgn) && begins_with first session.bytes then (length session.bytes, session.opening.size) else (0, 0)

abbrev pub arrived_in : ℕ → ℕ → Option (Timed SessionState) → ℕ × ℕ
arrived_in pgn first None = (0, 0)
arrived_in pgn first (Some timed) = arrived_of pgn first timed.session
