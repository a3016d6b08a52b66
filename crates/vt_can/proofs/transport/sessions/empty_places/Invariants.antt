use Rattle.std.proofs.Common.{◌≡◌, ℕ, None, length, get_or}
use Rattle.vt_can.proofs.transport.sessions.empty_places.Given as goal

abbrev pub invariant-loop-address : goal.invariant-loop-address
invariant-loop-address g l = record {
  size : length l.places.items ≡ l._address;
  empty : (q : ℕ) → get_or l.places.items q None ≡ None;
}
