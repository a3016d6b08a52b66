-- The TP session of a source as a value.
use Rattle.std.specs.Prelude.{ℕ, List, refl}
use Rattle.std.specs.Coded.{Coded, code_by, coded×, coded_ℕ, coded_list}
use Rattle.vt_transport.specs.declared.messages.Opening.{Opening}

-- a session: its RTS, and the bytes and the number of packets received
pub record SessionState : Type 0 where
  pub opening : Opening
  pub bytes : List ℕ
  pub received : ℕ

abbrev pub opening_code : Coded Opening
opening_code =
    code_by (ℕ × (ℕ × (ℕ × ℕ))) (coded× coded_ℕ (coded× coded_ℕ (coded× coded_ℕ coded_ℕ)))
    (λ o. (o.size, (o.packets, (o.most, o.pgn)))) (λ p. record { size = p.0; packets = p.1.0; most = p.1.1.0; pgn = p.1.1.1 }) (λ _. refl)

abbrev pub session_state_code : Coded SessionState
session_state_code =
    code_by (Opening × (List ℕ × ℕ)) (coded× opening_code (coded× (coded_list coded_ℕ) coded_ℕ))
    (λ k. (k.opening, (k.bytes, k.received))) (λ p. record { opening = p.0; bytes = p.1.0; received = p.1.1 }) (λ _. refl)
