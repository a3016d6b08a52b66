-- The ETP session of a source as a value.
use Rattle.std.specs.Prelude.{ℕ, List, refl}
use Rattle.std.specs.Coded.{Coded, code_by, coded×, coded_ℕ, coded_list}
use Rattle.vt_extended.specs.declared.messages.Opening.{Opening}

-- A session: its RTS; the bytes and the number of packets received; the number of packets announced by the
-- last DPO, and of those received since; and the last open packet.
pub record SessionState : Type 0 where
  pub opening : Opening
  pub bytes : List ℕ
  pub received : ℕ
  pub announced : ℕ
  pub arrived : ℕ
  pub edge : ℕ

abbrev pub opening_code : Coded Opening
opening_code = code_by (ℕ × ℕ) (coded× coded_ℕ coded_ℕ) (λ o. (o.size, o.pgn)) (λ p. record { size = p.0; pgn = p.1 }) (λ _. refl)

abbrev pub session_state_code : Coded SessionState
session_state_code =
    code_by (Opening × (List ℕ × (ℕ × (ℕ × (ℕ × ℕ)))))
    (coded× opening_code (coded× (coded_list coded_ℕ) (coded× coded_ℕ (coded× coded_ℕ (coded× coded_ℕ coded_ℕ)))))
    (λ k. (k.opening, (k.bytes, (k.received, (k.announced, (k.arrived, k.edge))))))
    (λ p. record { opening = p.0; bytes = p.1.0; received = p.1.1.0; announced = p.1.1.1.0; arrived = p.1.1.1.1.0; edge = p.1.1.1.1.1 })
    (λ _. refl)
