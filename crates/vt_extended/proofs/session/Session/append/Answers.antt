use Rattle.std.proofs.Common.{◌≡◌, ℕ, ◌+◌, ◌++◌, eqb, true, List, Some, None, take, sym, ap, ◌∙◌, eq-eqb}
use Rattle.vt_extended.specs.declared.messages.Reply.TheVariants.{End}
use Rattle.vt_extended.specs.Messages.{packet_count_of}
use Rattle.vt_extended.specs.SessionState.{SessionState}
use Rattle.vt_extended.specs.Steps.{SessionOutcome, is_next, after_packet}
use Rattle.vt_extended.proofs.session.Session.append.Goals as goal

whole_of : (s : SessionState) (now last number : ℕ) (packet bytes : List ℕ) → is_next s number ≡ true → s.received + 1 ≡ packet_count_of s.opening
    → bytes ≡ take s.opening.size (s.bytes ++ packet)
    → ◌≡◌ {A = SessionOutcome}
    (record { session = None; reply = Some (End s.opening.size s.opening.pgn); message = Some (record { pgn = s.opening.pgn; bytes = bytes }) })
    (after_packet now (record { last = last; session = s }) number packet)
whole_of s now last number packet bytes next whole is =
    let f : eqb (s.received + 1) (packet_count_of s.opening) ≡ true = eq-eqb _ _ whole in
    rw (next, f, is)

whole_from : (s self : SessionState) (now last number : ℕ) (packet bytes : List ℕ) → s ≡ self → is_next self number ≡ true → s.received + 1 ≡ packet_count_of s.opening
    → bytes ≡ take s.opening.size (s.bytes ++ packet)
    → ◌≡◌ {A = SessionOutcome}
    (record { session = None; reply = Some (End s.opening.size s.opening.pgn); message = Some (record { pgn = s.opening.pgn; bytes = bytes }) })
    (after_packet now (record { last = last; session = self }) number packet)
whole_from s self now last number packet bytes same next whole is =
    whole_of s now last number packet bytes (ap (λ (k : SessionState). is_next k number) same ∙ next) whole is
    ∙ ap (λ (k : SessionState). after_packet now (record { last = last; session = k }) number packet) same

pub returns-then-received-packets : goal.returns-then-received-packets
returns-then-received-packets c now last =
    let inside = c.self.inside in
    whole_from (record { opening = inside.opening; bytes = inside.bytes.items; received = inside.received; announced = inside.announced; arrived = inside.arrived; edge = inside.edge })
    _ now last _ _ _ c.self.view_is (sym c.is_next.ensures ∙ c.if-not-is_next.false) (c.if-received-packets.true ∙ c.packets.ensures)
    (c.new.ensures ∙ c.append_packet.ensures.items)
