use Rattle.std.proofs.Common.{◌≡◌, ℕ, ◌+◌, ◌++◌, eqb, true, List, Some, None, take, sym, ap, ◌∙◌, eq-eqb}
use Rattle.vt_transport.specs.declared.messages.Reply.TheVariants.{End}
use Rattle.vt_transport.specs.SessionState.{SessionState}
use Rattle.vt_transport.specs.Steps.{SessionOutcome, after_packet}
use Rattle.vt_transport.proofs.session.Session.receive.Goals as goal

whole_of : (s : SessionState) (now last number : ℕ) (packet bytes : List ℕ) → number ≡ s.received + 1 → number ≡ s.opening.packets
    → bytes ≡ take s.opening.size (s.bytes ++ packet)
    → ◌≡◌ {A = SessionOutcome}
    (record { session = None; reply = Some (End s.opening.size s.opening.packets s.opening.pgn); message = Some (record { pgn = s.opening.pgn; bytes = bytes }) })
    (after_packet now (Some (record { last = last; session = s })) number packet)
whole_of s now last number packet bytes next whole is =
    let e : eqb number (s.received + 1) ≡ true = eq-eqb _ _ next in
    let f : eqb (s.received + 1) s.opening.packets ≡ true = eq-eqb _ _ (sym next ∙ whole) in
    rw (e, f, is)

whole_from : (s self : SessionState) (now last number : ℕ) (packet bytes : List ℕ) → s ≡ self → number ≡ s.received + 1 → number ≡ s.opening.packets
    → bytes ≡ take s.opening.size (s.bytes ++ packet)
    → ◌≡◌ {A = SessionOutcome}
    (record { session = None; reply = Some (End s.opening.size s.opening.packets s.opening.pgn); message = Some (record { pgn = s.opening.pgn; bytes = bytes }) })
    (after_packet now (Some (record { last = last; session = self })) number packet)
whole_from s self now last number packet bytes same next whole is =
    whole_of s now last number packet bytes next whole is
    ∙ ap (λ (k : SessionState). after_packet now (Some (record { last = last; session = k })) number packet) same

pub returns-then-number-packets : goal.returns-then-number-packets
returns-then-number-packets c now last =
    let inside = c.self.inside in
    whole_from (record { opening = inside.opening; bytes = inside.bytes.items; received = inside.received }) _ now last _ _ _
    c.self.view_is c.if-number-self.false c.if-number-packets.true
    (c.new.ensures ∙ c.append_packet.ensures.items ∙ ap (λ (k : ℕ). take k (inside.bytes.items ++ c.args.packet)) c.from.ensures)
