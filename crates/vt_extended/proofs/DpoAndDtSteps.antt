-- The steps of a DPO and a DT, case by case, and the groups of the session after them.
use Rattle.std.proofs.Common.{◌≡◌, ℕ, ◌+◌, ◌≤◌, ◌<◌, max, Bool, true, false, ◌&&◌, cond, eqb, leb, ltb, List, [], ◌∷◌, ◌++◌, length, take, Option, Some, None, ap, ap₂, sym, ◌∙◌, refl, arith, eq-eqb, eqb-true, ne_eqb, lt-ltb}
use Rattle.std.proofs.lemmas.Bool.{le-leb, false≢true}
use Rattle.std.proofs.lemmas.List.{append_assoc, append-nil}
use Rattle.vt_can.specs.declared.transport.sessions.Timed.{Timed}
use Rattle.vt_can.specs.declared.transport.wire.Reason.TheVariants.{Disorder}
use Rattle.vt_can.specs.transport.Messages.{joined}
use Rattle.vt_can.specs.transport.Protocols.{silent, ended}
use Rattle.vt_can.proofs.lemmas.transport.TruncatedBytes.{take_again}
use Rattle.vt_extended.specs.declared.messages.Opening.{Opening}
use Rattle.vt_extended.specs.declared.messages.Reply.{Reply}
use Rattle.vt_extended.specs.declared.messages.Reply.TheVariants.{Abort}
use Rattle.vt_extended.specs.Messages.{Group, Announced, packet_count_of, received, full, edge_after, edge, bytes_of, reply_to}
use Rattle.vt_extended.specs.SessionState.{SessionState}
use Rattle.vt_extended.specs.Steps.{SessionOutcome, is_open, with_group, after_offset, is_next, with_packet, after_packet, HasGroups}

-- the step of a DPO, in its two cases

abbrev pub announced : ℕ → Timed SessionState → ℕ → Timed SessionState
announced now current count = record { last = max now current.last; session = with_group current.session count }

pub offset_right : (now count offset : ℕ) (current : Timed SessionState) → is_open current.session count offset ≡ true
    → after_offset now current count offset ≡ silent (Some (announced now current count))
offset_right now count offset current right = rw right

pub offset_wrong : (now count offset : ℕ) (current : Timed SessionState) → is_open current.session count offset ≡ false
    → after_offset now current count offset ≡ ended (Abort Disorder current.session.opening.pgn)
offset_wrong now count offset current wrong = rw wrong

-- the step of a packet, in its three cases

abbrev pub grown : ℕ → Timed SessionState → List ℕ → Timed SessionState
grown now current packet = record { last = max now current.last; session = with_packet current.session packet }

abbrev pub grown_reply : Timed SessionState → Option Reply
grown_reply current = reply_to current.session.opening (current.session.received + 1) (eqb (current.session.arrived + 1) current.session.announced)

pub packet_more : (now number : ℕ) (packet : List ℕ) (current : Timed SessionState) → is_next current.session number ≡ true
    → (current.session.received + 1 ≡ packet_count_of current.session.opening → ⊥)
    → ◌≡◌ {A = SessionOutcome} (after_packet now current number packet)
    (record { session = Some (grown now current packet); reply = grown_reply current; message = None })
packet_more now number packet current next more =
    let f : eqb (current.session.received + 1) (packet_count_of current.session.opening) ≡ false = ne_eqb _ _ more in
    rw (next, f)

pub packet_whole : (now number : ℕ) (packet : List ℕ) (current : Timed SessionState) → is_next current.session number ≡ true
    → current.session.received + 1 ≡ packet_count_of current.session.opening
    → ◌≡◌ {A = SessionOutcome} (after_packet now current number packet) (record {
      session = None;
      reply = grown_reply current;
      message = Some (record { pgn = current.session.opening.pgn; bytes = take current.session.opening.size (current.session.bytes ++ packet) });
    })
packet_whole now number packet current next whole =
    let f : eqb (current.session.received + 1) (packet_count_of current.session.opening) ≡ true = eq-eqb _ _ whole in
    rw (next, f)

pub packet_wrong : (now number : ℕ) (packet : List ℕ) (current : Timed SessionState) → is_next current.session number ≡ false
    → after_packet now current number packet ≡ ended (Abort Disorder current.session.opening.pgn)
packet_wrong now number packet current wrong = rw wrong

-- the tests of a DPO and a DT in terms of groups

pub is_open_as : (s : SessionState) (o : Opening) (groups : List Group) (count offset : ℕ) → HasGroups s o groups
    → is_open s count offset ≡ (leb 1 count && leb (received groups + count) (edge o groups) && eqb offset (received groups))
is_open_as s o groups count offset h =
    ap₂ (λ (r e : ℕ). leb 1 count && leb (r + count) e && eqb offset r) h.received_is h.edge_is

pub is_open_true : (s : SessionState) (o : Opening) (groups : List Group) (count offset : ℕ) → HasGroups s o groups → 1 ≤ count
    → received groups + count ≤ edge o groups → offset ≡ received groups → is_open s count offset ≡ true
is_open_true s o groups count offset h one within next =
    is_open_as s o groups count offset h
    ∙ ap₂ (λ (a b : Bool). a && b && eqb offset (received groups)) (le-leb _ _ one) (le-leb _ _ within)
    ∙ eq-eqb _ _ next

pub is_next_as : (s : SessionState) (announced arrived number : ℕ) → s.announced ≡ announced → s.arrived ≡ arrived
    → is_next s number ≡ (ltb arrived announced && eqb number (arrived + 1))
is_next_as s announced arrived number a t = ap₂ (λ (c k : ℕ). ltb k c && eqb number (k + 1)) a t

pub is_next_true : (s : SessionState) (announced arrived number : ℕ) → s.announced ≡ announced → s.arrived ≡ arrived → arrived < announced → number ≡ arrived + 1
    → is_next s number ≡ true
is_next_true s announced arrived number a t more next =
    is_next_as s announced arrived number a t ∙ ap₂ (λ (b c : Bool). b && c) (lt-ltb _ _ more) (eq-eqb _ _ next)

-- the groups of a session after a DPO

module _ {X : Type 0} where
  pub pick : (a b : ℕ) (x y : X) → a ≡ b → cond (eqb a b) x y ≡ x
  pick a b x y e = ap (λ (t : Bool). cond t x y) (eq-eqb a b e)

  pub skip : (a b : ℕ) (x y : X) → (a ≡ b → ⊥) → cond (eqb a b) x y ≡ y
  skip a b x y e = ap (λ (t : Bool). cond t x y) (ne_eqb a b e)

-- a group with packets to come does not change `full`
full_skip : (count : ℕ) (packets : List (List ℕ)) (groups : List Group) → length packets < count → full (Announced count packets ∷ groups) ≡ full groups
full_skip count packets groups more = skip (length packets) count (received groups + length packets) (full groups) (λ e. omega arith)

full_pick : (count : ℕ) (packets : List (List ℕ)) (groups : List Group) → length packets ≡ count
    → full (Announced count packets ∷ groups) ≡ received groups + length packets
full_pick count packets groups all = pick (length packets) count (received groups + length packets) (full groups) all

pub has_announced : (s : SessionState) (o : Opening) (groups : List Group) (count : ℕ) → HasGroups s o groups → 1 ≤ count
    → HasGroups (with_group s count) o (Announced count [] ∷ groups)
has_announced s o groups count h one =
    let was = h.received_is in
    record {
      opening = h.opening;
      bytes = h.bytes ∙ ap (take o.size) (sym (append-nil (bytes_of groups)));
      received_is = omega arith;
      last = (refl, refl);
      edge_is = h.edge_is ∙ ap (edge_after o) (sym (full_skip count [] groups one));
    }

-- the groups of a session after a packet

pub grown_bytes : (s : SessionState) (packet : List ℕ) (o : Opening) (count : ℕ) (packets : List (List ℕ)) (groups : List Group)
    → HasGroups s o (Announced count packets ∷ groups)
    → take s.opening.size (s.bytes ++ packet) ≡ take o.size (bytes_of (Announced count (packet ∷ packets) ∷ groups))
grown_bytes s packet o count packets groups h =
    ap (λ (q : Opening). take q.size (s.bytes ++ packet)) h.opening
    ∙ ap (λ (bytes : List ℕ). take o.size (bytes ++ packet)) h.bytes
    ∙ take_again o.size (bytes_of groups ++ joined packets) packet
    ∙ ap (take o.size) (append_assoc (bytes_of groups) (joined packets) packet)

grown_edge : (s : SessionState) (o : Opening) (count : ℕ) (packet : List ℕ) (packets : List (List ℕ)) (groups : List Group) (whole : Bool)
    → eqb (s.arrived + 1) s.announced ≡ whole → HasGroups s o (Announced count packets ∷ groups) → length packets < count
    → cond (eqb (s.arrived + 1) s.announced) (edge_after s.opening (s.received + 1)) s.edge ≡ edge o (Announced count (packet ∷ packets) ∷ groups)
grown_edge s o count packet packets groups true whole h more =
    let was = h.received_is in
    let all = eqb-true _ _ whole in
    let a = h.last.0 in
    let t = h.last.1 in
    ap (λ (b : Bool). cond b (edge_after s.opening (s.received + 1)) s.edge) whole
    ∙ ap₂ edge_after h.opening (omega arith)
    ∙ ap (edge_after o) (sym (full_pick count (packet ∷ packets) groups (omega arith)))
grown_edge s o count packet packets groups false whole h more =
    let part : s.arrived + 1 ≡ s.announced → ⊥ = λ e. false≢true (sym whole ∙ eq-eqb _ _ e) in
    let a = h.last.0 in
    let t = h.last.1 in
    ap (λ (b : Bool). cond b (edge_after s.opening (s.received + 1)) s.edge) whole
    ∙ h.edge_is
    ∙ ap (edge_after o) (full_skip count packets groups more ∙ sym (full_skip count (packet ∷ packets) groups (omega (arith, part))))

pub has_grown : (s : SessionState) (packet : List ℕ) (o : Opening) (count : ℕ) (packets : List (List ℕ)) (groups : List Group)
    → HasGroups s o (Announced count packets ∷ groups) → length packets < count
    → HasGroups (with_packet s packet) o (Announced count (packet ∷ packets) ∷ groups)
has_grown s packet o count packets groups h more =
    let was = h.received_is in
    let t = h.last.1 in
    record {
      opening = h.opening;
      bytes = grown_bytes s packet o count packets groups h;
      received_is = omega arith;
      last = (h.last.0, omega arith);
      edge_is = grown_edge s o count packet packets groups _ refl h more;
    }
