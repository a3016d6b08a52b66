-- The session kept by the ETP steps is the one open in the source's history.
use Rattle.std.proofs.Common.{◌≡◌, ℕ, ◌+◌, ◌≤◌, ◌<◌, Bool, true, false, ◌&&◌, cond, eqb, leb, ltb, List, [], ◌∷◌, length, Option, Some, None, ap, sym, subst, ◌∙◌, refl, arith, eq-eqb, eqb-true}
use Rattle.std.proofs.lemmas.Bool.{leb-true, ltb-true, false≢true}
use Rattle.vt_can.specs.declared.transport.sessions.Timed.{Timed}
use Rattle.vt_can.specs.transport.Histories.{Came, TimedOut, untimed}
use Rattle.vt_can.specs.transport.Steps as steps
use Rattle.vt_can.specs.transport.Steps.{event_step, session_after}
use Rattle.vt_can.proofs.lemmas.transport.TruncatedBytes.{take_none}
use Rattle.vt_can.proofs.lemmas.transport.Booleans.{both_of, all_of}
use Rattle.vt_can.proofs.lemmas.transport.OpenSessions.{last_of, matches_none, matches_quiet, matches_end, matches_request}
use Rattle.vt_extended.specs.declared.messages.Opening.{Opening}
use Rattle.vt_extended.specs.declared.messages.Part.{Part}
use Rattle.vt_extended.specs.declared.messages.Part.TheVariants.{Offset, Packet}
use Rattle.vt_extended.specs.declared.messages.EtpFrame.TheVariants as etp
use Rattle.vt_extended.specs.Messages.{SessionEvent, Group, Announced, opens, packet_count_of, received, edge, spelling, IsOpen}
use Rattle.vt_extended.specs.SessionState.{SessionState}
use Rattle.vt_extended.specs.Steps.{SessionOutcome, fresh, is_open, after_offset, is_next, after_packet, after_part, HasGroups, HasPackets}
use Rattle.vt_extended.specs.Protocol.{protocol}
use Rattle.vt_extended.proofs.Openings.{opened_packets}
use Rattle.vt_extended.proofs.Histories.{sent_offset, sent_packet, no_parts, IsAnnounced, offset_last, IsNext, packet_last}
use Rattle.vt_extended.proofs.DpoAndDtSteps.{announced, offset_right, offset_wrong, grown, packet_more, packet_whole, packet_wrong, is_open_as, is_open_true, is_next_as, is_next_true, has_announced, has_grown}

abbrev opening_of : SessionState → Opening
opening_of current = current.opening

-- the session of the steps is the one open in the history
abbrev pub Matches : List SessionEvent → Option (Timed SessionState) → Type 0
Matches = steps.Matches spelling opening_of HasPackets

abbrev pub IsStanding : List SessionEvent → Timed SessionState → Type 0
IsStanding = steps.IsStanding spelling opening_of HasPackets

-- the session after an RTS

abbrev first : ℕ → Opening → Timed SessionState
first now o = record { last = now; session = fresh o }

has_first : (now : ℕ) (o : Opening) → HasPackets (Some (first now o)) o []
has_first now o = record { opening = refl; bytes = sym (take_none o.size); received_is = refl; last = (refl, refl); edge_is = refl }

matches_rts : (now : ℕ) (hs : List SessionEvent) (o : Opening) → Matches (Came (etp.Rts o) ∷ hs) (cond (opens o) (Some (first now o)) None)
matches_rts now hs o =
    matches_request spelling opening_of HasPackets o (first now o) [] refl (λ quiet. quiet) (λ o' e. cc) (record { in_order = refl; sound = tt }) (opened_packets o)
    (λ groups none. subst (λ (gs : List Group). HasPackets (Some (first now o)) o gs) (sym (no_parts groups none.in_order)) (has_first now o)) hs

-- the session after a DPO

has_offset : (now count offset : ℕ) (session : Option (Timed SessionState)) (o : Opening) (groups : List Group) → HasPackets session o groups → 1 ≤ count
    → received groups + count ≤ edge o groups → offset ≡ received groups
    → HasPackets (after_part now session (Offset count offset)).session o (Announced count [] ∷ groups)
has_offset now count offset None o groups h one within next = absurd h
has_offset now count offset (Some current) o groups h one within next =
    subst (λ (out : SessionOutcome). HasPackets out.session o (Announced count [] ∷ groups))
    (sym (offset_right now count offset current (is_open_true current.session o groups count offset h one within next)))
    (has_announced current.session o groups count h one)

stands_offset : (now count offset : ℕ) (hs : List SessionEvent) (session : Option (Timed SessionState)) (o : Opening) (groups : List Group)
    → Matches hs session → IsAnnounced hs count offset o groups → received groups < packet_count_of o
    → HasPackets (after_part now session (Offset count offset)).session o groups
stands_offset now count offset hs session o groups m n more =
    let same : received groups ≡ received n.before + 0 = ap received n.all in
    subst (λ (gs : List Group). HasPackets (after_part now session (Offset count offset)).session o gs) (sym n.all)
    (has_offset now count offset session o n.before (m.stands o n.before (record { sent = n.sent; more = omega arith })) n.one n.within n.next)

-- an open session after the announcement of a group
standing_announced : (now count offset : ℕ) (hs : List SessionEvent) (current : Timed SessionState) (groups : List Group)
    → IsOpen hs current.session.opening groups → HasGroups current.session current.session.opening groups → 1 ≤ count
    → received groups + count ≤ edge current.session.opening groups → offset ≡ received groups
    → IsStanding (Came (etp.Part (Offset count offset)) ∷ hs) (announced now current count)
standing_announced now count offset hs current groups stands h one within next =
    let below = stands.more in (
      Announced count [] ∷ groups,
      record { sent = sent_offset hs count offset current.session.opening groups one within next stands.sent; more = omega arith },
      has_announced current.session current.session.opening groups count h one,
    )

standing_open : (now count offset : ℕ) (hs : List SessionEvent) (current current' : Timed SessionState) (right : Bool) → is_open current.session count offset ≡ right
    → IsStanding hs current → (after_offset now current count offset).session ≡ Some current' → IsStanding (Came (etp.Part (Offset count offset)) ∷ hs) current'
standing_open now count offset hs current current' true right k is =
    let some : Some (announced now current count) ≡ Some current' =
    sym (ap (λ (out : SessionOutcome). out.session) (offset_right now count offset current right)) ∙ is in
    let same : announced now current count ≡ current' = cc in
    let tests = all_of (leb 1 count) (leb (received k.0 + count) (edge current.session.opening k.0)) (eqb offset (received k.0))
    (sym (is_open_as current.session current.session.opening k.0 count offset k.2) ∙ right) in
    subst (IsStanding (Came (etp.Part (Offset count offset)) ∷ hs)) same
    (standing_announced now count offset hs current k.0 k.1 k.2 (leb-true _ _ tests.first) (leb-true _ _ tests.second) (eqb-true _ _ tests.third))
standing_open now count offset hs current current' false wrong k is =
    let none = ap (λ (out : SessionOutcome). out.session) (offset_wrong now count offset current wrong) in absurd cc

standing_offset : (now count offset : ℕ) (hs : List SessionEvent) (session : Option (Timed SessionState)) (current' : Timed SessionState) → Matches hs session
    → (after_part now session (Offset count offset)).session ≡ Some current' → IsStanding (Came (etp.Part (Offset count offset)) ∷ hs) current'
standing_offset now count offset hs None current' m is = absurd cc
standing_offset now count offset hs (Some current) current' m is = standing_open now count offset hs current current' _ refl (m.only current refl) is

-- the session after a packet

has_packet : (now number : ℕ) (packet : List ℕ) (session : Option (Timed SessionState)) (o : Opening) (count : ℕ) (packets : List (List ℕ)) (groups : List Group)
    → HasPackets session o (Announced count packets ∷ groups) → number ≡ length packets + 1 → length packets < count
    → received groups + length packets + 1 < packet_count_of o
    → HasPackets (after_part now session (Packet number packet)).session o (Announced count (packet ∷ packets) ∷ groups)
has_packet now number packet None o count packets groups h next within more = absurd h
has_packet now number packet (Some current) o count packets groups h next within more =
    let was = h.received_is in
    let all : packet_count_of current.session.opening ≡ packet_count_of o = ap packet_count_of h.opening in
    subst (λ (out : SessionOutcome). HasPackets out.session o (Announced count (packet ∷ packets) ∷ groups))
    (sym (packet_more now number packet current (is_next_true current.session count (length packets) number h.last.0 h.last.1 within next) (λ e. omega arith)))
    (has_grown current.session packet o count packets groups h within)

stands_packet : (now number : ℕ) (packet : List ℕ) (hs : List SessionEvent) (session : Option (Timed SessionState)) (o : Opening) (groups : List Group)
    → Matches hs session → IsNext hs number packet o groups → received groups < packet_count_of o
    → HasPackets (after_part now session (Packet number packet)).session o groups
stands_packet now number packet hs session o groups m n more =
    let count : received groups ≡ received (Announced n.count (packet ∷ n.packets) ∷ n.before) = ap received n.all in
    subst (λ (gs : List Group). HasPackets (after_part now session (Packet number packet)).session o gs) (sym n.all)
    (has_packet now number packet session o n.count n.packets n.before
    (m.stands o (Announced n.count n.packets ∷ n.before) (record { sent = n.sent; more = omega arith })) n.next n.more (omega arith))

-- a packet that passes the test of a session is the next one of its last group
pub data Next (current : Timed SessionState) (number : ℕ) (o : Opening) : List Group → Type 0 where
  InGroup : (count : ℕ) (packets : List (List ℕ)) (groups : List Group) → number ≡ length packets + 1 → length packets < count
      → HasGroups current.session o (Announced count packets ∷ groups) → Next current number o (Announced count packets ∷ groups)

pub next_in : (current : Timed SessionState) (number : ℕ) (o : Opening) (groups : List Group) → is_next current.session number ≡ true → HasGroups current.session o groups
    → Next current number o groups
next_in current number o [] next h =
    let none : (ltb 0 0 && eqb number 1) ≡ true = sym (is_next_as current.session 0 0 number h.last.0 h.last.1) ∙ next in absurd cc
next_in current number o (Announced count packets ∷ groups) next h =
    let tests = both_of (ltb (length packets) count) (eqb number (length packets + 1))
    (sym (is_next_as current.session count (length packets) number h.last.0 h.last.1) ∙ next) in
    InGroup count packets groups (eqb-true _ _ tests.second) (ltb-true _ _ tests.first) h

standing_grown : (now number : ℕ) (packet : List ℕ) (hs : List SessionEvent) (current : Timed SessionState) (groups : List Group) → Next current number current.session.opening groups
    → IsOpen hs current.session.opening groups → (current.session.received + 1 ≡ packet_count_of current.session.opening → ⊥)
    → IsStanding (Came (etp.Part (Packet number packet)) ∷ hs) (grown now current packet)
standing_grown now number packet hs current groups (InGroup count packets before next within h) stands more =
    let was = h.received_is in
    let below = stands.more in (
      Announced count (packet ∷ packets) ∷ before,
      record { sent = sent_packet hs number packet current.session.opening count packets before next within stands.sent; more = omega (arith, more) },
      has_grown current.session packet current.session.opening count packets before h within,
    )

standing_at : (now number : ℕ) (packet : List ℕ) (hs : List SessionEvent) (current current' : Timed SessionState) (whole : Bool)
    → eqb (current.session.received + 1) (packet_count_of current.session.opening) ≡ whole → is_next current.session number ≡ true → IsStanding hs current
    → (after_packet now current number packet).session ≡ Some current' → IsStanding (Came (etp.Part (Packet number packet)) ∷ hs) current'
standing_at now number packet hs current current' true all next k is =
    let none = ap (λ (out : SessionOutcome). out.session) (packet_whole now number packet current next (eqb-true _ _ all)) in absurd cc
standing_at now number packet hs current current' false all next k is =
    let more : current.session.received + 1 ≡ packet_count_of current.session.opening → ⊥ = λ e. false≢true (sym all ∙ eq-eqb _ _ e) in
    let some : Some (grown now current packet) ≡ Some current' =
    sym (ap (λ (out : SessionOutcome). out.session) (packet_more now number packet current next more)) ∙ is in
    let same : grown now current packet ≡ current' = cc in
    subst (IsStanding (Came (etp.Part (Packet number packet)) ∷ hs)) same
    (standing_grown now number packet hs current k.0 (next_in current number current.session.opening k.0 next k.2) k.1 more)

standing_number : (now number : ℕ) (packet : List ℕ) (hs : List SessionEvent) (current current' : Timed SessionState) (next : Bool) → is_next current.session number ≡ next
    → IsStanding hs current → (after_packet now current number packet).session ≡ Some current' → IsStanding (Came (etp.Part (Packet number packet)) ∷ hs) current'
standing_number now number packet hs current current' true next k is = standing_at now number packet hs current current' _ refl next k is
standing_number now number packet hs current current' false next k is =
    let none = ap (λ (out : SessionOutcome). out.session) (packet_wrong now number packet current next) in absurd cc

standing_packet : (now number : ℕ) (packet : List ℕ) (hs : List SessionEvent) (session : Option (Timed SessionState)) (current' : Timed SessionState) → Matches hs session
    → (after_part now session (Packet number packet)).session ≡ Some current' → IsStanding (Came (etp.Part (Packet number packet)) ∷ hs) current'
standing_packet now number packet hs None current' m is = absurd cc
standing_packet now number packet hs (Some current) current' m is = standing_number now number packet hs current current' _ refl (m.only current refl) is

-- the session after each session event

matches_part : (now : ℕ) (part : Part) (hs : List SessionEvent) (session : Option (Timed SessionState)) → Matches hs session
    → Matches (Came (etp.Part part) ∷ hs) (after_part now session part).session
matches_part now (Offset count offset) hs session m = record {
  stands = λ o groups s. stands_offset now count offset hs session o groups m (offset_last hs count offset o groups (last_of spelling _ hs o groups s.sent)) s.more;
  only = λ current' is. standing_offset now count offset hs session current' m is;
}
matches_part now (Packet number packet) hs session m = record {
  stands = λ o groups s. stands_packet now number packet hs session o groups m (packet_last hs number packet o groups (last_of spelling _ hs o groups s.sent)) s.more;
  only = λ current' is. standing_packet now number packet hs session current' m is;
}

matches_step : (now : ℕ) (hs : List SessionEvent) (session : Option (Timed SessionState)) (x : SessionEvent) → Matches hs session
    → Matches (x ∷ hs) (event_step protocol now session x).session
matches_step now hs session TimedOut m = matches_end spelling opening_of HasPackets hs TimedOut (record { loud = λ quiet. quiet; other = λ o e. cc })
matches_step now hs session (Came (etp.Rts o)) m = matches_rts now hs o
matches_step now hs session (Came (etp.Part part)) m = matches_part now part hs session m
matches_step now hs session (Came etp.Aborted) m =
    matches_end spelling opening_of HasPackets hs (Came etp.Aborted) (record { loud = λ quiet. quiet; other = λ o e. cc })
matches_step now hs session (Came etp.Other) m =
    matches_quiet spelling opening_of HasPackets hs session (Came etp.Other)
    (record {
      quiet = tt;
      other = λ o e. cc;
      more = λ o later groups brought. record { in_order = brought.in_order; sound = brought.sound };
      less = λ o later groups brought. record { in_order = brought.in_order; sound = brought.sound };
    })
    m

pub matches : (xs : List (ℕ × SessionEvent)) → Matches (untimed xs) (session_after protocol xs)
matches [] = matches_none spelling opening_of HasPackets
matches (x ∷ xs) = matches_step x.0 (untimed xs) (session_after protocol xs) x.1 (matches xs)
