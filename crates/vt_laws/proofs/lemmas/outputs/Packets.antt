-- The frames sent for a frame of the transport protocols: their identifiers and their number.
use Rattle.std.proofs.Common.{◌≡◌, ◌<◌, ◌≤◌, ◌⊎◌, inl, inr, ◌||◌, nat_lt, ◌+◌, ◌-◌, ℕ, zero, suc, min, Bool, true, false, cond, eqb, List, [], ◌∷◌, ◌++◌, map, length, slice_index, drop, Option, Some, None, refl, sym, ap, subst, ◌∙◌, arith}
use Rattle.std.proofs.lemmas.List.{length-map}
use Rattle.std.specs.Option.{option_map, option_to_list}
use Rattle.vt_can.specs.declared.frames.frame.Frame.{Frame}
use Rattle.vt_can.specs.declared.transport.sessions.Timed.{Timed}
use Rattle.vt_can.specs.transport.Messages as transport
use Rattle.vt_can.specs.transport.Steps.{stepped}
use Rattle.vt_can.specs.transport.Wire.{is_transport_frame_to}
use Rattle.vt_transport.specs.Protocol as tp
use Rattle.vt_transport.specs.Senders as sender
use Rattle.vt_transport.specs.Senders.{numbers_from}
use Rattle.vt_transport.specs.SessionState as tp_session
use Rattle.vt_node.specs.ReceiverResults.{taken}
use Rattle.vt_transport.specs.Wire.{tp_frame, packet_frame}
use Rattle.vt_can.specs.frames.Identifier.{parts_of, raw_of, pgn_of, addressed}
use Rattle.byteorder.specs.Endian.{little_number}

-- ---- a test with results of a type private to vt_transport

record Holds {T : Type 0} (P : T → Type 0) (x : T) : Type 0 where
  pub it : P x

cond-holds : {T : Type 0} {P : T → Type 0} (b : Bool) (x y : T) → Holds P x → Holds P y → Holds P (cond b x y)
cond-holds {T} {P} b x y first second = cases b
  where
    cases : (c : Bool) → Holds P (cond c x y)
    cases true = first
    cases false = second

some-holds : {T : Type 0} {P : Option T → Type 0} {x : T} → Holds (λ y. P (Some y)) x → Holds P (Some x)
some-holds holds = record { it = holds.it }

-- ---- frames to an address by their identifiers: messages, session control frames, and packets

abbrev pub IsReply : ℕ → ℕ → Frame → Type 0
IsReply own a f =
    (f.id ≡ raw_of (addressed 5 0xE600 a own))
    ⊎ ((f.id ≡ raw_of (addressed 7 0xEC00 a own))
    ⊎ ((f.id ≡ raw_of (addressed 7 0xC800 a own)) ⊎ (f.id ≡ raw_of (addressed 7 0xEB00 a own))))

abbrev pub AreReplies : ℕ → ℕ → List Frame → Type 0
AreReplies own a [] = Unit {0}
AreReplies own a (f ∷ frames) = IsReply own a f × AreReplies own a frames

pub replies-append : (own a : ℕ) (xs ys : List Frame) → AreReplies own a xs → AreReplies own a ys → AreReplies own a (xs ++ ys)
replies-append own a [] ys first second = second
replies-append own a (x ∷ xs) ys first second = (first.0, replies-append own a xs ys first.1 second)

pub option-replies : {R : Type 0} (own a : ℕ) (spelled : R → Frame) → ((r : R) → IsReply own a (spelled r)) → (o : Option R)
    → AreReplies own a (option_to_list (option_map spelled o))
option-replies own a spelled each None = tt
option-replies own a spelled each (Some r) = (each r, tt)

packets-replies : (own a : ℕ) (bytes numbers : List ℕ) → AreReplies own a (map (packet_frame own a bytes) numbers)
packets-replies own a bytes [] = tt
packets-replies own a bytes (j ∷ numbers) = (inr (inr (inr refl)), packets-replies own a bytes numbers)

clear-replies : (own a now : ℕ) (current : Timed transport.Message) (count next : ℕ) → AreReplies own a (sender.clear_to_send own a now current count next).frames
clear-replies own a now current count next =
    let last = sender.packet_count_of current.session in
    (cond-holds {P = λ (g : sender.Answer). AreReplies own a g.frames} (eqb count 0) _ _ (record { it = tt })
    (cond-holds (eqb next 0 || nat_lt last next) _ _ (record { it = (inr (inl refl), tt) })
    (record { it = packets-replies own a current.session.bytes (numbers_from next (min count (last + 1 - next))) }))).it

module _ (now own a : ℕ) (current : Timed transport.Message) (frame : Frame) where
  answer-holds : Holds (λ o. AreReplies own a (sender.answered own a now (Some current) o).frames) (tp_frame own frame)
  answer-holds =
      let pgn = pgn_of (parts_of frame.id) in
      let control = slice_index frame.bytes.items 0 in
      let cts = (cond-holds {P = λ (g : sender.Answer). AreReplies own a g.frames} (eqb (little_number 3 (drop 5 frame.bytes.items)) current.session.pgn) _ _
      (record { it = clear-replies own a now current (slice_index frame.bytes.items 1) (slice_index frame.bytes.items 2) }) (record { it = tt })).it in
      cond-holds (is_transport_frame_to own frame) _ _
      (cond-holds (eqb pgn 0xEC00) _ _
      (some-holds
      (cond-holds (eqb control 0x10) _ _ (record { it = tt })
      (cond-holds (eqb control 0x11) _ _ (record { it = cts })
      (cond-holds (eqb control 0x13) _ _ (record { it = tt })
      (cond-holds (eqb control 0xFF) _ _ (record { it = tt }) (record { it = tt }))))))
      (cond-holds (eqb pgn 0xEB00) _ _ (record { it = tt }) (record { it = tt })))
      (record { it = tt })

pub answer-replies : (now own a : ℕ) (sending : Option (Timed transport.Message)) (frame : Frame) → AreReplies own a (sender.answered own a now sending (tp_frame own frame)).frames
answer-replies now own a None frame = tt
answer-replies now own a (Some current) frame = (answer-holds now own a current frame).it

-- ---- the number of frames

numbers-few : (next count : ℕ) → length (numbers_from next count) ≡ count
numbers-few next zero = refl
numbers-few next (suc count) = ap suc (numbers-few (suc next) count)

-- A CTS asks for at most 255 packets.
clear-few : (own a now : ℕ) (current : Timed transport.Message) (count next : ℕ) → count < 256 → length (sender.clear_to_send own a now current count next).frames ≤ 255
clear-few own a now current count next small =
    let last = sender.packet_count_of current.session in
    (cond-holds {P = λ (g : sender.Answer). length g.frames ≤ 255} (eqb count 0) _ _ (record { it = omega arith })
    (cond-holds (eqb next 0 || nat_lt last next) _ _ (record { it = omega arith })
    (record {
      it = subst (λ n. n ≤ 255)
          (sym (length-map (numbers_from next (min count (last + 1 - next))) (sender_frame own a current) ∙ numbers-few next (min count (last + 1 - next)))) (omega arith);
    }))).it
  where
    sender_frame : ℕ → ℕ → Timed transport.Message → ℕ → Frame
    sender_frame own a current = packet_frame own a current.session.bytes

-- The sender answers only a CTS, and the receiver never answers one.
module _ (now own a : ℕ) (session : Option (Timed tp_session.SessionState)) (current : Timed transport.Message) (frame : Frame) (small : slice_index frame.bytes.items 1 < 256) where
  either-few : Holds
      (λ o. (length (sender.answered own a now (Some current) o).frames ≡ 0)
      ⊎ (((stepped tp.protocol now session o).reply ≡ None) × ((stepped tp.protocol now session o).message ≡ None) × (length (sender.answered own a now (Some current) o).frames ≤ 255)))
      (tp_frame own frame)
  either-few =
      let pgn = pgn_of (parts_of frame.id) in
      let control = slice_index frame.bytes.items 0 in
      let cts = (cond-holds {P = λ (g : sender.Answer). length g.frames ≤ 255} (eqb (little_number 3 (drop 5 frame.bytes.items)) current.session.pgn) _ _
      (record { it = clear-few own a now current (slice_index frame.bytes.items 1) (slice_index frame.bytes.items 2) small }) (record { it = omega arith })).it in
      cond-holds (is_transport_frame_to own frame) _ _
      (cond-holds (eqb pgn 0xEC00) _ _
      (some-holds
      (cond-holds (eqb control 0x10) _ _ (record { it = inl refl })
      (cond-holds (eqb control 0x11) _ _ (record { it = inr (refl, refl, cts) })
      (cond-holds (eqb control 0x13) _ _ (record { it = inl refl })
      (cond-holds (eqb control 0xFF) _ _ (record { it = inl refl }) (record { it = inl refl }))))))
      (cond-holds (eqb pgn 0xEB00) _ _ (record { it = inl refl }) (record { it = inl refl })))
      (record { it = inl refl })

-- The frames sent for one frame, and the reply to a completed message, are at most 255 together.
pub option-few : {R : Type 0} (spelled : R → Frame) (o : Option R) → length (option_to_list (option_map spelled o)) ≤ 1
option-few spelled None = omega arith
option-few spelled (Some r) = omega arith

abbrev pub one_if : {X : Type 0} → Option X → ℕ
one_if None = 0
one_if (Some x) = 1

pub one-few : {X : Type 0} (o : Option X) → one_if o ≤ 1
one-few None = omega arith
one-few (Some x) = omega arith

pub tp-few : (now own a : ℕ) (session : Option (Timed tp_session.SessionState)) (sending : Option (Timed transport.Message)) (frame : Frame) → slice_index frame.bytes.items 1 < 256
    → let t = taken tp.protocol now own a session frame in
    length t.frames + length (sender.answered own a now sending (tp_frame own frame)).frames + one_if t.message ≤ 255
tp-few now own a session None frame small =
    let t = taken tp.protocol now own a session frame in
    let first = option-few (tp.protocol.reply_frame own a) (stepped tp.protocol now session (tp_frame own frame)).reply in
    let last = one-few t.message in
    omega arith
tp-few now own a session (Some current) frame small = cases (either-few now own a session current frame small).it
  where
    cases : (length (sender.answered own a now (Some current) (tp_frame own frame)).frames ≡ 0)
        ⊎ (((stepped tp.protocol now session (tp_frame own frame)).reply ≡ None) × ((stepped tp.protocol now session (tp_frame own frame)).message ≡ None)
        × (length (sender.answered own a now (Some current) (tp_frame own frame)).frames ≤ 255))
        → let t = taken tp.protocol now own a session frame in
        length t.frames + length (sender.answered own a now (Some current) (tp_frame own frame)).frames + one_if t.message ≤ 255
    cases (inl none) =
        let t = taken tp.protocol now own a session frame in
        let first = option-few (tp.protocol.reply_frame own a) (stepped tp.protocol now session (tp_frame own frame)).reply in
        let last = one-few t.message in
        omega arith
    cases (inr (no-reply, no-message, few)) =
        let t = taken tp.protocol now own a session frame in
        let first : length t.frames ≡ 0 = ap (λ o. length (option_to_list (option_map (tp.protocol.reply_frame own a) o))) no-reply in
        let last : one_if t.message ≡ 0 = ap one_if no-message in
        omega arith
