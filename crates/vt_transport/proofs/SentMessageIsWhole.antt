-- A sent message is whole for its receiver with its last packet.
use Rattle.std.proofs.Common.{◌≡◌, ℕ, zero, suc, ◌+◌, ◌-◌, ◌*◌, ◌≤◌, List, [], ◌∷◌, ◌++◌, length, take, drop, replicate, true, refl, sym, ap, ap₂, subst, ◌∙◌, arith, Bool, false, ◌&&◌, leb, eqb, eq-eqb, cond, Option, ◌/◌, ◌^◌, ◌<◌, Some, None, lit<}
use Rattle.std.proofs.lemmas.List.{take-take, take_all, take-append-le, drop-append-le, length-take, length-append}
use Rattle.std.proofs.lemmas.Bool.{leb-true}
use Rattle.std.proofs.Math.Seq.{take-add}
use Rattle.vt_can.specs.Assigned.{FILL, NO_LIMIT, TP_CM, TP_DT, TP_RTS}
use Rattle.vt_can.specs.transport.Messages.{Message, joined}
use Rattle.vt_can.specs.transport.Histories.{Came, AreQuiet}
use Rattle.vt_can.specs.transport.Wire.{by_group}
use Rattle.vt_transport.specs.declared.messages.TpFrame.{TpFrame}
use Rattle.vt_transport.specs.declared.messages.TpFrame.TheVariants.{Rts, Data}
use Rattle.vt_transport.specs.Messages.{SessionEvent, packets_in, numbered, spelling, IsWhole, opens}
use Rattle.byteorder.specs.Endian.{little_bytes}
use Rattle.byteorder.specs.Numbers.{little_number-reads_back}
use Rattle.vt_can.specs.frames.Identifier.{Parts, parts_of, raw_of, pgn_of, destination_of, addressed, HasDestination}
use Rattle.vt_can.specs.frames.Frame.{is_to, frame_of}
use Rattle.vt_can.proofs.lemmas.frames.Sums.{identifier_bits-raw, identifier_bits-parts}
use Rattle.vt_transport.specs.Wire.{tp_frame, connection_management, rts_frame, packet_bytes, packet_frame}
use Rattle.vt_transport.specs.Senders.{packet_count_of, has_size}
use Rattle.vt_transport.specs.BothEnds.{opening_of, packet_of, begun, SentIsReceived}

-- the packets 1 to a count, the latest first
abbrev packets_to : List ℕ → ℕ → List (List ℕ)
packets_to bytes zero = []
packets_to bytes (suc count) = packet_bytes bytes (suc count) ∷ packets_to bytes count

length_packets : (bytes : List ℕ) (count : ℕ) → length (packets_to bytes count) ≡ count
length_packets bytes zero = refl
length_packets bytes (suc count) = ap suc (length_packets bytes count)

abbrev filled : List ℕ → List ℕ
filled bytes = bytes ++ replicate 7 FILL

one_more : (bytes : List ℕ) (count : ℕ) → 7 * count ≤ length bytes
    → packet_bytes bytes (suc count) ≡ take 7 (drop (7 * count) (filled bytes))
one_more bytes count within =
    ap (take 7) (ap (λ (k : ℕ). drop (7 * k) bytes ++ replicate 7 FILL) (omega arith) ∙ sym (drop-append-le (7 * count) bytes (replicate 7 FILL) within))

joined_packets : (bytes : List ℕ) (count : ℕ) → 7 * count ≤ length bytes + 6 → joined (packets_to bytes count) ≡ take (7 * count) (filled bytes)
joined_packets bytes zero within = refl
joined_packets bytes (suc count) within =
    ap₂ (λ (xs ys : List ℕ). xs ++ ys) (joined_packets bytes count (omega arith)) (one_more bytes count (omega arith))
    ∙ sym (take-add (7 * count) 7 (filled bytes))
    ∙ ap (λ (k : ℕ). take k (filled bytes)) (omega arith)

cut_packets : (bytes : List ℕ) (count : ℕ) → 7 * count ≤ length bytes + 6 → length bytes ≤ 7 * count
    → bytes ≡ take (length bytes) (joined (packets_to bytes count))
cut_packets bytes count within all =
    sym (ap (take (length bytes)) (joined_packets bytes count within)
    ∙ take-take (length bytes) (7 * count) (filled bytes) all
    ∙ take-append-le (length bytes) bytes (replicate 7 FILL) (omega arith)
    ∙ take_all (length bytes) bytes (omega arith))

-- the session events after the RTS
abbrev later_events : Message → ℕ → List SessionEvent
later_events message zero = []
later_events message (suc count) = packet_of message (suc count) ∷ later_events message count

begun_split : (message : Message) (count : ℕ) → begun message count ≡ later_events message count ++ Came (Rts (opening_of message)) ∷ []
begun_split message zero = refl
begun_split message (suc count) = ap (λ (hs : List SessionEvent). packet_of message (suc count) ∷ hs) (begun_split message count)

later_quiet : (message : Message) (count : ℕ) → AreQuiet spelling (later_events message count)
later_quiet message zero = tt
later_quiet message (suc count) = (tt, later_quiet message count)

later_in_order : (message : Message) (count : ℕ) → packets_in (later_events message count) ≡ numbered (packets_to message.bytes count)
later_in_order message zero = refl
later_in_order message (suc count) =
    ap₂ (λ (j : ℕ) (ps : List (ℕ × List ℕ)). (j, packet_bytes message.bytes (suc count)) ∷ ps)
    (let all = length_packets message.bytes count in omega (arith, all)) (later_in_order message count)

both_and : (a b c : Bool) → (a && b) ≡ true → c ≡ true → (a && b && c) ≡ true
both_and true true true both third = refl
both_and true true false both third = absurd cc
both_and true false c both third = absurd cc
both_and false b c both third = absurd cc

opening_opens : (message : Message) → has_size message.bytes ≡ true → opens (opening_of message) ≡ true
opening_opens message size =
    both_and (leb 9 (length message.bytes)) (leb (length message.bytes) 1785) _ size (eq-eqb (packet_count_of message) _ refl)

least_size : (a b : Bool) → (a && b) ≡ true → a ≡ true
least_size true b both = refl
least_size false b both = absurd cc

whole_at : (message : Message) (before : ℕ) → suc before ≡ packet_count_of message → has_size message.bytes ≡ true
    → IsWhole (begun message before) (packet_of message (suc before)) message
whole_at message before all size = record {
  opening = opening_of message;
  packets = packets_to message.bytes (suc before);
  sent = record {
    earlier = [];
    later = later_events message (suc before);
    split = begun_split message (suc before);
    opened = opening_opens message size;
    quiet = later_quiet message (suc before);
    brought = later_in_order message (suc before);
  };
  all = length_packets message.bytes (suc before) ∙ all;
  packet = (suc before, packet_bytes message.bytes (suc before), refl);
  pgn = refl;
  bytes = cut_packets message.bytes (suc before) (omega (arith, all)) (omega (arith, all));
}

whole_in_full : (message : Message) → has_size message.bytes ≡ true
    → IsWhole (begun message (packet_count_of message - 1)) (packet_of message (packet_count_of message)) message
whole_in_full message size =
    let least : 9 ≤ length message.bytes = leb-true _ _ (least_size (leb 9 (length message.bytes)) _ size) in
    let last : suc (packet_count_of message - 1) ≡ packet_count_of message = omega (arith, least) in
    subst (λ (j : ℕ). IsWhole (begun message (packet_count_of message - 1)) (packet_of message j) message) last (whole_at message (packet_count_of message - 1) last size)

-- the frames as decoded by the receiver

both_true : (a b : Bool) → a ≡ true → b ≡ true → (a && b) ≡ true
both_true true true first second = refl
both_true true false first second = absurd cc
both_true false b first second = absurd cc

abbrev tp_by_group : ℕ → List ℕ → Option TpFrame
tp_by_group = by_group TP_CM TP_DT connection_management (λ number bytes. Data number bytes)

frame_read : (own_address to pgn : ℕ) (bytes : List ℕ) → HasDestination pgn → own_address < 2 ^ 8 → to < 2 ^ 8 → length bytes ≡ 8
    → destination_of (addressed 7 pgn to own_address) ≡ Some to → pgn_of (addressed 7 pgn to own_address) ≡ pgn
    → tp_frame to (frame_of pgn own_address to bytes) ≡ tp_by_group pgn bytes
frame_read own_address to pgn bytes group address_fits to_fits eight to_is pgn_is =
    let parts : parts_of (raw_of (addressed 7 pgn to own_address)) ≡ addressed 7 pgn to own_address =
    ap parts_of (sym (identifier_bits-raw 7 pgn to own_address (lit< tt) group to_fits address_fits)) ∙ identifier_bits-parts 7 pgn to own_address (lit< tt) group to_fits address_fits in
    let is_to_node : (is_to to (destination_of (addressed 7 pgn to own_address)) && eqb (length bytes) 8) ≡ true =
    both_true _ _ (ap (is_to to) to_is ∙ eq-eqb to to refl) (eq-eqb _ _ eight) in
    ap (λ (p : Parts). cond (is_to to (destination_of p) && eqb (length bytes) 8) (tp_by_group (pgn_of p) bytes) None) parts
    ∙ ap (λ (b : Bool). cond b (tp_by_group (pgn_of (addressed 7 pgn to own_address)) bytes) None) is_to_node
    ∙ ap (λ (k : ℕ). tp_by_group k bytes) pgn_is

request_read : (own_address to size pgn : ℕ) → own_address < 2 ^ 8 → to < 2 ^ 8 → size < 256 ^ 2 → pgn < 256 ^ 3
    → tp_frame to (rts_frame own_address to size pgn) ≡ Some (Rts (record { size = size; packets = (size + 6) / 7; most = NO_LIMIT; pgn = pgn }))
request_read own_address to size pgn address_fits to_fits size_fits pgn_fits =
    frame_read own_address to TP_CM (TP_RTS ∷ (little_bytes 2 size ++ (size + 6) / 7 ∷ NO_LIMIT ∷ little_bytes 3 pgn)) (record { fits = lit< tt; format = lit< tt; no_destination = refl }) address_fits to_fits refl refl refl
    ∙ ap₂ (λ (s p : ℕ). Some (Rts (record { size = s; packets = (size + 6) / 7; most = NO_LIMIT; pgn = p })))
    (little_number-reads_back 2 size ((size + 6) / 7 ∷ NO_LIMIT ∷ little_bytes 3 pgn) size_fits) (little_number-reads_back 3 pgn [] pgn_fits)

length_packet : (bytes : List ℕ) (j : ℕ) → length (packet_bytes bytes j) ≡ 7
length_packet bytes j =
    length-take 7 (drop (7 * (j - 1)) bytes ++ replicate 7 FILL)
    ∙ (let all = length-append (drop (7 * (j - 1)) bytes) (replicate 7 FILL) in omega (arith, all))

packet_read : (own_address to : ℕ) (bytes : List ℕ) (j : ℕ) → own_address < 2 ^ 8 → to < 2 ^ 8
    → tp_frame to (packet_frame own_address to bytes j) ≡ Some (Data j (packet_bytes bytes j))
packet_read own_address to bytes j address_fits to_fits =
    frame_read own_address to TP_DT (j ∷ packet_bytes bytes j) (record { fits = lit< tt; format = lit< tt; no_destination = refl }) address_fits to_fits
    (ap suc (length_packet bytes j)) refl refl

most_size : (a b : Bool) → (a && b) ≡ true → b ≡ true
most_size true b both = both
most_size false b both = absurd cc

pub received : SentIsReceived
received own_address to message address_fits to_fits pgn_fits size =
    let most : length message.bytes ≤ 1785 = leb-true _ _ (most_size _ (leb (length message.bytes) 1785) size) in
    record {
      request = request_read own_address to (length message.bytes) message.pgn address_fits to_fits (omega (arith, most)) (omega (arith, pgn_fits));
      packets = λ j. packet_read own_address to message.bytes j address_fits to_fits;
      whole = whole_in_full message size;
    }
