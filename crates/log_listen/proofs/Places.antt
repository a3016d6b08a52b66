-- The packets of a transfer after one more packet.
use Rattle.std.proofs.Common.{◌≡◌, ◌≤◌, ◌<◌, ℕ, ◌+◌, ◌-◌, ◌*◌, cond, Some, None, IsSome, is_some, List, [], ◌∷◌, ◌++◌, Vec, Global, length, take, drop, refl, sym, ap, ◌∙◌, ⊎_elim, arith}
use Rattle.std.specs.Ordering.{nat_cmp}
use Rattle.std.specs.Map.{lookup}
use Rattle.std.specs.BTreeMap.{BTreeMap, get, is_at, Updates}
use Rattle.std.proofs.lemmas.Bool.{cases_eq, cases_lt, cases_order, eq-eqb, ne_eqb}
use Rattle.std.proofs.lemmas.List.{length-append, take_all}
use Rattle.vt_can.specs.transport.Messages.{joined}
use Rattle.log_listen.specs.declared.part.Part.{Part}
use Rattle.log_listen.specs.declared.part.Part.TheVariants.{Packet}
use Rattle.log_listen.specs.declared.transfer.Transfer.{Transfer}
use Rattle.log_listen.specs.Transfers.{packet_count, offset_after, packet_at, AreAtPlaces, HasAll}
use Rattle.log_listen.specs.Listeners.{HoldsPackets}
use Rattle.log_listen.specs.Steps.{HasPackets, IsAppended}
use borrow.Rule.Slice.PartMut.{put_mid}
use Rattle.log_listen.proofs.Maps.{apart_keys}
use Rattle.log_listen.proofs.Packets.{still_there, lacks_from_missing}
use Rattle.log_listen.proofs.Fronts.{one_more, before_appended, appended, before_written, after_written, written}

pub at_its_place : (place number : ℕ) (bytes : List ℕ) (since : List Part) → place ≡ offset_after since + number
    → packet_at place (Packet number bytes ∷ since) ≡ Some bytes
at_its_place place number bytes since here =
    ap (λ b. cond b (Some bytes) (packet_at place since)) (eq-eqb place (offset_after since + number) here)

pub at_other_places : (place number : ℕ) (bytes : List ℕ) (since : List Part) → (place ≡ offset_after since + number → ⊥)
    → packet_at place (Packet number bytes ∷ since) ≡ packet_at place since
at_other_places place number bytes since apart =
    ap (λ b. cond b (Some bytes) (packet_at place since)) (ne_eqb place (offset_after since + number) apart)

-- the packets before the first missing one are there
pub there_before : (since : List Part) (transfer : Transfer) → HoldsPackets since transfer → (place : ℕ) → 1 ≤ place → place < transfer.missing
    → IsSome (packet_at place since)
there_before since transfer holds place from below =
    let is : place - 1 + 1 ≡ place = omega arith in
    ap (λ n. is_some (packet_at n since)) (sym is) ∙ ap is_some (holds.front (place - 1) (omega arith))

-- the packets that came since the request, where the first missing place may have a packet still
pub record Holds (since : List Part) (transfer : Transfer) : Type 0 where
  pub offset : transfer.offset ≡ offset_after since
  pub packets : HoldsPackets since transfer
  pub within : (1 ≤ transfer.missing) × (transfer.missing ≤ packet_count transfer.size + 1)

pub has_all : (since : List Part) (transfer : Transfer) → Holds since transfer
    → (transfer.missing ≤ packet_count transfer.size → get nat_cmp transfer.beyond transfer.missing ≡ None) → HasPackets since transfer
has_all since transfer holds none = record {
  offset = holds.offset;
  packets = holds.packets;
  within = holds.within;
  missing = λ upto. sym (holds.packets.beyond transfer.missing (omega arith) upto) ∙ none upto;
  before = there_before since transfer holds.packets;
}

no_entry : (entries : List (ℕ × List ℕ)) (place : ℕ) → length entries ≡ 0 → lookup (is_at (nat_cmp place)) entries ≡ None
no_entry [] place none = refl
no_entry (entry ∷ entries) place none = absurd (omega arith)

pub none_in_empty : (m : BTreeMap ℕ (List ℕ)) (place : ℕ) → length m.entries ≡ 0 → get nat_cmp m place ≡ None
none_in_empty m place none = no_entry m.entries place none

-- nothing is kept for the first missing place
pub stopped : (since : List Part) (transfer : Transfer) (m : BTreeMap ℕ (List ℕ)) → Holds since transfer → get nat_cmp transfer.beyond transfer.missing ≡ None
    → m.entries ≡ transfer.beyond.entries → HasPackets since (record transfer { beyond = m })
stopped since transfer m holds none same =
    let same_at : (place : ℕ) → get nat_cmp m place ≡ get nat_cmp transfer.beyond place = λ place. ap (lookup (is_at (nat_cmp place))) same in
    has_all since (record transfer { beyond = m })
    (record {
      offset = holds.offset;
      packets = record {
        whole = holds.packets.whole;
        front = holds.packets.front;
        beyond = λ place above upto. same_at place ∙ holds.packets.beyond place above upto;
      };
      within = holds.within;
    })
    (λ upto. same_at transfer.missing ∙ none)

-- the packet of the first missing place is appended to those before it
module _ (since since' : List Part) (packet : List ℕ) (seven : length packet ≡ 7) (old new : Transfer) (holds : HoldsPackets since old)
    (from : 1 ≤ old.missing) (size : new.size ≡ old.size) (missing : new.missing ≡ old.missing + 1) (front : new.front.items ≡ old.front.items ++ packet)
    (beyond : (place : ℕ) → old.missing < place → get nat_cmp new.beyond place ≡ get nat_cmp old.beyond place)
    (here : packet_at old.missing since' ≡ Some packet)
    (others : (place : ℕ) → (place ≡ old.missing → ⊥) → packet_at place since' ≡ packet_at place since) where
  longer : length new.front.items ≡ length old.front.items + 7
  longer = ap length front ∙ length-append old.front.items packet ∙ ap (λ n. length old.front.items + n) seven

  in_front : (before : ℕ) → before + 1 < new.missing → packet_at (before + 1) since' ≡ Some (take 7 (drop (7 * before) new.front.items))
  in_front before below =
      let whole = holds.whole in
      ⊎_elim
      (λ (same : before + 1 ≡ old.missing).
      ap (λ n. packet_at n since') same ∙ here
      ∙ ap (λ l. Some l) (sym (ap (λ l. take 7 (drop (7 * before) l)) front ∙ appended old.front.items packet (7 * before) (omega arith) seven)))
      (λ (apart : before + 1 ≡ old.missing → ⊥).
      others (before + 1) apart ∙ holds.front before (omega arith)
      ∙ ap (λ l. Some l) (sym (ap (λ l. take 7 (drop (7 * before) l)) front ∙ before_appended old.front.items packet (7 * before) (omega arith))))
      (cases_eq (before + 1) old.missing)

  pub holds_appended : HoldsPackets since' new
  holds_appended = record {
    whole = let more = longer in let whole = holds.whole in omega arith;
    front = in_front;
    beyond = λ place above upto.
        beyond place (omega arith) ∙ holds.beyond place (omega arith) (let same = ap packet_count size in omega (arith, same, upto))
        ∙ sym (others place (omega arith));
  }

pub first_appended : (number : ℕ) (packet : List ℕ) (since : List Part) (old new : Transfer) → HasPackets since old → new.size ≡ old.size → IsAppended packet old new
    → offset_after since + number ≡ old.missing → old.missing ≤ packet_count old.size → Holds (Packet number packet ∷ since) new
first_appended number packet since old new has size is here upto = record {
  offset = is.offset ∙ has.offset;
  packets = holds_appended since (Packet number packet ∷ since) packet is.seven old new has.packets has.within.0 size is.missing is.front
      (λ place _. ap (λ m. get nat_cmp m place) is.beyond)
      (at_its_place old.missing number packet since (sym here))
      (λ place apart. at_other_places place number packet since (λ same. apart (same ∙ here)));
  within = let size = ap packet_count size in let from = has.within.0 in let missing = is.missing in omega (arith, size, from, missing, upto);
}

-- the packet after it was there already, and is no longer kept by its place
pub next_appended : (since : List Part) (packet : List ℕ) (old new : Transfer) (m : BTreeMap ℕ (List ℕ)) → Holds since old
    → old.missing ≤ packet_count old.size → get nat_cmp old.beyond old.missing ≡ Some packet → Updates nat_cmp old.beyond m old.missing None
    → new.size ≡ old.size → IsAppended packet (record old { beyond = m }) new → Holds since new
next_appended since packet old new m holds upto found updates size is = record {
  offset = is.offset ∙ holds.offset;
  packets = holds_appended since since packet is.seven old new holds.packets holds.within.0 size is.missing is.front
      (λ place above. ap (λ m. get nat_cmp m place) is.beyond ∙ updates.2 place (apart_keys old.missing place (λ same. absurd (omega arith))))
      (sym (holds.packets.beyond old.missing (omega arith) upto) ∙ found)
      (λ place apart. refl);
  within = let size = ap packet_count size in let from = holds.within.0 in let missing = is.missing in omega (arith, size, from, missing, upto);
}

-- a packet of a place before the first missing one
module _ (number : ℕ) (packet : List ℕ) (since : List Part) (old : Transfer) (front : Vec ℕ Global) (place count : ℕ) (is : place ≡ old.offset + number)
    (from : 1 ≤ place) (within : place * 7 ≤ length old.front.items) (seven : length packet ≡ 7) (count_is : count ≡ 7)
    (written_as : front.items ≡ put_mid (place * 7 - 7) count old.front.items packet) (has : HasPackets since old) where
  own : place ≡ offset_after since + number
  own = is ∙ ap (λ n. n + number) has.offset

  below : place < old.missing
  below = let whole = has.packets.whole in omega (arith, whole, within)

  overwritten : (before : ℕ) → before + 1 < old.missing → packet_at (before + 1) (Packet number packet ∷ since) ≡ Some (take 7 (drop (7 * before) front.items))
  overwritten before under =
      let whole = has.packets.whole in
      let there = ap (λ l. take 7 (drop (7 * before) l)) (written_as ∙ ap (λ k. put_mid (place * 7 - 7) k old.front.items packet) count_is) in
      ⊎_elim
      (λ (same : before + 1 ≡ place).
      let at : 7 * before ≡ place * 7 - 7 = omega (arith, same) in
      at_its_place (before + 1) number packet since (same ∙ own)
      ∙ ap (λ l. Some l) (sym (there ∙ ap (λ n. take 7 (drop n (put_mid (place * 7 - 7) 7 old.front.items packet))) at
      ∙ written (place * 7 - 7) old.front.items packet (omega (arith, within)) seven)))
      (λ apart.
      let other : before + 1 ≡ place → ⊥ = ⊎_elim (λ (less : before + 1 < place) same. absurd (omega (arith, less, same))) (λ (more : place < before + 1) same. absurd (omega (arith, more, same))) apart in
      at_other_places (before + 1) number packet since (λ same. other (same ∙ sym own)) ∙ has.packets.front before under
      ∙ ap (λ l. Some l) (sym (there ∙ ⊎_elim
      (λ (less : before + 1 < place). before_written (place * 7 - 7) old.front.items packet (7 * before) (omega (arith, less)) (omega (arith, within)))
      (λ (more : place < before + 1). after_written (place * 7 - 7) old.front.items packet (7 * before) (omega (arith, more, from)) (omega (arith, within)) seven)
      apart)))
      (cases_order (before + 1) place)

  pub put_over : length front.items ≡ length old.front.items → HasPackets (Packet number packet ∷ since) (record old { front = front })
  put_over same =
      let under = below in
      let at = own in
      let other : (place' : ℕ) → old.missing ≤ place' → place' ≡ offset_after since + number → ⊥ = λ place' above is'. absurd (omega (arith, under, at, above, is')) in
      record {
        offset = has.offset;
        packets = record {
          whole = ap (λ n. n + 7) same ∙ has.packets.whole;
          front = overwritten;
          beyond = λ place' above upto. has.packets.beyond place' above upto ∙ sym (at_other_places place' number packet since (other place' above));
        };
        within = has.within;
        missing = λ upto. at_other_places old.missing number packet since (other old.missing (omega arith)) ∙ has.missing upto;
        before = λ earlier from below. still_there earlier (Packet number packet) since (has.before earlier from below);
      }

-- the bytes of the packets of the first places
joined_front : (since : List Part) (transfer : Transfer) (packets : List (List ℕ)) → HoldsPackets since transfer → AreAtPlaces since packets
    → length packets < transfer.missing → joined packets ≡ take (7 * length packets) transfer.front.items
joined_front since transfer [] holds places below = refl
joined_front since transfer (packet ∷ packets) holds places below =
    let rest = joined_front since transfer packets holds places.1 (omega arith) in
    let here = sym places.0 ∙ holds.front (length packets) (omega arith) in
    let is : packet ≡ take 7 (drop (7 * length packets) transfer.front.items) = cc in
    ap (λ l. l ++ packet) rest ∙ ap (λ l. take (7 * length packets) transfer.front.items ++ l) is
    ∙ one_more transfer.front.items (7 * length packets)
    ∙ ap (λ n. take n transfer.front.items) (omega arith)

pub whole_bytes : (since : List Part) (transfer : Transfer) (packets : List (List ℕ)) → HasPackets since transfer → HasAll since transfer.size packets
    → take transfer.size transfer.front.items ≡ take transfer.size (joined packets)
whole_bytes since transfer packets has all =
    let past : packet_count transfer.size < transfer.missing = ⊎_elim (λ (past : packet_count transfer.size < transfer.missing). past)
    (λ upto. absurd (lacks_from_missing since transfer.size transfer.missing has.within.0 upto (has.missing upto) packets all))
    (cases_lt (packet_count transfer.size) transfer.missing) in
    let count = all.all in
    let whole = has.packets.whole in
    let within = has.within in
    let is = joined_front since transfer packets has.packets all.places (omega (arith, past, count)) in
    ap (take transfer.size) (sym (is ∙ take_all (7 * length packets) transfer.front.items (omega (arith, count, whole, within))))
