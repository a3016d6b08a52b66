-- The entry of a channel after one more part.
use Rattle.std.proofs.Common.{◌≡◌, ◌≤◌, ◌<◌, ℕ, ◌↔◌, IsTrue, Bool, false, Option, Some, None, List, [], ◌∷◌, ◌++◌, take, refl, sym, ap, ◌∙◌, subst, ⊎_elim, arith}
use Rattle.std.proofs.lemmas.Bool.{cases_lt, false≢true}
use Rattle.vt_can.specs.transport.Messages.{Message, joined}
use Rattle.log_listen.specs.declared.part.Part.{Part}
use Rattle.log_listen.specs.declared.part.Part.TheVariants.{Request, Packet, Offset, Abort}
use Rattle.log_listen.specs.declared.transfer.Transfer.{Transfer}
use Rattle.log_listen.specs.Transfers.{packet_count, IsRequested, IsOpen, HasAll, MakesWhole}
use Rattle.log_listen.specs.Listeners.{IsStateOf, IsEntryOf}
use Rattle.log_listen.specs.Steps.{HasPackets}
use Rattle.log_listen.proofs.Requests.{IsNoRequest, requested_once, is_longer, one_more, at_request}
use Rattle.log_listen.proofs.Packets.{all_stay, all_from_places, lacks_from_missing}

-- the state of a transfer is that of its packets, with one missing
pub state_of : (parts since : List Part) (transfer : Transfer) → IsRequested parts transfer.size transfer.pgn since → HasPackets since transfer
    → transfer.missing ≤ packet_count transfer.size → IsStateOf parts transfer
state_of parts since transfer requested has upto = record {
  since = since;
  requested = requested;
  offset = has.offset;
  packets = has.packets;
  missing = record { within = (has.within.0, upto); missing = has.missing upto; before = has.before };
}

pub has_packets : (parts : List Part) (transfer : Transfer) (state : IsStateOf parts transfer) → HasPackets state.since transfer
has_packets parts transfer state = record {
  offset = state.offset;
  packets = state.packets;
  within = (state.missing.within.0, let upto = state.missing.within.1 in omega arith);
  missing = λ _. state.missing.missing;
  before = state.missing.before;
}

pub open_of : (parts : List Part) (transfer : Transfer) (state : IsStateOf parts transfer) → IsOpen parts transfer.size transfer.pgn state.since
open_of parts transfer state = record {
  requested = state.requested;
  lacks = lacks_from_missing state.since transfer.size transfer.missing state.missing.within.0 state.missing.within.1 state.missing.missing;
}

-- the entry of an open transfer
pub standing : (parts : List Part) (transfer : Transfer) → IsStateOf parts transfer → IsEntryOf parts (Some transfer)
standing parts transfer state = record {
  stands = λ other is. let P : Transfer → Type 0 = IsStateOf parts in let same : transfer ≡ other = cc in subst P same state;
  closed = λ is. absurd (let e = is in cc);
}

no_split : (since earlier : List Part) (size pgn : ℕ) → [] ≡ since ++ Request size pgn ∷ earlier → ⊥
no_split [] earlier size pgn is = cc
no_split (part ∷ since) earlier size pgn is = cc

-- no transfer is open
abbrev pub IsClosed : List Part → Type 0
IsClosed parts = (size pgn : ℕ) (since : List Part) → IsOpen parts size pgn since → ⊥

pub without : (parts : List Part) → IsClosed parts → IsEntryOf parts None
without parts closed = record { stands = λ other is. absurd (let e = is in cc); closed = λ is. closed }

-- a channel in which nothing was said
pub never_opened : IsClosed []
never_opened size pgn since stood = no_split since stood.requested.earlier size pgn stood.requested.split

pub abort_is_no_request : (pgn : ℕ) → IsNoRequest (Abort pgn)
abort_is_no_request pgn size other is = cc

pub offset_is_no_request : (packets : ℕ) → IsNoRequest (Offset packets)
offset_is_no_request packets size other is = cc

pub packet_is_no_request : (number : ℕ) (bytes : List ℕ) → IsNoRequest (Packet number bytes)
packet_is_no_request number bytes size other is = cc

-- a part other than a request opens no transfer
pub stays_closed : (part : Part) (parts : List Part) → IsNoRequest part → IsClosed parts → IsClosed (part ∷ parts)
stays_closed part parts none closed size pgn since stood =
    let longer = is_longer part parts size pgn since none stood.requested in
    closed size pgn longer.before (record {
      requested = longer.requested;
      lacks = λ packets has.
          let more = all_stay part longer.before size packets has in
          stood.lacks more.0 (let P : List Part → Type 0 = λ l. HasAll l size more.0 in subst P (sym longer.since_is) more.1);
    })

pub still_without : (part : Part) (parts : List Part) (entry : Option Transfer) → IsNoRequest part → entry ≡ None → IsEntryOf parts entry → IsEntryOf (part ∷ parts) None
still_without part parts entry none is has = without (part ∷ parts) (stays_closed part parts none (has.closed is))

-- the number of packets before those that come next has changed
pub moved : (parts : List Part) (packets : ℕ) (old : Transfer) → IsStateOf parts old → IsStateOf (Offset packets ∷ parts) (record old { offset = packets })
moved parts packets old state = record {
  since = Offset packets ∷ state.since;
  requested = one_more (Offset packets) parts old.size old.pgn state.since tt state.requested;
  offset = refl;
  packets = record { whole = state.packets.whole; front = state.packets.front; beyond = state.packets.beyond };
  missing = record { within = state.missing.within; missing = state.missing.missing; before = state.missing.before };
}

-- an abort of another parameter group changes nothing
pub stays_open : (parts : List Part) (pgn : ℕ) (old : Transfer) → (old.pgn ≡ pgn → ⊥) → IsStateOf parts old → IsStateOf (Abort pgn ∷ parts) old
stays_open parts pgn old apart state = record {
  since = Abort pgn ∷ state.since;
  requested = one_more (Abort pgn) parts old.size old.pgn state.since (λ same. apart (sym same)) state.requested;
  offset = state.offset;
  packets = record { whole = state.packets.whole; front = state.packets.front; beyond = state.packets.beyond };
  missing = record { within = state.missing.within; missing = state.missing.missing; before = state.missing.before };
}

-- an abort of the transfer's parameter group ends it
pub aborted : (parts : List Part) (pgn : ℕ) (old : Transfer) → old.pgn ≡ pgn → IsStateOf parts old → IsClosed (Abort pgn ∷ parts)
aborted parts pgn old is state size other since stood =
    let longer = is_longer (Abort pgn) parts size other since (abort_is_no_request pgn) stood.requested in
    let same = requested_once parts size other old.size old.pgn longer.before state.since longer.requested state.requested in
    longer.leaves (sym is ∙ sym same.pgn_is)

-- a request of an empty message opens no transfer
pub no_message : (parts : List Part) (empty pgn : ℕ) → empty ≡ 0 → IsClosed (Request empty pgn ∷ parts)
no_message parts empty pgn zero size other since stood =
    let same = at_request empty pgn parts size other since stood.requested in
    let none = same.size_is in
    let some = stood.requested.some in
    absurd (omega arith)

-- a request opens the transfer of its message
pub opened : (parts : List Part) (transfer : Transfer) → 1 ≤ transfer.size → HasPackets [] transfer → transfer.missing ≡ 1
    → IsStateOf (Request transfer.size transfer.pgn ∷ parts) transfer
opened parts transfer some has first =
    state_of (Request transfer.size transfer.pgn ∷ parts) [] transfer (record { earlier = parts; split = refl; some = some; stays = tt }) has
    (omega (arith, first))

pub opened_as : (parts : List Part) (size pgn : ℕ) (transfer : Transfer) → 0 < size → transfer.size ≡ size → transfer.pgn ≡ pgn → HasPackets [] transfer
    → transfer.missing ≡ 1 → IsStateOf (Request size pgn ∷ parts) transfer
opened_as parts size pgn transfer some of_size of_pgn has first =
    let P : ℕ → Type 0 = λ s. IsStateOf (Request s pgn ∷ parts) transfer in
    let Q : ℕ → Type 0 = λ p. IsStateOf (Request transfer.size p ∷ parts) transfer in
    subst P of_size (subst Q of_pgn (opened parts transfer (omega arith) has first))

module _ (parts : List Part) (number : ℕ) (bytes : List ℕ) (old new : Transfer) (size : new.size ≡ old.size) (pgn : new.pgn ≡ old.pgn)
    (put : (since : List Part) → HasPackets since old → HasPackets (Packet number bytes ∷ since) new) (state : IsStateOf parts old) where
  requested : IsRequested (Packet number bytes ∷ parts) new.size new.pgn (Packet number bytes ∷ state.since)
  requested =
      let more = one_more (Packet number bytes) parts old.size old.pgn state.since tt state.requested in
      let P : ℕ → Type 0 = λ s. IsRequested (Packet number bytes ∷ parts) s new.pgn (Packet number bytes ∷ state.since) in
      let Q : ℕ → Type 0 = λ p. IsRequested (Packet number bytes ∷ parts) old.size p (Packet number bytes ∷ state.since) in
      subst P (sym size) (subst Q (sym pgn) more)

  has : HasPackets (Packet number bytes ∷ state.since) new
  has = put state.since (has_packets parts old state)

  -- the transfer lacks a packet still
  pub put_open : new.missing ≤ packet_count new.size → IsStateOf (Packet number bytes ∷ parts) new
  put_open upto = state_of (Packet number bytes ∷ parts) (Packet number bytes ∷ state.since) new requested has upto

  pub put_lacks : new.missing ≤ packet_count new.size → (message : Message) → MakesWhole parts (Packet number bytes) message → ⊥
  put_lacks upto message whole =
      let same = requested_once parts whole.size message.pgn old.size old.pgn whole.since state.since whole.transfer.requested state.requested in
      let of_size : whole.size ≡ new.size = same.size_is ∙ sym size in
      let of_since : Packet number bytes ∷ whole.since ≡ Packet number bytes ∷ state.since = ap (λ (l : List Part). Packet number bytes ∷ l) same.since_is in
      let P : List Part → Type 0 = λ l. HasAll l whole.size whole.packets in
      let Q : ℕ → Type 0 = λ s. HasAll (Packet number bytes ∷ state.since) s whole.packets in
      lacks_from_missing (Packet number bytes ∷ state.since) new.size new.missing has.within.0 upto (has.missing upto) whole.packets (subst Q of_size (subst P of_since whole.all))

  -- the transfer is whole
  whole_packets : packet_count new.size < new.missing → (packets : List (List ℕ)) × HasAll (Packet number bytes ∷ state.since) new.size packets
  whole_packets past =
      let made = all_from_places (Packet number bytes ∷ state.since) (packet_count new.size) (λ place from upto. has.before place from (omega arith)) in
      (made.0, record { places = made.1.0; all = made.1.1 })

  pub put_closes : packet_count new.size < new.missing → IsClosed (Packet number bytes ∷ parts)
  put_closes past size' pgn' since' stood =
      let same = requested_once (Packet number bytes ∷ parts) size' pgn' new.size new.pgn since' (Packet number bytes ∷ state.since) stood.requested requested in
      let all = whole_packets past in
      let P : List Part → Type 0 = λ l. HasAll l new.size all.0 in
      let Q : ℕ → Type 0 = λ s. HasAll since' s all.0 in
      stood.lacks all.0 (subst Q (sym same.size_is) (subst P (sym same.since_is) all.1))

  put_whole : packet_count new.size < new.missing → (message : List ℕ)
      → ((since : List Part) (packets : List (List ℕ)) → HasPackets since new → HasAll since new.size packets → message ≡ take new.size (joined packets))
      → MakesWhole parts (Packet number bytes) (record { pgn = new.pgn; bytes = message })
  put_whole past message is =
      let all = whole_packets past in
      let P : ℕ → Type 0 = λ p. IsOpen parts new.size p state.since in
      let Q : ℕ → Type 0 = λ s. IsOpen parts s old.pgn state.since in
      record {
        size = new.size;
        since = state.since;
        transfer = subst P (sym pgn) (subst Q (sym size) (open_of parts old state));
        packet = tt;
        packets = all.0;
        all = all.1;
        bytes = is (Packet number bytes ∷ state.since) all.0 has all.1;
      }

  -- the transfer that was taken out is the one that is whole
  pub taken_whole : packet_count new.size < new.missing → (taken : Transfer) → taken ≡ new → (message : List ℕ)
      → ((since : List Part) (packets : List (List ℕ)) → HasPackets since taken → HasAll since taken.size packets → message ≡ take taken.size (joined packets))
      → MakesWhole parts (Packet number bytes) (record { pgn = taken.pgn; bytes = message })
  taken_whole past taken same message is =
      let P : Transfer → Type 0 = λ t. MakesWhole parts (Packet number bytes) (record { pgn = t.pgn; bytes = message }) in
      let Q : Transfer → Type 0 = λ t. (since : List Part) (packets : List (List ℕ)) → HasPackets since t → HasAll since t.size packets → message ≡ take t.size (joined packets) in
      subst P (sym same) (put_whole past message (subst Q same is))

-- a transfer of which the test says that it is not whole
pub not_whole : (b : Bool) (transfer : Transfer) → IsTrue b ↔ (packet_count transfer.size < transfer.missing) → b ≡ false
    → transfer.missing ≤ packet_count transfer.size
not_whole b transfer says fails =
    ⊎_elim (λ (past : packet_count transfer.size < transfer.missing). absurd (false≢true (sym fails ∙ says.1 past))) (λ upto. upto)
    (cases_lt (packet_count transfer.size) transfer.missing)
