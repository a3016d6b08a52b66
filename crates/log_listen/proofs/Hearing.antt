-- What a frame says in each channel, and the transfers that it ends.
use Rattle.std.proofs.Common.{◌≡◌, ◌≢◌, ◌<◌, ◌≤◌, ◌+◌, ◌-◌, ℕ, length, zero, suc, ◌^◌, eqb, cond, Bool, true, false, Option, Some, None, List, [], ◌∷◌, ◌++◌, refl, sym, ap, ◌∙◌, subst, ⊎_elim, append-nil, lit<, arith}
use Rattle.std.specs.List.{All, Contains, cons_option}
use Rattle.std.specs.Prelude.{slice_index_or}
use Rattle.std.specs.Ordering.{nat_cmp}
use Rattle.std.specs.BTreeMap.{get}
use Rattle.std.proofs.lemmas.Bool.{cases_eq, cond_both, eq-eqb, eqb-false, ne_eqb}
use Rattle.std.proofs.lemmas.List.{get_or_append_left, get_or-append_right, length-append}
use Rattle.std.proofs.lemmas.List.Elements.{All-cons, All-nil, Contains-append_left, Contains-append_right, Contains-append_cases}
use Rattle.vt_can.specs.declared.frames.frame.Frame.{Frame}
use Rattle.vt_can.specs.frames.Identifier.{parts_of, pgn_of, destination_of}
use Rattle.vt_can.specs.frames.Frame.{source_of}
use Rattle.log_listen.specs.declared.broken.Broken.{Broken}
use Rattle.log_listen.specs.declared.part.Part.{Part}
use Rattle.log_listen.specs.declared.part.Part.TheVariants.{Request, Packet, Offset, Abort}
use Rattle.log_listen.specs.declared.transfer.Transfer.{Transfer}
use Rattle.log_listen.specs.declared.listener.Ends.{Ends}
use Rattle.log_listen.specs.declared.listener.Listener.{Listener}
use Rattle.log_listen.specs.Parts.{is_extended, part_in}
use Rattle.log_listen.specs.Channels.{channel_of, sent, refused, said_to, said, parts_in}
use Rattle.log_listen.specs.declared.sent_message.SentMessage.{SentMessage}
use Rattle.log_listen.specs.Transfers.{IsOpen, Completes}
use Rattle.log_listen.specs.Listeners as listeners
use Rattle.log_listen.specs.Listeners.{IsFirstMissing, IsStateOf, IsEntryOf, HasHeard, IsAnswer, IsBrokenBy, AreBrokenBy, message_of}
use Rattle.log_listen.specs.Steps.{channel_between, swapped, said_between, broken_of, told_by, told_in_both, IsMadeWhole}
use Rattle.log_listen.proofs.Requests.{requested_once}
use Rattle.log_listen.proofs.Packets.{first_missing_once}
use Rattle.log_listen.proofs.Entries.{open_of}
use Rattle.log_listen.proofs.Channels.{same_channel, back_apart, small_source, small_destination}
use Rattle.log_listen.proofs.Maps.{Transfers, Takes, said_alone}

-- a frame says a part, from one end to the other
pub record IsFrameOf (frame : Frame) (ends : Ends) (part : Part) : Type 0 where
  pub destination_is : destination_of (parts_of frame.id) ≡ Some ends.destination
  pub source_is : ends.source ≡ source_of frame
  pub extended_is : ends.is_extended ≡ is_extended (pgn_of (parts_of frame.id))
  pub part_is : part_in frame ≡ Some part

abbrev said_with : ℕ → ℕ → Option Part → Bool → ℕ → Option Part
said_with channel destination o extended source =
    cond (eqb channel (channel_of extended source destination)) (sent o) (cond (eqb channel (channel_of extended destination source)) (refused o) None)

pub said_is : (frame : Frame) (ends : Ends) (part : Part) → IsFrameOf frame ends part → (channel : ℕ) → said channel frame ≡ said_between ends part channel
said_is frame ends part of channel =
    ap (said_to channel frame) of.destination_is
    ∙ ap (λ o. said_with channel ends.destination o (is_extended (pgn_of (parts_of frame.id))) (source_of frame)) of.part_is
    ∙ ap (λ e. said_with channel ends.destination (Some part) e (source_of frame)) (sym of.extended_is)
    ∙ ap (λ s. said_with channel ends.destination (Some part) ends.is_extended s) (sym of.source_is)

-- what is told at the entry of a channel
pub record IsTold (ends : Ends) (o : Option Part) (entry : Option Transfer) (broken : Broken) : Type 0 where
  pub transfer : Transfer
  pub stood : entry ≡ Some transfer
  pub is : broken_of ends transfer ≡ broken
  pub ended : listeners.Ends transfer.pgn o

none_contained : (broken : Broken) → Contains [] broken → ⊥
none_contained broken has = absurd (let below = has.1 in omega arith)

the_one : (x y : Broken) → Contains (x ∷ []) y → x ≡ y
the_one x y (zero, below, is) = is
the_one x y (suc k, below, is) = absurd (omega arith)

one_contained : (x y : Broken) → x ≡ y → Contains (x ∷ []) y
one_contained x y is = (0, lit< tt, is)

is_told : (ends : Ends) (o : Option Part) (entry : Option Transfer) (broken : Broken) → Contains (told_by ends o entry) broken → IsTold ends o entry broken
is_told ends None entry broken has = absurd (none_contained broken has)
is_told ends (Some part) None broken has = absurd (none_contained broken has)
is_told ends (Some (Request size pgn)) (Some transfer) broken has = record { transfer = transfer; stood = refl; is = the_one _ broken has; ended = tt }
is_told ends (Some (Packet number bytes)) (Some transfer) broken has = absurd (none_contained broken has)
is_told ends (Some (Offset packets)) (Some transfer) broken has = absurd (none_contained broken has)
is_told ends (Some (Abort pgn)) (Some transfer) broken has =
    ⊎_elim
    (λ (same : transfer.pgn ≡ pgn).
    let has' = subst (λ b. Contains (cond b (broken_of ends transfer ∷ []) []) broken) (eq-eqb transfer.pgn pgn same) has in
    record { transfer = transfer; stood = refl; is = the_one _ broken has'; ended = sym same })
    (λ (apart : transfer.pgn ≡ pgn → ⊥).
    absurd (none_contained broken (subst (λ b. Contains (cond b (broken_of ends transfer ∷ []) []) broken) (ne_eqb transfer.pgn pgn apart) has)))
    (cases_eq transfer.pgn pgn)

tells : (ends : Ends) (o : Option Part) (transfer : Transfer) (broken : Broken) → broken_of ends transfer ≡ broken → listeners.Ends transfer.pgn o
    → Contains (told_by ends o (Some transfer)) broken
tells ends None transfer broken is ended = absurd ended
tells ends (Some (Request size pgn)) transfer broken is ended = one_contained _ broken is
tells ends (Some (Packet number bytes)) transfer broken is ended = absurd ended
tells ends (Some (Offset packets)) transfer broken is ended = absurd ended
tells ends (Some (Abort pgn)) transfer broken is ended =
    subst (λ b. Contains (cond b (broken_of ends transfer ∷ []) []) broken) (sym (eq-eqb transfer.pgn pgn (sym ended))) (one_contained _ broken is)

abbrev broken_with : ℕ → ℕ → ℕ → ℕ → ℕ → Broken
broken_with source destination pgn size missing = record { source = source; destination = destination; pgn = pgn; size = size; missing = missing }

same_broken : (ends : Ends) (transfer : Transfer) (broken : Broken) → broken.source ≡ ends.source → broken.destination ≡ ends.destination
    → broken.pgn ≡ transfer.pgn → broken.size ≡ transfer.size → broken.missing ≡ transfer.missing → broken_of ends transfer ≡ broken
same_broken ends transfer broken source destination pgn size missing =
    sym (ap (λ s. broken_with s broken.destination broken.pgn broken.size broken.missing) source
    ∙ ap (λ d. broken_with ends.source d broken.pgn broken.size broken.missing) destination
    ∙ ap (λ p. broken_with ends.source ends.destination p broken.size broken.missing) pgn
    ∙ ap (λ s. broken_with ends.source ends.destination transfer.pgn s broken.missing) size
    ∙ ap (λ m. broken_with ends.source ends.destination transfer.pgn transfer.size m) missing)

-- a transfer that stood at the entry of its channel is told
told_at : (ends : Ends) (o : Option Part) (parts : List Part) (entry : Option Transfer) → IsEntryOf parts entry → (broken : Broken) (since : List Part)
    → broken.source ≡ ends.source → broken.destination ≡ ends.destination → IsOpen parts broken.size broken.pgn since
    → IsFirstMissing since broken.size broken.missing → listeners.Ends broken.pgn o → Contains (told_by ends o entry) broken
told_at ends o parts None has broken since source destination stood missing ended = absurd (has.closed refl broken.size broken.pgn since stood)
told_at ends o parts (Some transfer) has broken since source destination stood missing ended =
    let state = has.stands transfer refl in
    let same = requested_once parts broken.size broken.pgn transfer.size transfer.pgn since state.since stood.requested state.requested in
    let P : List Part → Type 0 = λ l. IsFirstMissing l broken.size broken.missing in
    let Q : ℕ → Type 0 = λ s. IsFirstMissing state.since s broken.missing in
    let first = first_missing_once state.since transfer.size broken.missing transfer.missing (subst Q same.size_is (subst P same.since_is missing)) state.missing in
    tells ends o transfer broken (same_broken ends transfer broken source destination same.pgn_is same.size_is first)
    (let R : ℕ → Type 0 = λ p. listeners.Ends p o in subst R same.pgn_is ended)

-- what is told at the entry of a channel is a transfer that the frame ends
broken_from : (frames : List Frame) (frame : Frame) (ends : Ends) (o : Option Part) (listener : Listener) → HasHeard frames listener → ends.source < 2 ^ 8 → ends.destination < 2 ^ 8
    → said (channel_between ends) frame ≡ o → (broken : Broken) → Contains (told_by ends o (get nat_cmp listener.transfers (channel_between ends))) broken
    → IsBrokenBy frames frame broken
broken_from frames frame ends o listener heard small small' says broken has =
    let told = is_told ends o (get nat_cmp listener.transfers (channel_between ends)) broken has in
    let state = (heard (channel_between ends)).stands told.transfer told.stood in
    let made : IsBrokenBy frames frame (broken_of ends told.transfer) = record {
      addresses = (small, small');
      extended = ends.is_extended;
      since = state.since;
      stood = open_of (parts_in (channel_between ends) frames) told.transfer state;
      ended = let P : Option Part → Type 0 = λ o. listeners.Ends told.transfer.pgn o in subst P (sym says) told.ended;
      missing = state.missing;
    } in
    subst (IsBrokenBy frames frame) told.is made

-- what is told of the other channel, which there is if the ends are two
abbrev told_back : Ends → Option Part → Listener → Bool → List Broken
told_back ends o listener one = cond one [] (told_by (swapped ends) o (get nat_cmp listener.transfers (channel_between (swapped ends))))

-- at most one transfer is told of a channel, with its source
told_by_once : (ends : Ends) (o : Option Part) (entry : Option Transfer) → length (told_by ends o entry) ≤ 1
told_by_once ends None entry = omega arith
told_by_once ends (Some part) None = omega arith
told_by_once ends (Some (Request size pgn)) (Some transfer) = omega arith
told_by_once ends (Some (Packet number bytes)) (Some transfer) = omega arith
told_by_once ends (Some (Offset packets)) (Some transfer) = omega arith
told_by_once ends (Some (Abort pgn)) (Some transfer) =
    cond_both (eqb transfer.pgn pgn) (broken_of ends transfer ∷ []) [] (λ list. length list ≤ 1) (λ is. omega arith) (λ is_not. omega arith)

one_from : (ends : Ends) (transfer : Transfer) → All (λ (broken : Broken). broken.source ≡ ends.source) (broken_of ends transfer ∷ [])
one_from ends transfer =
    All-cons (λ (broken : Broken). broken.source ≡ ends.source) (broken_of ends transfer) [] refl (All-nil (λ (broken : Broken). broken.source ≡ ends.source))

told_by_source : (ends : Ends) (o : Option Part) (entry : Option Transfer) → All (λ broken. broken.source ≡ ends.source) (told_by ends o entry)
told_by_source ends None entry = All-nil (λ (broken : Broken). broken.source ≡ ends.source)
told_by_source ends (Some part) None = All-nil (λ (broken : Broken). broken.source ≡ ends.source)
told_by_source ends (Some (Request size pgn)) (Some transfer) = one_from ends transfer
told_by_source ends (Some (Packet number bytes)) (Some transfer) = All-nil (λ (broken : Broken). broken.source ≡ ends.source)
told_by_source ends (Some (Offset packets)) (Some transfer) = All-nil (λ (broken : Broken). broken.source ≡ ends.source)
told_by_source ends (Some (Abort pgn)) (Some transfer) =
    cond_both (eqb transfer.pgn pgn) (broken_of ends transfer ∷ []) [] (λ list. All (λ (broken : Broken). broken.source ≡ ends.source) list)
    (λ is. one_from ends transfer)
    (λ is_not. All-nil (λ (broken : Broken). broken.source ≡ ends.source))

told_back_once : (ends : Ends) (o : Option Part) (listener : Listener) (one : Bool) → length (told_back ends o listener one) ≤ 1
told_back_once ends o listener true = omega arith
told_back_once ends o listener false = told_by_once (swapped ends) o (get nat_cmp listener.transfers (channel_between (swapped ends)))

told_back_source : (ends : Ends) (o : Option Part) (listener : Listener) (one : Bool)
    → All (λ broken. (broken.source ≡ ends.destination) × (one ≡ false)) (told_back ends o listener one)
told_back_source ends o listener true k d within = absurd (omega (arith, within))
told_back_source ends o listener false k d within =
    (told_by_source (swapped ends) o (get nat_cmp listener.transfers (channel_between (swapped ends))) k d within, refl)

module _ (frames : List Frame) (frame : Frame) (ends : Ends) (part : Part) (of : IsFrameOf frame ends part) (listener : Listener) (heard : HasHeard frames listener) where
  small_here : ends.source < 2 ^ 8
  small_here = let P : ℕ → Type 0 = λ n. n < 2 ^ 8 in subst P (sym of.source_is) (small_source frame)

  small_there : ends.destination < 2 ^ 8
  small_there = small_destination frame ends.destination of.destination_is

  said_own : said (channel_between ends) frame ≡ sent (Some part)
  said_own =
      said_is frame ends part of (channel_between ends)
      ∙ ap (λ b. cond b (sent (Some part)) (cond (eqb (channel_between ends) (channel_between (swapped ends))) (refused (Some part)) None))
      (eq-eqb (channel_between ends) (channel_between ends) refl)

  said_other : (ends.source ≡ ends.destination → ⊥) → said (channel_between (swapped ends)) frame ≡ refused (Some part)
  said_other apart =
      said_is frame ends part of (channel_between (swapped ends))
      ∙ ap (λ b. cond b (sent (Some part)) (cond (eqb (channel_between (swapped ends)) (channel_between (swapped ends))) (refused (Some part)) None))
      (ne_eqb (channel_between (swapped ends)) (channel_between ends) (λ same. back_apart ends.is_extended ends.source ends.destination apart (sym same)))
      ∙ ap (λ b. cond b (refused (Some part)) None) (eq-eqb (channel_between (swapped ends)) (channel_between (swapped ends)) refl)

  only_told : (broken : Broken) → Contains (told_in_both ends part listener) broken → IsBrokenBy frames frame broken
  only_told broken has =
      ⊎_elim
      (λ at_own. broken_from frames frame ends (sent (Some part)) listener heard small_here small_there said_own broken at_own)
      (λ at_other. ⊎_elim
      (λ (same : ends.source ≡ ends.destination).
      absurd (none_contained broken (subst (λ b. Contains (told_back ends (refused (Some part)) listener b) broken) (eq-eqb ends.source ends.destination same) at_other)))
      (λ (apart : ends.source ≡ ends.destination → ⊥).
      broken_from frames frame (swapped ends) (refused (Some part)) listener heard small_there small_here (said_other apart) broken
      (subst (λ b. Contains (told_back ends (refused (Some part)) listener b) broken) (ne_eqb ends.source ends.destination apart) at_other))
      (cases_eq ends.source ends.destination))
      (Contains-append_cases (told_by ends (sent (Some part)) (get nat_cmp listener.transfers (channel_between ends)))
      (told_back ends (refused (Some part)) listener (eqb ends.source ends.destination)) broken has)

  told_in : (there : Ends) (o : Option Part) → there.source < 2 ^ 8 → there.destination < 2 ^ 8 → said (channel_between there) frame ≡ o
      → (broken : Broken) (by : IsBrokenBy frames frame broken) → channel_of by.extended broken.source broken.destination ≡ channel_between there
      → Contains (told_by there o (get nat_cmp listener.transfers (channel_between there))) broken
  told_in there o small small' says broken by is =
      let same = same_channel by.extended there.is_extended broken.source broken.destination there.source there.destination by.addresses.0 by.addresses.1 small small' is in
      let P : ℕ → Type 0 = λ channel. IsOpen (parts_in channel frames) broken.size broken.pgn by.since in
      let Q : ℕ → Type 0 = λ channel. listeners.Ends broken.pgn (said channel frame) in
      let R : Option Part → Type 0 = λ o. listeners.Ends broken.pgn o in
      told_at there o (parts_in (channel_between there) frames) (get nat_cmp listener.transfers (channel_between there)) (heard (channel_between there)) broken by.since
      same.source_is same.destination_is (subst P is by.stood) by.missing (subst R says (subst Q is by.ended))

  one_channel : ends.source ≡ ends.destination → channel_between (swapped ends) ≡ channel_between ends
  one_channel same = ap (λ (p : ℕ × ℕ). channel_of ends.is_extended p.0 p.1) (cc)

  says_none : (channel : ℕ) → (channel ≡ channel_between ends → ⊥) → (channel ≡ channel_between (swapped ends) → ⊥) → said channel frame ≡ None
  says_none channel apart apart' =
      said_is frame ends part of channel
      ∙ ap (λ b. cond b (sent (Some part)) (cond (eqb channel (channel_between (swapped ends))) (refused (Some part)) None)) (ne_eqb channel (channel_between ends) apart)
      ∙ ap (λ b. cond b (refused (Some part)) None) (ne_eqb channel (channel_between (swapped ends)) apart')

  all_told : (broken : Broken) → IsBrokenBy frames frame broken → Contains (told_in_both ends part listener) broken
  all_told broken by =
      let channel = channel_of by.extended broken.source broken.destination in
      let first = told_by ends (sent (Some part)) (get nat_cmp listener.transfers (channel_between ends)) in
      let second = told_back ends (refused (Some part)) listener (eqb ends.source ends.destination) in
      ⊎_elim
      (λ (own : channel ≡ channel_between ends).
      Contains-append_left first second broken (told_in ends (sent (Some part)) small_here small_there said_own broken by own))
      (λ (apart : channel ≡ channel_between ends → ⊥). ⊎_elim
      (λ (other : channel ≡ channel_between (swapped ends)).
      let two : ends.source ≡ ends.destination → ⊥ = λ same. apart (other ∙ one_channel same) in
      Contains-append_right first second broken
      (subst (λ b. Contains (told_back ends (refused (Some part)) listener b) broken) (sym (ne_eqb ends.source ends.destination two))
      (told_in (swapped ends) (refused (Some part)) small_there small_here (said_other two) broken by other)))
      (λ (apart' : channel ≡ channel_between (swapped ends) → ⊥).
      let P : Option Part → Type 0 = λ o. listeners.Ends broken.pgn o in
      absurd (subst P (says_none channel apart apart') by.ended))
      (cases_eq channel (channel_between (swapped ends))))
      (cases_eq channel (channel_between ends))

  -- two ends differ in their sources, so a transfer is told once
  each_once : (j k : ℕ) (d : Broken) → j < k → k < length (told_in_both ends part listener)
      → slice_index_or (told_in_both ends part listener) j d ≢ slice_index_or (told_in_both ends part listener) k d
  each_once j k d before within same =
      let first = told_by ends (sent (Some part)) (get nat_cmp listener.transfers (channel_between ends)) in
      let second = told_back ends (refused (Some part)) listener (eqb ends.source ends.destination) in
      let long : length (first ++ second) ≡ length first + length second = length-append first second in
      let one : length first ≤ 1 = told_by_once ends (sent (Some part)) (get nat_cmp listener.transfers (channel_between ends)) in
      let other : length second ≤ 1 = told_back_once ends (refused (Some part)) listener (eqb ends.source ends.destination) in
      let here : slice_index_or (first ++ second) j d ≡ slice_index_or first j d = get_or_append_left first second d j (omega (arith, before, within, long, one, other)) in
      let there : slice_index_or (first ++ second) k d ≡ slice_index_or second (k - length first) d
      = get_or-append_right first second (length first) k d refl (omega (arith, before, within, long, one, other)) in
      let at_first : (slice_index_or first j d).source ≡ ends.source
      = told_by_source ends (sent (Some part)) (get nat_cmp listener.transfers (channel_between ends)) j d (omega (arith, before, within, long, one, other)) in
      let at_second : ((slice_index_or second (k - length first) d).source ≡ ends.destination) × (eqb ends.source ends.destination ≡ false)
      = told_back_source ends (refused (Some part)) listener (eqb ends.source ends.destination) (k - length first) d (omega (arith, before, within, long, one, other)) in
      eqb-false ends.source ends.destination at_second.1
      (sym at_first ∙ ap (λ (it : Broken). it.source) (sym here ∙ same ∙ there) ∙ at_second.0)

  pub are_told : AreBrokenBy frames frame (told_in_both ends part listener)
  are_told = record {
    told = λ broken. (only_told broken, all_told broken);
    once = each_once;
  }

-- a frame that says nothing ends no transfer
pub none_broken : (frames : List Frame) (frame : Frame) → ((channel : ℕ) → said channel frame ≡ None) → AreBrokenBy frames frame []
none_broken frames frame silent = record {
  told = λ broken. (
    λ has. absurd (none_contained broken has),
    λ by. let P : Option Part → Type 0 = λ o. listeners.Ends broken.pgn o in
        absurd (subst P (silent (channel_of by.extended broken.source broken.destination)) by.ended),
  );
  once = λ j k d before within. absurd (omega (arith, within));
}

-- what is told of each part
none_back : (ends : Ends) (listener : Listener) (one : Bool) → told_back ends None listener one ≡ []
none_back ends listener true = refl
none_back ends listener false = refl

pub told_at_request : (ends : Ends) (size pgn : ℕ) (listener : Listener)
    → told_in_both ends (Request size pgn) listener ≡ told_by ends (Some (Request size pgn)) (get nat_cmp listener.transfers (channel_between ends))
told_at_request ends size pgn listener =
    let first = told_by ends (Some (Request size pgn)) (get nat_cmp listener.transfers (channel_between ends)) in
    ap (λ l. first ++ l) (none_back ends listener (eqb ends.source ends.destination)) ∙ append-nil first

none_at_packet : (ends : Ends) (number : ℕ) (bytes : List ℕ) (entry : Option Transfer) → told_by ends (Some (Packet number bytes)) entry ≡ []
none_at_packet ends number bytes None = refl
none_at_packet ends number bytes (Some transfer) = refl

none_at_offset : (ends : Ends) (packets : ℕ) (entry : Option Transfer) → told_by ends (Some (Offset packets)) entry ≡ []
none_at_offset ends packets None = refl
none_at_offset ends packets (Some transfer) = refl

pub told_at_packet : (ends : Ends) (number : ℕ) (bytes : List ℕ) (listener : Listener) → told_in_both ends (Packet number bytes) listener ≡ []
told_at_packet ends number bytes listener =
    ap (λ l. l ++ told_back ends None listener (eqb ends.source ends.destination)) (none_at_packet ends number bytes (get nat_cmp listener.transfers (channel_between ends)))
    ∙ none_back ends listener (eqb ends.source ends.destination)

pub told_at_offset : (ends : Ends) (packets : ℕ) (listener : Listener) → told_in_both ends (Offset packets) listener ≡ []
told_at_offset ends packets listener =
    ap (λ l. l ++ told_back ends None listener (eqb ends.source ends.destination)) (none_at_offset ends packets (get nat_cmp listener.transfers (channel_between ends)))
    ∙ none_back ends listener (eqb ends.source ends.destination)

-- a listener that has taken in what a frame says has heard it
pub hears : (frames : List Frame) (frame : Frame) (says : ℕ → Option Part) → ((channel : ℕ) → said channel frame ≡ says channel) → (m n : Transfers) → Takes says m n
    → (channel : ℕ) → IsEntryOf (parts_in channel frames) (get nat_cmp m channel) → IsEntryOf (cons_option (said channel frame) (parts_in channel frames)) (get nat_cmp n channel)
hears frames frame says is m n takes channel has =
    let P : Option Part → Type 0 = λ o. IsEntryOf (cons_option o (parts_in channel frames)) (get nat_cmp n channel) in
    subst P (sym (is channel)) (takes channel (parts_in channel frames) has)

-- the answer to a packet
pub answers : (frames : List Frame) (frame : Frame) (ends : Ends) (number : ℕ) (bytes : List ℕ) → IsFrameOf frame ends (Packet number bytes) → (answer : Option SentMessage)
    → IsMadeWhole ends (parts_in (channel_between ends) frames) (Packet number bytes) answer → IsAnswer frames frame answer
answers frames frame ends number bytes of None made = λ channel message completes.
    let P : Option Part → Type 0 = λ o. Completes (parts_in channel frames) o message in
    let says = said_is frame ends (Packet number bytes) of channel
    ∙ sym (said_alone (eqb channel (channel_between ends)) (eqb channel (channel_between (swapped ends))) (Packet number bytes) (Some (Packet number bytes)) None refl refl) in
    ⊎_elim
    (λ (own : channel ≡ channel_between ends).
    let Q : ℕ → Type 0 = λ c. Completes (parts_in c frames) (Some (Packet number bytes)) message in
    made message (subst Q own (subst P (says ∙ ap (λ b. cond b (Some (Packet number bytes)) None) (eq-eqb channel (channel_between ends) own)) completes)))
    (λ (apart : channel ≡ channel_between ends → ⊥).
    absurd (subst P (says ∙ ap (λ b. cond b (Some (Packet number bytes)) None) (ne_eqb channel (channel_between ends) apart)) completes))
    (cases_eq channel (channel_between ends))
answers frames frame ends number bytes of (Some whole) made =
    let P : Option Part → Type 0 = λ o. Completes (parts_in (channel_between ends) frames) o (message_of whole) in
    let says = said_is frame ends (Packet number bytes) of (channel_between ends)
    ∙ sym (said_alone (eqb (channel_between ends) (channel_between ends)) (eqb (channel_between ends) (channel_between (swapped ends))) (Packet number bytes) (Some (Packet number bytes)) None refl refl)
    ∙ ap (λ b. cond b (Some (Packet number bytes)) None) (eq-eqb (channel_between ends) (channel_between ends) refl) in (
      channel_between ends,
      (ends.is_extended, ap (λ s. channel_of ends.is_extended s ends.destination) (sym made.0) ∙ ap (λ d. channel_of ends.is_extended whole.source d) (sym made.1)),
      subst P (sym says) made.2,
    )
