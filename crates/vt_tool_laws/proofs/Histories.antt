-- The history of a source for a receiver, and the parts of its channel for a listener. Every list has the latest first.
use Rattle.std.proofs.Common.{◌≡◌, ◌<◌, ℕ, ◌+◌, ◌^◌, eqb, cond, Bool, true, false, Option, Some, None, List, [], ◌∷◌, ◌++◌, map, length, take, add-one, refl, sym, ap, ◌∙◌, subst, inl, inr, ⊎_elim, arith}
use Rattle.std.specs.List.{cons_option}
use Rattle.std.proofs.lemmas.Bool.{eqb-true, eqb-false}
use Rattle.vt_can.specs.declared.frames.frame.Frame.{Frame}
use Rattle.vt_can.specs.frames.Frame.{source_of}
use Rattle.vt_can.specs.transport.Messages.{Message, joined}
use Rattle.vt_can.specs.transport.Protocols.{Protocol}
use Rattle.vt_can.specs.transport.Histories.{SessionEvent, Came, TimedOut, Spelling, untimed, AreQuiet, IsWhole}
use Rattle.vt_can.specs.transport.Steps.{session_after}
use Rattle.vt_can.specs.transport.Sessions.{is_overdue}
use Rattle.vt_can.specs.transport.Bus.{BusFrame, input_of}
use Rattle.vt_can.specs.transport.Marks.{marked, history_of, with_frame, RunsHandOutWholeMessages}
use Rattle.log_listen.specs.declared.part.Part.{Part}
use Rattle.log_listen.specs.declared.part.Part.TheVariants.{Request, Packet, Offset, Abort}
use Rattle.log_listen.specs.Channels.{channel_of, said, parts_in}
use Rattle.log_listen.specs.Transfers.{packet_count, offset_after, LeavesOpen, AllLeaveOpen, IsOpen, Completes}
use Rattle.log_listen.specs.Listeners.{CompletesAt}
use Rattle.log_listen.proofs.Packets.{lacks_from_missing}
use Rattle.vt_tool_laws.specs.ListenLaws.{IsRequest, IsRefusal, IsRefused, frames_of, MessagesAreHeard}
use Rattle.vt_tool_laws.proofs.Parts.{IsData, kept, kept_data, packet_kept}
use Rattle.vt_tool_laws.proofs.Places.{Holds, holds_more, at_places_kept}
use Rattle.vt_tool_laws.proofs.Channels.{Refuses, says_of_another}

data_leaves : (pgn : ℕ) (part : Part) → IsData part → LeavesOpen pgn part
data_leaves pgn (Request size other) data' = absurd data'
data_leaves pgn (Packet number bytes) data' = tt
data_leaves pgn (Offset packets) data' = tt
data_leaves pgn (Abort other) data' = absurd data'

data_is_no_request : (part : Part) → IsData part → IsRequest (Some part) → ⊥
data_is_no_request (Request size pgn) data' asks = data'
data_is_no_request (Packet number bytes) data' asks = asks
data_is_no_request (Offset packets) data' asks = asks
data_is_no_request (Abort pgn) data' asks = asks

-- the decoded frames and the requests of a spelling
abbrev pub FrameOf : {F O P : Type 0} → Spelling F O P → Type 0
FrameOf {F} {O} {P} words = F

abbrev pub RequestOf : {F O P : Type 0} → Spelling F O P → Type 0
RequestOf {F} {O} {P} words = O

-- how a protocol reads the frames of a channel
pub record Reading {S F R O P : Type 0} (protocol : Protocol S F R) (spelling : Spelling F O P) (extended : Bool) : Type 0 where
  pub loud : spelling.IsQuiet TimedOut → ⊥
  pub no_packet : (o : O) → spelling.IsPacket (Came (spelling.request o)) → ⊥
  pub asks : (own : ℕ) (frame : Frame) (o : O) → protocol.frame_in own frame ≡ Some (spelling.request o)
      → said (channel_of extended (source_of frame) own) frame ≡ Some (Request (spelling.size o) (spelling.pgn o))
  pub quiet : (own : ℕ) (frame : Frame) (f : F) (part : Part) → protocol.frame_in own frame ≡ Some f → spelling.IsQuiet (Came f)
      → said (channel_of extended (source_of frame) own) frame ≡ Some part → IsData part
  pub unread : (own : ℕ) (frame : Frame) → own < 2 ^ 8 → protocol.frame_in own frame ≡ None → said (channel_of extended (source_of frame) own) frame ≡ None

-- these parts came since a request, and the others are aborts of other parameter groups
pub record Follows (parts : List Part) (size pgn : ℕ) (brought : List Part) : Type 0 where
  pub since : List Part
  pub earlier : List Part
  pub split : parts ≡ since ++ Request size pgn ∷ earlier
  pub stays : AllLeaveOpen pgn since
  pub kept_is : kept since ≡ brought

at_request : (parts : List Part) (size pgn : ℕ) (o : Option Part) → o ≡ Some (Request size pgn) → Follows (cons_option o parts) size pgn []
at_request parts size pgn o is = record { since = []; earlier = parts; split = ap (λ o. cons_option o parts) is; stays = tt; kept_is = refl }

with_data : (parts : List Part) (size pgn : ℕ) (brought : List Part) (part : Part) → IsData part → Follows parts size pgn brought → Follows (part ∷ parts) size pgn (part ∷ brought)
with_data parts size pgn brought part data' follows = record {
  since = part ∷ follows.since;
  earlier = follows.earlier;
  split = ap (λ l. part ∷ l) follows.split;
  stays = (data_leaves pgn part data', follows.stays);
  kept_is = kept_data part follows.since data' ∙ ap (λ l. part ∷ l) follows.kept_is;
}

with_option : (parts : List Part) (size pgn : ℕ) (brought : List Part) (o : Option Part) → ((part : Part) → o ≡ Some part → IsData part) → Follows parts size pgn brought
    → Follows (cons_option o parts) size pgn (cons_option o brought)
with_option parts size pgn brought None data' follows = follows
with_option parts size pgn brought (Some part) data' follows = with_data parts size pgn brought part (data' part refl) follows

with_abort : (parts : List Part) (size pgn : ℕ) (brought : List Part) (other : ℕ) → (other ≡ pgn → ⊥) → Follows parts size pgn brought → Follows (Abort other ∷ parts) size pgn brought
with_abort parts size pgn brought other apart follows = record {
  since = Abort other ∷ follows.since;
  earlier = follows.earlier;
  split = ap (λ l. Abort other ∷ l) follows.split;
  stays = (apart, follows.stays);
  kept_is = follows.kept_is;
}

-- what is not refused with one more frame, which is no request, was not refused before
not_refused : (channel pgn : ℕ) (frame : Frame) (frames : List Frame) → (IsRequest (said channel frame) → ⊥) → (IsRefused channel pgn (frame ∷ frames) → ⊥)
    → IsRefused channel pgn frames → ⊥
not_refused channel pgn frame frames quiet free refused = free (inr (quiet, refused))

asks_none : (o : Option Part) → ((part : Part) → o ≡ Some part → IsData part) → IsRequest o → ⊥
asks_none None data' asks = asks
asks_none (Some part) data' asks = data_is_no_request part (data' part refl) asks

none_asks : (o : Option Part) → o ≡ None → IsRequest o → ⊥
none_asks o is asks = subst IsRequest is asks

module _ {S F R : Type 0} (protocol : Protocol S F R) (own source : ℕ) where
  -- a frame of the source, as a session event
  pub record IsDecoded (frame : Frame) (h : SessionEvent F) : Type 0 where
    pub f : F
    pub is : h ≡ Came f
    pub decodes : protocol.frame_in own frame ≡ Some f
    pub from : source_of frame ≡ source

  abbrev pub AreDecoded : List Frame → List (SessionEvent F) → Type 0
  AreDecoded [] [] = Unit {0}
  AreDecoded [] (h ∷ hs) = ⊥
  AreDecoded (frame ∷ frames) [] = ⊥
  AreDecoded (frame ∷ frames) (h ∷ hs) = IsDecoded frame h × AreDecoded frames hs

module _ {S F R O P : Type 0} (protocol : Protocol S F R) (spelling : Spelling F O P) (extended : Bool)
    (reading : Reading protocol spelling extended) (own source : ℕ) (small : own < 2 ^ 8) (small' : source < 2 ^ 8) where
  abbrev inputs : List (ℕ × Frame) → List (BusFrame F)
  inputs timed = map (λ t. input_of protocol own t.0 t.1) timed

  abbrev history : List (ℕ × Frame) → List (ℕ × SessionEvent F)
  history timed = history_of protocol source (inputs timed)

  -- no timeout ends a history whose later session events are quiet
  unmarked : (overdue : Bool) (now : ℕ) (xs : List (ℕ × SessionEvent F)) (later earlier : List (SessionEvent F)) (f : F)
      → untimed (cond overdue ((now, TimedOut) ∷ xs) xs) ≡ later ++ Came f ∷ earlier → AreQuiet spelling later → untimed xs ≡ later ++ Came f ∷ earlier
  unmarked true now xs [] earlier f is quiet = absurd (let e = is in cc)
  unmarked true now xs (h ∷ later) earlier f is quiet =
      let e = is in
      let head : h ≡ TimedOut = cc in
      absurd (reading.loud (subst spelling.IsQuiet head quiet.0))
  unmarked false now xs later earlier f is quiet = is

  -- the frames of the later session events, and what they say in the channel
  pub record Continued (frames : List Frame) (later : List (SessionEvent F)) (o : O) : Type 0 where
    pub came : List Frame
    pub decoded : AreDecoded protocol own source came later
    pub follows : Follows (parts_in (channel_of extended source own) frames) (spelling.size o) (spelling.pgn o) (parts_in (channel_of extended source own) came)

  abbrev Continues : List (ℕ × Frame) → Type 0
  Continues timed = (later earlier : List (SessionEvent F)) (o : O) → untimed (history timed) ≡ later ++ Came (spelling.request o) ∷ earlier → AreQuiet spelling later
      → (IsRefused (channel_of extended source own) (spelling.pgn o) (frames_of timed) → ⊥) → Continued (frames_of timed) later o

  same_before : (frame : Frame) (frames : List Frame) (later : List (SessionEvent F)) (o : O) → said (channel_of extended source own) frame ≡ None → Continued frames later o
      → Continued (frame ∷ frames) later o
  same_before frame frames later o none before =
      let channel = channel_of extended source own in
      let P : Option Part → Type 0 = λ p. Follows (cons_option p (parts_in channel frames)) (spelling.size o) (spelling.pgn o) (parts_in channel before.came) in
      record { came = before.came; decoded = before.decoded; follows = subst P (sym none) before.follows }

  -- a frame of another source
  after_another : (frame : Frame) (timed : List (ℕ × Frame)) → (source_of frame ≡ source → ⊥) → Continues timed → (later earlier : List (SessionEvent F)) (o : O)
      → untimed (history timed) ≡ later ++ Came (spelling.request o) ∷ earlier → AreQuiet spelling later
      → (IsRefused (channel_of extended source own) (spelling.pgn o) (frame ∷ frames_of timed) → ⊥) → Continued (frame ∷ frames_of timed) later o
  after_another frame timed other continues later earlier o is quiet free =
      let channel = channel_of extended source own in
      let frames = frames_of timed in
      ⊎_elim
      (λ (none : said channel frame ≡ None).
      same_before frame frames later o none
      (continues later earlier o is quiet (not_refused channel (spelling.pgn o) frame frames (none_asks (said channel frame) none) free)))
      (λ (refuses : Refuses channel frame (said channel frame)).
      let before = continues later earlier o is quiet (not_refused channel (spelling.pgn o) frame frames (λ asks. subst IsRequest refuses.is asks) free) in
      let apart : refuses.pgn ≡ spelling.pgn o → ⊥ = λ same. free (inl (subst (λ pgn. IsRefusal channel pgn frame) same refuses.refusal)) in
      let P : Option Part → Type 0 = λ p. Follows (cons_option p (parts_in channel frames)) (spelling.size o) (spelling.pgn o) (parts_in channel before.came) in
      record {
        came = before.came;
        decoded = before.decoded;
        follows = subst P (sym refuses.is) (with_abort (parts_in channel frames) (spelling.size o) (spelling.pgn o) (parts_in channel before.came) refuses.pgn apart before.follows);
      })
      (says_of_another extended source own small' small frame other)

  -- a frame of the source
  after_frame : (frame : Frame) (f : F) (timed : List (ℕ × Frame)) → protocol.frame_in own frame ≡ Some f → source_of frame ≡ source → Continues timed
      → (hs later earlier : List (SessionEvent F)) (o : O) → Came f ∷ hs ≡ later ++ Came (spelling.request o) ∷ earlier
      → ((later' : List (SessionEvent F)) → hs ≡ later' ++ Came (spelling.request o) ∷ earlier → AreQuiet spelling later' → untimed (history timed) ≡ later' ++ Came (spelling.request o) ∷ earlier)
      → AreQuiet spelling later → (IsRefused (channel_of extended source own) (spelling.pgn o) (frame ∷ frames_of timed) → ⊥)
      → Continued (frame ∷ frames_of timed) later o
  after_frame frame f timed decodes from continues hs [] earlier o is unmark quiet free =
      let channel = channel_of extended source own in
      let e = is in
      let same : f ≡ spelling.request o = cc in
      let P : ℕ → Type 0 = λ s. said (channel_of extended s own) frame ≡ Some (Request (spelling.size o) (spelling.pgn o)) in
      record {
        came = [];
        decoded = tt;
        follows = at_request (parts_in channel (frames_of timed)) (spelling.size o) (spelling.pgn o) (said channel frame)
            (subst P from (reading.asks own frame o (decodes ∙ ap (λ (f : F). Some f) same)));
      }
  after_frame frame f timed decodes from continues hs (h ∷ later) earlier o is unmark quiet free =
      let channel = channel_of extended source own in
      let frames = frames_of timed in
      let e = is in
      let head : h ≡ Came f = cc in
      let tail : hs ≡ later ++ Came (spelling.request o) ∷ earlier = cc in
      let P : ℕ → Type 0 = λ s. (part : Part) → said (channel_of extended s own) frame ≡ Some part → IsData part in
      let data' : (part : Part) → said channel frame ≡ Some part → IsData part =
      subst P from (λ part says. reading.quiet own frame f part decodes (subst spelling.IsQuiet head quiet.0) says) in
      let calm : IsRequest (said channel frame) → ⊥ = asks_none (said channel frame) data' in
      let before = continues later earlier o (unmark later tail quiet.1) quiet.1 (not_refused channel (spelling.pgn o) frame frames calm free) in
      record {
        came = frame ∷ before.came;
        decoded = (record { f = f; is = head; decodes = decodes; from = from }, before.decoded);
        follows = with_option (parts_in channel frames) (spelling.size o) (spelling.pgn o) (parts_in channel before.came) (said channel frame) data' before.follows;
      }

  after_own : (now : ℕ) (frame : Frame) (timed : List (ℕ × Frame)) (decoded : Option F) → protocol.frame_in own frame ≡ decoded → source_of frame ≡ source → Continues timed
      → (later earlier : List (SessionEvent F)) (o : O) → untimed (with_frame now decoded (marked protocol now (history timed))) ≡ later ++ Came (spelling.request o) ∷ earlier
      → AreQuiet spelling later → (IsRefused (channel_of extended source own) (spelling.pgn o) (frame ∷ frames_of timed) → ⊥) → Continued (frame ∷ frames_of timed) later o
  after_own now frame timed None decodes from continues later earlier o is quiet free =
      let channel = channel_of extended source own in
      let frames = frames_of timed in
      let none : said channel frame ≡ None = subst (λ s. said (channel_of extended s own) frame ≡ None) from (reading.unread own frame small decodes) in
      same_before frame frames later o none
      (continues later earlier o (unmarked (is_overdue protocol.timeout now (session_after protocol (history timed))) now (history timed) later earlier (spelling.request o) is quiet) quiet
      (not_refused channel (spelling.pgn o) frame frames (none_asks (said channel frame) none) free))
  after_own now frame timed (Some f) decodes from continues later earlier o is quiet free =
      after_frame frame f timed decodes from continues (untimed (marked protocol now (history timed))) later earlier o is
      (λ later' is' quiet'. unmarked (is_overdue protocol.timeout now (session_after protocol (history timed))) now (history timed) later' earlier (spelling.request o) is' quiet') quiet free

  after_any : (now : ℕ) (frame : Frame) (timed : List (ℕ × Frame)) (from : Bool) → eqb (source_of frame) source ≡ from → Continues timed
      → (later earlier : List (SessionEvent F)) (o : O)
      → untimed (cond from (with_frame now (protocol.frame_in own frame) (marked protocol now (history timed))) (marked protocol now (history timed))) ≡ later ++ Came (spelling.request o) ∷ earlier
      → AreQuiet spelling later → (IsRefused (channel_of extended source own) (spelling.pgn o) (frame ∷ frames_of timed) → ⊥) → Continued (frame ∷ frames_of timed) later o
  after_any now frame timed true from continues later earlier o is quiet free =
      after_own now frame timed (protocol.frame_in own frame) refl (eqb-true (source_of frame) source from) continues later earlier o is quiet free
  after_any now frame timed false from continues later earlier o is quiet free =
      after_another frame timed (eqb-false (source_of frame) source from) continues later earlier o
      (unmarked (is_overdue protocol.timeout now (session_after protocol (history timed))) now (history timed) later earlier (spelling.request o) is quiet) quiet free

  -- the parts since the request are those of the later session events
  pub follow : (timed : List (ℕ × Frame)) → Continues timed
  follow [] [] earlier o is quiet free = absurd (let e = is in cc)
  follow [] (h ∷ later) earlier o is quiet free = absurd (let e = is in cc)
  follow (t ∷ timed) later earlier o is quiet free =
      after_any t.0 t.1 timed (eqb (source_of t.1) source) refl (follow timed) later earlier o is quiet free

  -- a frame is the last packet of a message, after the packets before it
  pub record IsLastOf (o : O) (came : List Frame) (packets : P) (frame : Frame) : Type 0 where
    pub number : ℕ
    pub bytes : List ℕ
    pub says : said (channel_of extended source own) frame ≡ Some (Packet number bytes)
    pub before : List (List ℕ)
    pub holds : Holds (parts_in (channel_of extended source own) came) before
    pub next : offset_after (parts_in (channel_of extended source own) came) + number ≡ length before + 1
    pub all : length before + 1 ≡ packet_count (spelling.size o)
    pub bytes_are : spelling.bytes packets ≡ joined (bytes ∷ before)

  -- Over the proof that the last packet of a history is that of the channel:
  module _ (last : (o : O) (packets : P) (frame : Frame) (came : List Frame) (h : SessionEvent F) (later : List (SessionEvent F)) → IsDecoded protocol own source frame h
      → AreDecoded protocol own source came later → spelling.opens o ≡ true → AreQuiet spelling (h ∷ later) → spelling.Brings o (h ∷ later) packets
      → spelling.count packets ≡ spelling.total o → spelling.IsPacket h → IsLastOf o came packets frame) where
    whole_after : (frame : Frame) (frames : List Frame) (o : O) (packets : P) (later : List (SessionEvent F)) (message : Message) (continued : Continued frames later o)
        → IsLastOf o continued.came packets frame → message.pgn ≡ spelling.pgn o → message.bytes ≡ take (spelling.size o) (spelling.bytes packets)
        → Completes (parts_in (channel_of extended source own) frames) (said (channel_of extended source own) frame) message
    whole_after frame frames o packets later message continued is pgn bytes =
        let parts = parts_in (channel_of extended source own) frames in
        let follows = continued.follows in
        let holds : Holds (kept follows.since) is.before = subst (λ l. Holds l is.before) (sym follows.kept_is) is.holds in
        let next : offset_after (kept follows.since) + is.number ≡ length is.before + 1 =
        ap (λ l. offset_after l + is.number) follows.kept_is ∙ is.next in
        let more = holds_more (kept follows.since) is.before is.number is.bytes next holds in
        let count = is.all in
        let P : Option Part → Type 0 = λ p. Completes parts p message in
        let Q : ℕ → Type 0 = λ p. IsOpen parts (spelling.size o) p follows.since in
        subst P (sym is.says) (record {
          size = spelling.size o;
          since = follows.since;
          transfer = subst Q (sym pgn) (record {
            requested = record { earlier = follows.earlier; split = follows.split; some = omega arith; stays = follows.stays };
            lacks = lacks_from_missing follows.since (spelling.size o) (length is.before + 1) (omega arith) (omega arith)
                (sym (packet_kept (length is.before + 1) follows.since) ∙ holds.above (length is.before + 1) (omega arith));
          });
          packet = tt;
          packets = is.bytes ∷ is.before;
          all = record { places = at_places_kept (Packet is.number is.bytes ∷ follows.since) (is.bytes ∷ is.before) more.places; all = sym (add-one (length is.before)) ∙ count };
          bytes = bytes ∙ ap (take (spelling.size o)) is.bytes_are;
        })

    heard_after : (timed : List (ℕ × Frame)) (now : ℕ) (frame : Frame) (f : F) (message : Message) → protocol.frame_in own frame ≡ Some f → source_of frame ≡ source
        → (hs later earlier : List (SessionEvent F)) (o : O) (packets : P) → hs ≡ untimed (marked protocol now (history timed)) → Came f ∷ hs ≡ later ++ Came (spelling.request o) ∷ earlier
        → spelling.opens o ≡ true → AreQuiet spelling later → spelling.Brings o later packets → spelling.count packets ≡ spelling.total o → spelling.IsPacket (Came f)
        → message.pgn ≡ spelling.pgn o → message.bytes ≡ take (spelling.size o) (spelling.bytes packets)
        → (IsRefused (channel_of extended source own) message.pgn (frames_of timed) → ⊥)
        → CompletesAt (frames_of timed) frame (channel_of extended source own) message
    heard_after timed now frame f message decodes from hs [] earlier o packets hs_are split opened quiet brought all packet pgn bytes free =
        let e = split in
        let same : f ≡ spelling.request o = cc in
        absurd (reading.no_packet o (subst (λ (f : F). spelling.IsPacket (Came f)) same packet))
    heard_after timed now frame f message decodes from hs (h ∷ later) earlier o packets hs_are split opened quiet brought all packet pgn bytes free =
        let e = split in
        let head : h ≡ Came f = cc in
        let tail : hs ≡ later ++ Came (spelling.request o) ∷ earlier = cc in
        let is = unmarked (is_overdue protocol.timeout now (session_after protocol (history timed))) now (history timed) later earlier (spelling.request o) (sym hs_are ∙ tail) quiet.1 in
        let continued = follow timed later earlier o is quiet.1 (λ refused. free (subst (λ p. IsRefused (channel_of extended source own) p (frames_of timed)) (sym pgn) refused)) in
        whole_after frame (frames_of timed) o packets later message continued
        (last o packets frame continued.came h later (record { f = f; is = head; decodes = decodes; from = from }) continued.decoded opened quiet brought all
        (subst spelling.IsPacket (sym head) packet)) pgn bytes

-- where a receiver hands a message out, a listener does
pub heard : {S F R O P : Type 0} (protocol : Protocol S F R) (spelling : Spelling F O P) (extended : Bool) → Reading protocol spelling extended
    → ((own source : ℕ) (small : own < 2 ^ 8) (small' : source < 2 ^ 8) (reading : Reading protocol spelling extended) (o : O) (packets : P) (frame : Frame) (came : List Frame) (h : SessionEvent F) (later : List (SessionEvent F))
    → IsDecoded protocol own source frame h
    → AreDecoded protocol own source came later → spelling.opens o ≡ true → AreQuiet spelling (h ∷ later) → spelling.Brings o (h ∷ later) packets
    → spelling.count packets ≡ spelling.total o → spelling.IsPacket h → IsLastOf protocol spelling extended reading own source small small' o came packets frame)
    → RunsHandOutWholeMessages protocol (IsWhole spelling) → MessagesAreHeard protocol extended
heard protocol spelling extended reading last runs own source timed now frame answer message small small' served out free =
    let completes = (runs served.sessions (input_of protocol own now frame, answer) served.run source message served.served).0 out in
    let whole = subst (λ is. IsWhole spelling (untimed (marked protocol now (history_of protocol source is))) (Came completes.frame) message) served.inputs completes.whole in
    heard_after protocol spelling extended reading own source small small' (λ o packets frame came h later. last own source small small' reading o packets frame came h later)
    timed now frame completes.frame message completes.frame_is completes.from
    (untimed (marked protocol now (history_of protocol source (map (λ t. input_of protocol own t.0 t.1) timed)))) whole.sent.later whole.sent.earlier whole.opening whole.packets refl
    whole.sent.split whole.sent.opened whole.sent.quiet whole.sent.brought whole.all whole.packet whole.pgn whole.bytes free
