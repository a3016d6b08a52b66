-- The invariants of a replay between two lines of a chunk and between two chunks.
use Rattle.std.proofs.Common.{◌≡◌, ℕ, zero, suc, false, eqb, ◌+◌, ◌*◌, ◌≤◌, ◌<◌, ◌^◌, List, [], ◌∷◌, ◌++◌, length, take, drop, Option, Some, None, refl, sym, ap, subst, ◌∙◌, append_assoc, arith, length-append}
use Rattle.std.specs.Prelude.{IfSome}
use Rattle.std.proofs.lemmas.List.{append-nil, take_at}
use Rattle.std.specs.List.{AllZip, AllByRecursion}
use Rattle.std.specs.Io.KnownBytes.{Appends, Consumes, IsAtEnd, Keeps}
use Rattle.std.proofs.KnownBytes.{Appends-kept, Appends-trans, Consumes-nil, Consumes-trans, Consumes-whole}
use Rattle.vt_logs.specs.declared.counts.Counts.{Counts}
use Rattle.vt_logs.specs.Lines.{lines_of}
use Rattle.vt_logs.specs.LineEffects.{ReplayState, TakesReadings}
use Rattle.vt_logs.specs.Texts.{no_counts, with_lines_counted, counts_text}
use Rattle.vt_logs.specs.Replays.{IsReplay}
use Rattle.vt_logs.specs.Progress.{AtMost, ReplayPoint, Takes, HasNoNewline, TakesBytes}
use Rattle.vt_logs.proofs.TakenLines.{bytes_none, bytes_kept, bytes_line, bytes_more, bytes-AtMost, lines_of-last, HasNoNewline-append, AtMost-more, takes_drawn, takes_more}
use Rattle.vt_recorded.specs.Readings.{IsReadingOf}
use Rattle.vt_server.specs.shown.Screens.{IsScreenOf}

-- ---- between two lines of a chunk

-- The first bytes of a chunk are taken.
pub record IsMidway (from : ReplayPoint) (before chunk : List ℕ) (to : ReplayPoint) (pending rest : List ℕ) : Type 0 where
  pub front : List ℕ
  pub parts : chunk ≡ front ++ rest
  pub taken : TakesBytes from before front to pending
  pub whole : HasNoNewline pending

pub midway_start : (a : ReplayPoint) (before chunk : List ℕ) → HasNoNewline before → IsMidway a before chunk a before chunk
midway_start a before chunk whole = record { front = []; parts = refl; taken = bytes_none a before; whole = whole }

pub midway_few : (a b : ReplayPoint) (before chunk pending rest : List ℕ) → IsMidway a before chunk b pending rest → AtMost (2 ^ 61) a.counts → length chunk ≤ 65536 → AtMost (2 ^ 62) b.counts
midway_few a b before chunk pending rest mid few short =
    let front : length mid.front ≤ 65536 = omega (arith, ap length mid.parts, length-append mid.front rest) in
    AtMost-more (2 ^ 61 + 65536) (2 ^ 62) b.counts (omega arith) (bytes-AtMost (2 ^ 61) 65536 a b before mid.front pending mid.taken few front)

pub midway_drawn : (a b : ReplayPoint) (before chunk pending rest : List ℕ) → IsMidway a before chunk b pending rest → IsScreenOf a.scene.state a.scene.screen → IsScreenOf b.scene.state b.scene.screen
midway_drawn a b before chunk pending rest mid drawn = takes_drawn a b mid.taken.lines mid.taken.takes drawn

pub midway_line : (a b c : ReplayPoint) (before chunk pending rest line after left : List ℕ) → IsMidway a before chunk b pending rest → HasNoNewline line → rest ≡ line ++ 10 ∷ after
    → Takes b ((pending ++ line) ∷ []) c → left ≡ [] → IsMidway a before chunk c left after
midway_line a b c before chunk pending rest line after left mid lacks cut one none =
    let done = bytes_line a b c before mid.front pending line mid.taken (HasNoNewline-append pending line mid.whole lacks) one in
    record {
      front = mid.front ++ (line ++ 10 ∷ []);
      parts = mid.parts ∙ ap (λ (t : List ℕ). mid.front ++ t) cut ∙ simp append_assoc;
      taken = subst (TakesBytes a before (mid.front ++ (line ++ 10 ∷ [])) c) (sym none) done;
      whole = subst HasNoNewline (sym none) (λ k d lt. absurd (omega arith));
    }

pub midway_end : (a b : ReplayPoint) (before chunk pending rest left : List ℕ) → IsMidway a before chunk b pending rest → HasNoNewline rest → left ≡ pending ++ rest
    → TakesBytes a before chunk b left × HasNoNewline left
midway_end a b before chunk pending rest left mid lacks kept = (
  subst (λ (t : List ℕ). TakesBytes a before chunk b t) (sym kept)
      (subst (λ (t : List ℕ). TakesBytes a before t b (pending ++ rest)) (sym mid.parts) (bytes_kept a b before mid.front pending rest mid.taken)),
  subst HasNoNewline (sym kept) (HasNoNewline-append pending rest mid.whole lacks),
)

-- ---- between two chunks

-- The bytes read so far, at least one at each read, are taken.
pub record IsUnderWay (start : ReplayPoint) (given left : Option (List ℕ)) (now : ReplayPoint) (pending : List ℕ) (reads : ℕ) : Type 0 where
  pub input : List ℕ
  pub consumed : Consumes given left input
  pub taken : TakesBytes start [] input now pending
  pub whole : HasNoNewline pending
  pub few : AtMost (reads * 65536) now.counts
  pub each : reads ≤ length input

pub way_start : (s : ReplayState) (held given : Option (List ℕ)) (counts : Counts) (pending : List ℕ) → counts ≡ no_counts → pending ≡ []
    → IsUnderWay (record { scene = s; counts = no_counts; held = held }) given given (record { scene = s; counts = counts; held = held }) pending 0
way_start s held given counts pending none empty =
    let start : ReplayPoint = record { scene = s; counts = no_counts; held = held } in
    let begun : IsUnderWay start given given start [] 0 = record {
      input = [];
      consumed = Consumes-nil given;
      taken = bytes_none start [];
      whole = λ k d lt. absurd (omega arith);
      few = record { lines = omega arith; frames = omega arith; operator = omega arith; skipped = omega arith; comments = omega arith; faults = omega arith };
      each = omega arith;
    } in
    subst (λ (c : Counts). IsUnderWay start given given (record { scene = s; counts = c; held = held }) pending 0) (sym none)
    (subst (λ (p : List ℕ). IsUnderWay start given given start p 0) (sym empty) begun)

pub way_drawn : (a b : ReplayPoint) (given left : Option (List ℕ)) (pending : List ℕ) (reads : ℕ) → IsUnderWay a given left b pending reads
    → IsScreenOf a.scene.state a.scene.screen → IsScreenOf b.scene.state b.scene.screen
way_drawn a b given left pending reads way drawn = takes_drawn a b way.taken.lines way.taken.takes drawn

-- Flushing the writer keeps a replay under way.
pub way_flushed : (a : ReplayPoint) (s : ReplayState) (counts : Counts) (held written given left : Option (List ℕ)) (pending : List ℕ) (reads : ℕ)
    → IsUnderWay a given left (record { scene = s; counts = counts; held = held }) pending reads → Keeps held written
    → IsUnderWay a given left (record { scene = s; counts = counts; held = written }) pending reads
way_flushed a s counts held written given left pending reads way keeps =
    let takes = way.taken.takes in record {
      input = way.input;
      consumed = way.consumed;
      taken = record {
        lines = way.taken.lines;
        takes = record {
          readings = takes.readings;
          read = takes.read;
          short = takes.short;
          printed = takes.printed;
          takes = takes.takes;
          counts = takes.counts;
          text = Appends-kept a.held held written takes.printed takes.text keeps;
        };
        few = way.taken.few;
        split = way.taken.split;
      };
      whole = way.whole;
      few = way.few;
      each = way.each;
    }

pub way_more : (a b c : ReplayPoint) (given left after : Option (List ℕ)) (pending kept chunk : List ℕ) (reads : ℕ) → IsUnderWay a given left b pending reads → Consumes left after chunk
    → 0 < length chunk → length chunk ≤ 65536 → TakesBytes b pending chunk c kept → HasNoNewline kept → IsUnderWay a given after c kept (reads + 1)
way_more a b c given left after pending kept chunk reads way consumed some short taken whole = record {
  input = way.input ++ chunk;
  consumed = Consumes-trans given left after way.input chunk way.consumed consumed;
  taken = bytes_more a b c [] way.input pending chunk kept way.taken taken;
  whole = whole;
  few = AtMost-more (reads * 65536 + 65536) ((reads + 1) * 65536) c.counts (omega arith) (bytes-AtMost (reads * 65536) 65536 b c pending chunk kept taken way.few short);
  each = simp length-append (omega (arith, way.each, some));
}

-- A log that a number of reads have not ended has at least as many bytes.
pub way_reads : (a b : ReplayPoint) (given left : Option (List ℕ)) (pending : List ℕ) (reads most : ℕ) → IsUnderWay a given left b pending reads → most ≤ reads → IfSome given (λ input. most ≤ length input)
way_reads a b None left pending reads most way le = tt
way_reads a b (Some xs) None pending reads most way le = absurd way.consumed
way_reads a b (Some xs) (Some ys) pending reads most way le = omega (arith, way.each, ap length way.consumed, length-append way.input ys, le)

-- ---- the end

pub above_zero : (n : ℕ) → false ≡ eqb n 0 → 0 < n
above_zero zero e = absurd cc
above_zero (suc n) e = omega arith

-- The bytes pending at the end of a log are its last line.
pub last_line : (pending : List ℕ) → HasNoNewline pending → false ≡ eqb (length pending) 0 → (pending ++ []) ∷ [] ≡ lines_of pending
last_line pending lacks some = ap (λ (t : List ℕ). t ∷ []) (append-nil pending) ∙ sym (lines_of-last pending lacks (above_zero (length pending) some))

-- After the first screen all bytes of the log are replayed.
pub replayed : (a b c : ReplayPoint) (pending input : List ℕ) → a.counts ≡ no_counts → IsScreenOf a.scene.state a.scene.screen → TakesBytes a [] input b pending → Takes b (lines_of pending) c
    → (text : List ℕ) × Appends a.held c.held text × ((last : List ℕ) → last ≡ counts_text c.counts → IsReplay a.scene.state input (a.scene.screen ++ text ++ last) c.counts c.scene.state)
replayed a b c pending input none drawn taken at_end =
    let all = takes_more a b c taken.lines (lines_of pending) taken.takes at_end in
    let lines : lines_of input ≡ taken.lines ++ lines_of pending =
    ap lines_of (sym (append-nil input)) ∙ taken.split [] ∙ ap (λ (t : List ℕ). taken.lines ++ lines_of t) (append-nil pending) in
    let n : a.counts.lines ≡ 0 = ap (λ (k : Counts). k.lines) none in (
      all.printed,
      all.text,
      λ last is. record {
        readings = all.readings;
        read = subst (λ (ls : List (List ℕ)). AllZip IsReadingOf ls all.readings) (sym lines) all.read;
        short = subst (AllByRecursion (λ line. length line ≤ 4096)) (sym lines) all.short;
        first = a.scene;
        last = c.scene;
        printed = all.printed;
        starts = refl;
        shown = drawn;
        takes = subst (λ (k : ℕ). TakesReadings a.scene k all.readings c.scene all.printed) n all.takes;
        text_is = ap (λ (t : List ℕ). a.scene.screen ++ all.printed ++ t) is;
        counts_are = all.counts ∙ ap (λ (k : Counts). with_lines_counted k all.readings) none;
        now_is = refl;
      },
    )

-- The replay is whole where the log is at its end, the last line is taken and the counts are written.
pub way_end : (a b c : ReplayPoint) (given left after old written : Option (List ℕ)) (pending chunk : List ℕ) (reads : ℕ) → a.counts ≡ no_counts → IsScreenOf a.scene.state a.scene.screen
    → Appends old a.held a.scene.screen → IsUnderWay a given left b pending reads
    → Consumes left after chunk → chunk ≡ [] → IsAtEnd after → Takes b (lines_of pending) c → Appends c.held written (counts_text c.counts)
    → IfSome given (λ input. (text : List ℕ) × Appends old written text × IsReplay a.scene.state input text c.counts c.scene.state)
way_end a b c given left after old written pending chunk reads none drawn first way consumed empty end last_taken counted =
    let done = replayed a b c pending way.input none drawn way.taken last_taken in
    let joined : way.input ≡ way.input ++ chunk = sym (append-nil way.input) ∙ ap (λ (t : List ℕ). way.input ++ t) (sym empty) in
    let P : List ℕ → Type 0 = λ input. (text : List ℕ) × Appends old written text × IsReplay a.scene.state input text c.counts c.scene.state in
    let lines = Appends-trans old a.held c.held a.scene.screen done.0 first done.1 in
    Consumes-whole given after (way.input ++ chunk) P (Consumes-trans given left after way.input chunk way.consumed consumed) end
    (subst P joined (a.scene.screen ++ done.0 ++ counts_text c.counts, Appends-trans old c.held written (a.scene.screen ++ done.0) (counts_text c.counts) lines counted, done.2 (counts_text c.counts) refl))

-- The first bytes of a buffer are those read into it.
pub read_front : (n len : ℕ) (buffer items got : List ℕ) → got ≡ take len (buffer ++ drop (length buffer) items) → length buffer ≡ len → take n buffer ≡ take n got
read_front n len buffer items got is full = ap (take n) (sym (is ∙ take_at buffer (drop (length buffer) items) len full))
