-- A replay that ends early, as a statement on the whole log.
use Rattle.std.proofs.Common.{◌≡◌, ℕ, ◌+◌, List, [], ◌++◌, length, inl, inr, Bool, Option, Some, None, refl, sym, ap, subst, ◌∙◌, append_assoc, arith}
use Rattle.std.specs.Prelude.{Result, Ok, Err, IfSome, IfErr, IsErrAnd}
use Rattle.std.proofs.lemmas.List.{append-nil}
use Rattle.std.specs.Io.KnownBytes.{Appends, Consumes, IsAtEnd, Keeps}
use Rattle.std.proofs.KnownBytes.{Appends-trans, Consumes-trans, Consumes-whole}
use Rattle.vt_logs.specs.declared.counts.Counts.{Counts}
use Rattle.vt_logs.specs.declared.fault.ReplayFault.{ReplayFault}
use Rattle.vt_logs.specs.declared.fault.ReplayFault.TheVariants.{Memory, Read, TooLong, Write}
use Rattle.vt_logs.specs.EarlyEnds.{Begins, MayBegin, LeavesLines, Stops, HasStopped, HasStoppedAtLong}
use Rattle.vt_logs.specs.Lines.{lines_of}
use Rattle.vt_logs.specs.Progress.{ReplayPoint, Takes, TakesBytes, IsLineFault}
use Rattle.vt_logs.specs.Replays.{HasLongLine, MayEndWith}
use Rattle.vt_logs.specs.LineEffects.{TakesReadings}
use Rattle.vt_logs.specs.Texts.{no_counts, counts_text, with_lines_counted}
use Rattle.vt_logs.proofs.EarlyEndInLines.{stops_none, later_bytes}
use Rattle.vt_logs.proofs.LongLines.{begun}
use Rattle.vt_logs.proofs.ReplayInvariants.{IsUnderWay}
use Rattle.vt_logs.proofs.TakenLines.{length-zip, takes-lines, takes_more}
use Rattle.vt_recorded.specs.Readings.{IsReadingOf}
use Rattle.vt_server.specs.shown.Screens.{IsScreenOf}
use Rattle.vt_server.specs.Terminals.{State}

-- ---- before the first screen stands

pub begun_first : (given : Option (List ℕ)) (s : State) (old new : Option (List ℕ)) → MayBegin (IsScreenOf s) old new → IfSome given (λ input. HasStopped s input s old new)
begun_first None s old new screen = tt
begun_first (Some input) s old new screen = inl (refl, screen)

pub begun_none : (given : Option (List ℕ)) (s : State) (old new : Option (List ℕ)) → Keeps old new → IfSome given (λ input. HasStopped s input s old new)
begun_none given s old new keeps = begun_first given s old new (inl keeps)

-- ---- after it

-- The number of the line after those taken.
next_place : (a b : ReplayPoint) (lines : List (List ℕ)) (takes : Takes a lines b) → a.counts ≡ no_counts → b.counts.lines + 1 ≡ length lines + 1
next_place a b lines takes none =
    let zero : a.counts.lines ≡ 0 = ap (λ (k : Counts). k.lines) none in
    omega (arith, takes-lines a b lines takes, length-zip IsReadingOf lines takes.readings takes.read, zero)

-- A replay ends early in the lines of a log.
stopped : (a : ReplayPoint) (t : State) (old held : Option (List ℕ)) (input : List ℕ) → a.counts ≡ no_counts → IsScreenOf a.scene.state a.scene.screen → Appends old a.held a.scene.screen
    → Stops a (lines_of input) t held → HasStopped a.scene.state input t old held
stopped a t old held input none drawn first stops =
    let to = stops.to in
    let takes = stops.takes in
    let place : to.counts.lines + 1 ≡ length stops.front + 1 = next_place a to stops.front takes none in
    inr (record {
      front = stops.front;
      back = stops.back;
      readings = takes.readings;
      first = a.scene;
      last = to.scene;
      printed = takes.printed;
      text = stops.text;
      whole = stops.whole;
      read = takes.read;
      short = takes.short;
      starts = refl;
      shown = drawn;
      takes = subst (λ (k : ℕ). TakesReadings a.scene k takes.readings to.scene takes.printed) (ap (λ (k : Counts). k.lines) none) takes.takes;
      leaves = inl (subst (λ (n : ℕ). LeavesLines to.scene n stops.back t stops.text) place stops.leaves);
      written = Appends-trans old to.held held (a.scene.screen ++ takes.printed) stops.text
          (Appends-trans old a.held to.held a.scene.screen takes.printed first takes.text) stops.written;
    })

-- A replay ends between two chunks.
pub way_stop : (a b : ReplayPoint) (given left old held : Option (List ℕ)) (pending : List ℕ) (reads : ℕ) → a.counts ≡ no_counts → IsScreenOf a.scene.state a.scene.screen
    → Appends old a.held a.scene.screen → IsUnderWay a given left b pending reads → Keeps b.held held
    → IfSome given (λ input. HasStopped a.scene.state input b.scene.state old held)
way_stop a b given left old held pending reads none drawn first way keeps =
    begun given left way.input (λ input. HasStopped a.scene.state input b.scene.state old held) way.consumed (λ rest.
    stopped a b.scene.state old held (way.input ++ rest) none drawn first
    (later_bytes a b b.scene.state held [] way.input pending way.taken rest (stops_none b (lines_of (pending ++ rest)) held keeps)))

-- A replay ends in a chunk.
pub way_stops : (a b : ReplayPoint) (t : State) (given left after old held : Option (List ℕ)) (pending chunk : List ℕ) (reads : ℕ) → a.counts ≡ no_counts → IsScreenOf a.scene.state a.scene.screen
    → Appends old a.held a.scene.screen → IsUnderWay a given left b pending reads → Consumes left after chunk
    → ((rest : List ℕ) → Stops b (lines_of (pending ++ chunk ++ rest)) t held) → IfSome given (λ input. HasStopped a.scene.state input t old held)
way_stops a b t given left after old held pending chunk reads none drawn first way consumed stops =
    let P : List ℕ → Type 0 = λ input. HasStopped a.scene.state input t old held in
    begun given after (way.input ++ chunk) P (Consumes-trans given left after way.input chunk way.consumed consumed) (λ rest.
    let here : Stops b (lines_of (pending ++ (chunk ++ rest))) t held = subst (λ (text : List ℕ). Stops b (lines_of text) t held) (append_assoc pending chunk rest) (stops rest) in
    subst P (sym (append_assoc way.input chunk rest))
    (stopped a t old held (way.input ++ (chunk ++ rest)) none drawn first (later_bytes a b t held [] way.input pending way.taken (chunk ++ rest) here)))

-- A replay ends in the last line of a log, which lacks its newline.
pub way_last : (a b : ReplayPoint) (t : State) (given left after old held : Option (List ℕ)) (pending chunk : List ℕ) (reads : ℕ) → a.counts ≡ no_counts → IsScreenOf a.scene.state a.scene.screen
    → Appends old a.held a.scene.screen → IsUnderWay a given left b pending reads → Consumes left after chunk → chunk ≡ [] → IsAtEnd after
    → Stops b (lines_of pending) t held → IfSome given (λ input. HasStopped a.scene.state input t old held)
way_last a b t given left after old held pending chunk reads none drawn first way consumed empty end stops =
    let P : List ℕ → Type 0 = λ input. HasStopped a.scene.state input t old held in
    let here : Stops b (lines_of (pending ++ [])) t held = subst (λ (text : List ℕ). Stops b (lines_of text) t held) (sym (append-nil pending)) stops in
    let all : P (way.input ++ []) = stopped a t old held (way.input ++ []) none drawn first (later_bytes a b t held [] way.input pending way.taken [] here) in
    Consumes-whole given after (way.input ++ chunk) P (Consumes-trans given left after way.input chunk way.consumed consumed) end
    (subst (λ (c : List ℕ). P (way.input ++ c)) (sym empty) all)

-- All lines of a log are taken, and the counts are written in part.
counting : (a b c : ReplayPoint) (old held : Option (List ℕ)) (pending input : List ℕ) → a.counts ≡ no_counts → IsScreenOf a.scene.state a.scene.screen → Appends old a.held a.scene.screen
    → TakesBytes a [] input b pending → Takes b (lines_of pending) c → Begins c.held held (counts_text c.counts) → HasStopped a.scene.state input c.scene.state old held
counting a b c old held pending input none drawn first taken last counted =
    let all = takes_more a b c taken.lines (lines_of pending) taken.takes last in
    let lines : lines_of input ≡ taken.lines ++ lines_of pending =
    ap lines_of (sym (append-nil input)) ∙ taken.split [] ∙ ap (λ (text : List ℕ). taken.lines ++ lines_of text) (append-nil pending) in
    let counts : c.counts ≡ with_lines_counted no_counts all.readings = all.counts ∙ ap (λ (k : Counts). with_lines_counted k all.readings) none in
    inr (record {
      front = taken.lines ++ lines_of pending;
      back = [];
      readings = all.readings;
      first = a.scene;
      last = c.scene;
      printed = all.printed;
      text = counted.front;
      whole = lines ∙ sym (append-nil (taken.lines ++ lines_of pending));
      read = all.read;
      short = all.short;
      starts = refl;
      shown = drawn;
      takes = subst (λ (k : ℕ). TakesReadings a.scene k all.readings c.scene all.printed) (ap (λ (k : Counts). k.lines) none) all.takes;
      leaves = inr (record { none_left = refl; now_is = refl; rest = counted.rest; parts = ap counts_text (sym counts) ∙ counted.parts });
      written = Appends-trans old c.held held (a.scene.screen ++ all.printed) counted.front
          (Appends-trans old a.held c.held a.scene.screen all.printed first all.text) counted.written;
    })

pub way_counts : (a b c : ReplayPoint) (given left after old held : Option (List ℕ)) (pending chunk : List ℕ) (reads : ℕ) → a.counts ≡ no_counts → IsScreenOf a.scene.state a.scene.screen
    → Appends old a.held a.scene.screen → IsUnderWay a given left b pending reads → Consumes left after chunk → chunk ≡ [] → IsAtEnd after
    → Takes b (lines_of pending) c → Begins c.held held (counts_text c.counts) → IfSome given (λ input. HasStopped a.scene.state input c.scene.state old held)
way_counts a b c given left after old held pending chunk reads none drawn first way consumed empty end last counted =
    let P : List ℕ → Type 0 = λ input. HasStopped a.scene.state input c.scene.state old held in
    let joined : way.input ≡ way.input ++ chunk = sym (append-nil way.input) ∙ ap (λ (text : List ℕ). way.input ++ text) (sym empty) in
    Consumes-whole given after (way.input ++ chunk) P (Consumes-trans given left after way.input chunk way.consumed consumed) end
    (subst P joined (counting a b c old held pending way.input none drawn first way.taken last counted))

-- ---- the faults

pub stopped_long : (s t : State) (log old held : Option (List ℕ)) → IfSome log (λ input. HasStoppedAtLong s input t old held) → IfSome log HasLongLine
stopped_long s t None old held stopped = tt
stopped_long s t (Some input) old held stopped = stopped.long

ends_with : (source sink : Bool) (log : Option (List ℕ)) (fault : ReplayFault) → IsLineFault sink fault → (fault ≡ TooLong → IfSome log HasLongLine) → MayEndWith source sink log fault
ends_with source sink log Read (inl e) long = absurd cc
ends_with source sink log Read (inr (inl e)) long = absurd cc
ends_with source sink log Read (inr (inr e)) long = absurd (let is = e.0 in cc)
ends_with source sink log Write (inl e) long = absurd cc
ends_with source sink log Write (inr (inl e)) long = absurd cc
ends_with source sink log Write (inr (inr e)) long = e.1
ends_with source sink log Memory line long = tt
ends_with source sink log TooLong line long = long refl

-- A fault at a line is one that may end the replay of the log.
pub ends_in_line : {T : Type 0} (r : Result T ReplayFault) (source sink : Bool) (log : Option (List ℕ)) (fault : ReplayFault) → IsErrAnd r (λ other. other ≡ fault) → IsLineFault sink fault
    → (fault ≡ TooLong → IfSome log HasLongLine) → IfErr r (MayEndWith source sink log)
ends_in_line (Ok x) source sink log fault same line long = tt
ends_in_line (Err other) source sink log fault same line long = subst (MayEndWith source sink log) (sym same) (ends_with source sink log fault line long)
