-- The seconds of a log.
use Rattle.std.proofs.Common.{◌≡◌, ℕ, ◌+◌, ◌<◌, ◌≤◌, ◌==◌, Bool, true, false, List, [], ◌∷◌, ◌++◌, length, take, sym, ap, subst, ◌∙◌, refl, arith, slice_index_or, slice_set}
use Rattle.std.specs.Prelude.{All, nat_lt, cond}
use Rattle.std.proofs.lemmas.Bool.{cond_both, cond-true, cond-false, eq-eqb, eqb-true, eqb-false, ltb-true, ltb-false}
use Rattle.std.proofs.lemmas.List.{take_more, take_more_set, length-append, length-set, set-get_or}
use Rattle.std.proofs.lemmas.List.Elements.{All-append, All-cons, All-nil, All-tail}
use Rattle.std.proofs.Math.Seq.{take-length}
use Rattle.log_stats.specs.declared.busy_seconds.BusySecond.{BusySecond}
use Rattle.log_traffic.specs.declared.counts.Counts.{Counts}
use Rattle.log_traffic.specs.Counted.{nothing, with_frame}
use Rattle.log_stats.specs.Seconds.{Sent, first_time, start_of, counts_of, sent_in, counts_at, AreRising, begin_of, HasCounted}

-- ---- numbers

start_later : (first a b : ℕ) → first ≤ a → a ≤ b → start_of first a ≤ start_of first b
start_later first a b begun later = omega (arith, begun, later)

strict_by : (a b : ℕ) (less : Bool) → nat_lt a b ≡ less → a ≤ b → (a ≡ b → ⊥) → a < b
strict_by a b true is most apart = ltb-true a b is
strict_by a b false is most apart = absurd (apart (omega (arith, most, ltb-false a b is)))

strict : (a b : ℕ) → a ≤ b → (a ≡ b → ⊥) → a < b
strict a b most apart = strict_by a b (nat_lt a b) refl most apart

differ_by : (a b : ℕ) (same : Bool) → (a == b) ≡ same → (a ≡ b → ⊥) → (a == b) ≡ false
differ_by a b true is apart = absurd (apart (eqb-true a b is))
differ_by a b false is apart = is

pub differ : (a b : ℕ) → (a ≡ b → ⊥) → (a == b) ≡ false
differ a b apart = differ_by a b (a == b) refl apart

-- ---- seconds by where they begin

counts_at-none : (seconds : List BusySecond) (start : ℕ) → All (λ second. second.start < start) seconds → counts_at seconds start ≡ nothing
counts_at-none [] start below = refl
counts_at-none (second ∷ rest) start below =
    cond-false (second.start == start) second.counts (counts_at rest start)
    (differ second.start start (λ same. omega (arith, same, below 0 second (omega arith))))
    ∙ counts_at-none rest start (All-tail (λ (other : BusySecond). other.start < start) second rest below)

pub counts_at-found : (before : List BusySecond) (second : BusySecond) (rest : List BusySecond) (start : ℕ)
    → All (λ other. other.start < start) before → second.start ≡ start → counts_at (before ++ second ∷ rest) start ≡ second.counts
counts_at-found [] second rest start below same = cond-true (second.start == start) second.counts (counts_at rest start) (eq-eqb second.start start same)
counts_at-found (other ∷ before) second rest start below same =
    cond-false (other.start == start) other.counts (counts_at (before ++ second ∷ rest) start)
    (differ other.start start (λ it. omega (arith, it, below 0 other (omega arith))))
    ∙ counts_at-found before second rest start (All-tail (λ (other : BusySecond). other.start < start) other before below) same

counts_at-other : (before : List BusySecond) (second : BusySecond) (start : ℕ) → (second.start ≡ start → ⊥)
    → counts_at (before ++ second ∷ []) start ≡ counts_at before start
counts_at-other [] second start apart = cond-false (second.start == start) second.counts nothing (differ second.start start apart)
counts_at-other (other ∷ before) second start apart = ap (cond (other.start == start) other.counts) (counts_at-other before second start apart)

-- ---- parts of lists

all_front : {X : Type 0} (P : X → Type 0) (xs ys : List X) → All P (xs ++ ys) → All P xs
all_front P [] ys all = All-nil P
all_front P (x ∷ xs) ys all = All-cons P x xs (all 0 x (omega arith)) (all_front P xs ys (All-tail P x (xs ++ ys) all))

pub all_back : {X : Type 0} (P : X → Type 0) (xs ys : List X) → All P (xs ++ ys) → All P ys
all_back P [] ys all = all
all_back P (x ∷ xs) ys all = all_back P xs ys (All-tail P x (xs ++ ys) all)

-- ---- rising seconds

rising_push : (seconds : List BusySecond) (second : BusySecond) → AreRising seconds → All (λ other. other.start < second.start) seconds
    → AreRising (seconds ++ second ∷ [])
rising_push [] second rising below = (All-nil (λ (later : BusySecond). second.start < later.start), tt)
rising_push (other ∷ rest) second rising below =
    let P : BusySecond → Type 0 = λ later. other.start < later.start in (
      All-append P rest (second ∷ []) rising.0 (All-cons P second [] (below 0 other (omega arith)) (All-nil P)),
      rising_push rest second rising.1 (All-tail (λ (it : BusySecond). it.start < second.start) other rest below),
    )

pub rising_before : (before : List BusySecond) (second : BusySecond) (rest : List BusySecond) → AreRising (before ++ second ∷ rest)
    → All (λ other. other.start < second.start) before
rising_before [] second rest rising = All-nil (λ (other : BusySecond). other.start < second.start)
rising_before (other ∷ before) second rest rising =
    All-cons (λ (it : BusySecond). it.start < second.start) other before
    (all_back (λ (later : BusySecond). other.start < later.start) before (second ∷ rest) rising.0 0 second (omega arith))
    (rising_before before second rest rising.1)

pub rising_behind : (before : List BusySecond) (second : BusySecond) (rest : List BusySecond) → AreRising (before ++ second ∷ rest)
    → All (λ other. second.start < other.start) rest
rising_behind [] second rest rising = rising.0
rising_behind (other ∷ before) second rest rising = rising_behind before second rest rising.1

rising_front : (before rest : List BusySecond) → AreRising (before ++ rest) → AreRising before
rising_front [] rest rising = tt
rising_front (other ∷ before) rest rising =
    (all_front (λ (later : BusySecond). other.start < later.start) before rest rising.0, rising_front before rest rising.1)

-- ---- one more frame

first_time-more : (frame : Sent) (frames : List Sent) → (frames ≡ [] → ⊥) → first_time (frame ∷ frames) ≡ first_time frames
first_time-more frame [] some = absurd (some refl)
first_time-more frame (other ∷ frames) some = refl

cons_some : (frame : Sent) (frames : List Sent) → frame ∷ frames ≡ [] → ⊥
cons_some frame frames none = omega (arith, ap length none)

pushed_some : (before : List BusySecond) (last : BusySecond) → before ++ last ∷ [] ≡ [] → ⊥
pushed_some before last none = omega (arith, ap length none, length-append before (last ∷ []))

begin_of-pushed : (before : List BusySecond) (last new : BusySecond) (time other : ℕ) → new.start ≡ last.start
    → begin_of (before ++ new ∷ []) time ≡ begin_of (before ++ last ∷ []) other
begin_of-pushed [] last new time other same = same
begin_of-pushed (second ∷ before) last new time other same = refl

begin_of-some : (seconds : List BusySecond) (new : BusySecond) (time other : ℕ) → (seconds ≡ [] → ⊥)
    → begin_of (seconds ++ new ∷ []) time ≡ begin_of seconds other
begin_of-some [] new time other some = absurd (some refl)
begin_of-some (second ∷ seconds) new time other some = refl

abbrev pub is_busy : BusySecond → Type 0
is_busy second = 0 < second.counts.bits

busy_push : (seconds : List BusySecond) (new : BusySecond) (counts : Counts) (bytes : ℕ) → All is_busy seconds → new.counts ≡ with_frame counts bytes
    → All is_busy (seconds ++ new ∷ [])
busy_push seconds new counts bytes busy told =
    All-append is_busy seconds (new ∷ []) busy
    (All-cons is_busy new [] (omega (arith, ap (λ (it : Counts). it.bits) told)) (All-nil is_busy))

-- the starts are no later than that of a later time
ended_later : (frames : List Sent) (latest time : ℕ) (seconds : List BusySecond) → HasCounted frames latest seconds → latest ≤ time
    → All (λ second. second.start ≤ start_of (first_time frames) time) seconds
ended_later frames latest time seconds counted later k d within =
    omega (arith, counted.ended k d within, start_later (first_time frames) latest time counted.from later)

-- the frame of the last second that there is
counted_same : (frames : List Sent) (latest : ℕ) (frame : Sent) (before : List BusySecond) (last new : BusySecond)
    → HasCounted frames latest (before ++ last ∷ []) → latest ≤ frame.time → start_of (first_time frames) frame.time ≡ last.start
    → new.start ≡ last.start → new.counts ≡ with_frame last.counts frame.length
    → HasCounted (frame ∷ frames) frame.time (before ++ new ∷ [])
counted_same frames latest frame before last new counted later here start counts =
    let some : frames ≡ [] → ⊥ = λ none. pushed_some before last (counted.none.1 none) in
    let first : first_time (frame ∷ frames) ≡ first_time frames = first_time-more frame frames some in
    let below = rising_before before last [] counted.rising in
    let at : (at : ℕ) → counts_at (before ++ new ∷ []) at ≡ counts_of (first_time frames) at (frame ∷ frames)
    = λ at. cond_both (start_of (first_time frames) frame.time == at) (with_frame (sent_in frames at) frame.length) (sent_in frames at)
    (λ told. counts_at (before ++ new ∷ []) at ≡ told)
    (λ is.
    let same : last.start ≡ at = sym here ∙ eqb-true (start_of (first_time frames) frame.time) at is in
    let before_it = subst (λ n. All (λ (other : BusySecond). other.start < n) before) same below in
    counts_at-found before new [] at before_it (start ∙ same) ∙ counts
    ∙ ap (λ old. with_frame old frame.length) (sym (counts_at-found before last [] at before_it same) ∙ counted.counts at))
    (λ is_not.
    let apart : last.start ≡ at → ⊥ = λ same. eqb-false (start_of (first_time frames) frame.time) at is_not (here ∙ same) in
    counts_at-other before new at (λ same. apart (sym start ∙ same))
    ∙ sym (counts_at-other before last at apart) ∙ counted.counts at) in
    record {
      counts = λ start. at start ∙ ap (λ time. counts_of time start (frame ∷ frames)) (sym first);
      none = ((λ none. absurd (pushed_some before new none)), (λ none. absurd (cons_some frame frames none)));
      begins = begin_of-pushed before last new (first_time (frame ∷ frames)) (first_time frames) start ∙ counted.begins ∙ sym first;
      from = omega (arith, first, counted.from, later);
      rising = rising_push before new (rising_front before (last ∷ []) counted.rising)
          (subst (λ n. All (λ (other : BusySecond). other.start < n) before) (sym start) below);
      ended = subst (λ time. All (λ (second : BusySecond). second.start ≤ start_of time frame.time) (before ++ new ∷ [])) (sym first)
          (All-append (λ (second : BusySecond). second.start ≤ start_of (first_time frames) frame.time) before (new ∷ [])
          (all_front (λ (second : BusySecond). second.start ≤ start_of (first_time frames) frame.time) before (last ∷ [])
          (ended_later frames latest frame.time (before ++ last ∷ []) counted later))
          (All-cons (λ (second : BusySecond). second.start ≤ start_of (first_time frames) frame.time) new [] (omega (arith, start, here))
          (All-nil (λ (second : BusySecond). second.start ≤ start_of (first_time frames) frame.time))));
      busy = busy_push before new last.counts frame.length (all_front is_busy before (last ∷ []) counted.busy) counts;
    }

-- the first frame of a later second
counted_new : (frames : List Sent) (latest : ℕ) (frame : Sent) (seconds : List BusySecond) (new : BusySecond)
    → HasCounted frames latest seconds → latest ≤ frame.time → (seconds ≡ [] → ⊥)
    → All (λ second. second.start < start_of (first_time frames) frame.time) seconds
    → new.start ≡ start_of (first_time frames) frame.time → new.counts ≡ with_frame nothing frame.length
    → HasCounted (frame ∷ frames) frame.time (seconds ++ new ∷ [])
counted_new frames latest frame seconds new counted later some below start counts =
    let first : first_time (frame ∷ frames) ≡ first_time frames = first_time-more frame frames (λ none. some (counted.none.1 none)) in
    let at : (at : ℕ) → counts_at (seconds ++ new ∷ []) at ≡ counts_of (first_time frames) at (frame ∷ frames)
    = λ at. cond_both (start_of (first_time frames) frame.time == at) (with_frame (sent_in frames at) frame.length) (sent_in frames at)
    (λ told. counts_at (seconds ++ new ∷ []) at ≡ told)
    (λ is.
    let same : start_of (first_time frames) frame.time ≡ at = eqb-true (start_of (first_time frames) frame.time) at is in
    let before_it = subst (λ n. All (λ (other : BusySecond). other.start < n) seconds) same below in
    counts_at-found seconds new [] at before_it (start ∙ same) ∙ counts
    ∙ ap (λ old. with_frame old frame.length) (sym (counts_at-none seconds at before_it) ∙ counted.counts at))
    (λ is_not.
    counts_at-other seconds new at (λ same. eqb-false (start_of (first_time frames) frame.time) at is_not (sym start ∙ same)) ∙ counted.counts at) in
    record {
      counts = λ start. at start ∙ ap (λ time. counts_of time start (frame ∷ frames)) (sym first);
      none = ((λ none. absurd (pushed_some seconds new none)), (λ none. absurd (cons_some frame frames none)));
      begins = begin_of-some seconds new (first_time (frame ∷ frames)) (first_time frames) some ∙ counted.begins ∙ sym first;
      from = omega (arith, first, counted.from, later);
      rising = rising_push seconds new counted.rising (subst (λ n. All (λ (other : BusySecond). other.start < n) seconds) (sym start) below);
      ended = subst (λ time. All (λ (second : BusySecond). second.start ≤ start_of time frame.time) (seconds ++ new ∷ [])) (sym first)
          (All-append (λ (second : BusySecond). second.start ≤ start_of (first_time frames) frame.time) seconds (new ∷ [])
          (ended_later frames latest frame.time seconds counted later)
          (All-cons (λ (second : BusySecond). second.start ≤ start_of (first_time frames) frame.time) new [] (omega (arith, start))
          (All-nil (λ (second : BusySecond). second.start ≤ start_of (first_time frames) frame.time))));
      busy = busy_push seconds new nothing frame.length counted.busy counts;
    }

-- the first frame of a log
counted_first : (frame : Sent) (new : BusySecond) → new.start ≡ frame.time → new.counts ≡ with_frame nothing frame.length
    → HasCounted (frame ∷ []) frame.time (new ∷ [])
counted_first frame new start counts =
    let here : start_of frame.time frame.time ≡ frame.time = omega arith in
    record {
      counts = λ at. cond_both (start_of frame.time frame.time == at) (with_frame nothing frame.length) nothing
          (λ told. counts_at (new ∷ []) at ≡ told)
          (λ is. cond-true (new.start == at) new.counts nothing
          (eq-eqb new.start at (start ∙ sym here ∙ eqb-true (start_of frame.time frame.time) at is)) ∙ counts)
          (λ is_not. cond-false (new.start == at) new.counts nothing
          (differ new.start at (λ same. eqb-false (start_of frame.time frame.time) at is_not (here ∙ sym start ∙ same))));
      none = ((λ none. absurd (pushed_some [] new none)), (λ none. absurd (cons_some frame [] none)));
      begins = start;
      from = omega arith;
      rising = (All-nil (λ (later : BusySecond). new.start < later.start), tt);
      ended = All-cons (λ (second : BusySecond). second.start ≤ start_of frame.time frame.time) new [] (omega (arith, start, here))
          (All-nil (λ (second : BusySecond). second.start ≤ start_of frame.time frame.time));
      busy = busy_push [] new nothing frame.length (All-nil is_busy) counts;
    }

-- ---- the last second

begin_of-any : (seconds : List BusySecond) (time other : ℕ) → (seconds ≡ [] → ⊥) → begin_of seconds time ≡ begin_of seconds other
begin_of-any [] time other some = absurd (some refl)
begin_of-any (second ∷ rest) time other some = refl

some_of : (seconds : List BusySecond) → 0 < length seconds → seconds ≡ [] → ⊥
some_of seconds some none = omega (arith, some, ap length none)

-- all but the last one, and the last one
parts_of : (seconds : List BusySecond) (place : ℕ) (last : BusySecond) → place + 1 ≡ length seconds → last ≡ slice_index_or seconds place last
    → seconds ≡ take place seconds ++ last ∷ []
parts_of seconds place last end is =
    sym (take-length seconds) ∙ ap (λ n. take n seconds) (sym end) ∙ take_more seconds place last (omega (arith, end))
    ∙ ap (λ second. take place seconds ++ second ∷ []) (sym is)

put_last : (seconds : List BusySecond) (place : ℕ) (new : BusySecond) → place + 1 ≡ length seconds
    → slice_set seconds place new ≡ take place seconds ++ new ∷ []
put_last seconds place new end =
    sym (take-length (slice_set seconds place new))
    ∙ ap (λ n. take n (slice_set seconds place new)) (length-set seconds place new ∙ sym end)
    ∙ take_more_set seconds place new (omega (arith, end))

-- where the first second begins
first_of : (frames : List Sent) (latest time : ℕ) (seconds : List BusySecond) → HasCounted frames latest seconds → 0 < length seconds
    → begin_of seconds time ≡ first_time frames
first_of frames latest time seconds counted some = begin_of-any seconds time (first_time frames) (some_of seconds some) ∙ counted.begins

pub taken_same : (frames : List Sent) (latest : ℕ) (frame : Sent) (seconds : List BusySecond) (place : ℕ) (last new : BusySecond)
    → HasCounted frames latest seconds → latest ≤ frame.time → place + 1 ≡ length seconds → last ≡ slice_index_or seconds place last
    → last.start ≡ start_of (begin_of seconds frame.time) frame.time → new.start ≡ last.start → new.counts ≡ with_frame last.counts frame.length
    → HasCounted (frame ∷ frames) frame.time (slice_set seconds place new)
taken_same frames latest frame seconds place last new counted later end is here start counts =
    subst (HasCounted (frame ∷ frames) frame.time) (sym (put_last seconds place new end))
    (counted_same frames latest frame (take place seconds) last new (subst (HasCounted frames latest) (parts_of seconds place last end is) counted) later
    (sym (here ∙ ap (λ first. start_of first frame.time) (first_of frames latest frame.time seconds counted (omega (arith, end)))))
    start counts)

-- all seconds begin before a later one if the last one does
below_later : (frames : List Sent) (latest time : ℕ) (before : List BusySecond) (last : BusySecond) → HasCounted frames latest (before ++ last ∷ [])
    → latest ≤ time → (last.start ≡ start_of (first_time frames) time → ⊥)
    → All (λ second. second.start < start_of (first_time frames) time) (before ++ last ∷ [])
below_later frames latest time before last counted later apart =
    let P : BusySecond → Type 0 = λ second. second.start < start_of (first_time frames) time in
    let ended = all_back (λ (second : BusySecond). second.start ≤ start_of (first_time frames) time) before (last ∷ [])
    (ended_later frames latest time (before ++ last ∷ []) counted later) 0 last (omega arith) in
    let strictly : last.start < start_of (first_time frames) time = strict last.start (start_of (first_time frames) time) ended apart in
    All-append P before (last ∷ [])
    (λ k d within. omega (arith, strictly, rising_before before last [] counted.rising k d within))
    (All-cons P last [] strictly (All-nil P))

pub taken_new : (frames : List Sent) (latest : ℕ) (frame : Sent) (seconds : List BusySecond) (place : ℕ) (last new : BusySecond)
    → HasCounted frames latest seconds → latest ≤ frame.time → place + 1 ≡ length seconds → last ≡ slice_index_or seconds place last
    → (last.start ≡ start_of (begin_of seconds frame.time) frame.time → ⊥)
    → new.start ≡ start_of (begin_of seconds frame.time) frame.time → new.counts ≡ with_frame nothing frame.length
    → HasCounted (frame ∷ frames) frame.time (seconds ++ new ∷ [])
taken_new frames latest frame seconds place last new counted later end is apart start counts =
    let parts = parts_of seconds place last end is in
    let first = ap (λ first. start_of first frame.time) (first_of frames latest frame.time seconds counted (omega (arith, end))) in
    counted_new frames latest frame seconds new counted later (some_of seconds (omega (arith, end)))
    (subst (All (λ second. second.start < start_of (first_time frames) frame.time)) (sym parts)
    (below_later frames latest frame.time (take place seconds) last (subst (HasCounted frames latest) parts counted) later (λ same. apart (same ∙ sym first))))
    (start ∙ first) counts

pub taken_first : (frames : List Sent) (latest : ℕ) (frame : Sent) (seconds : List BusySecond) (new : BusySecond)
    → HasCounted frames latest seconds → seconds ≡ [] → new.start ≡ start_of (begin_of seconds frame.time) frame.time → new.counts ≡ with_frame nothing frame.length
    → HasCounted (frame ∷ frames) frame.time (seconds ++ new ∷ [])
taken_first frames latest frame seconds new counted none start counts =
    let begun : begin_of seconds frame.time ≡ frame.time = ap (λ all. begin_of all frame.time) none in
    subst (λ all. HasCounted (frame ∷ all) frame.time (seconds ++ new ∷ [])) (sym (counted.none.0 none))
    (subst (λ all. HasCounted (frame ∷ []) frame.time (all ++ new ∷ [])) (sym none)
    (counted_first frame new (omega (arith, start, begun)) counts))

pub put_same : (seconds : List BusySecond) (place : ℕ) (last : BusySecond) → last ≡ slice_index_or seconds place last → slice_set seconds place last ≡ seconds
put_same seconds place last is = ap (slice_set seconds place) is ∙ set-get_or seconds place last
