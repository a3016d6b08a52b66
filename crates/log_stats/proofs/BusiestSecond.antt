-- The busiest second of a log.
use Rattle.std.proofs.Common.{◌≡◌, ℕ, ◌+◌, ◌<◌, ◌≤◌, ◌==◌, List, [], ◌∷◌, ◌++◌, length, take, sym, ap, subst, ◌∙◌, refl, arith, slice_index_or}
use Rattle.std.specs.Prelude.{All, Option, Some, None, MatchOption, nat_le, cond}
use Rattle.std.proofs.lemmas.Bool.{cond_both, cond-false, leb-true, leb-false}
use Rattle.std.proofs.lemmas.List.{take_more, append_assoc}
use Rattle.std.proofs.lemmas.List.Elements.{All-append, All-cons, All-nil, All-tail}
use Rattle.std.proofs.Math.Seq.{take-length}
use Rattle.log_stats.specs.declared.busy_seconds.BusySecond.{BusySecond}
use Rattle.log_traffic.specs.declared.counts.Counts.{Counts}
use Rattle.log_stats.specs.Seconds.{Sent, sent_in, counts_at, AreRising, HasCounted, IsBusiest, IsFirstMost, busier}
use Rattle.log_stats.proofs.Seconds.{differ, counts_at-found, all_back, rising_before, rising_behind, is_busy}

all_fewer : (seconds : List BusySecond) (first : BusySecond) (n : ℕ) → IsFirstMost seconds first → first.counts.bits < n
    → All (λ second. second.counts.bits < n) seconds
all_fewer seconds first n most less =
    let P : BusySecond → Type 0 = λ second. second.counts.bits < n in
    subst (All P) (sym most.parts)
    (All-append P most.earlier (first ∷ most.later)
    (λ k d within. omega (arith, less, most.fewer k d within))
    (All-cons P first most.later less (λ k d within. omega (arith, less, most.not_more k d within))))

most_of_two : (done : List BusySecond) (first second : BusySecond) → IsFirstMost done first
    → IsFirstMost (done ++ second ∷ []) (cond (nat_le second.counts.bits first.counts.bits) first second)
most_of_two done first second most =
    cond_both (nat_le second.counts.bits first.counts.bits) first second (IsFirstMost (done ++ second ∷ []))
    (λ is.
    let P : BusySecond → Type 0 = λ other. other.counts.bits ≤ first.counts.bits in
    record {
      earlier = most.earlier;
      later = most.later ++ second ∷ [];
      parts = ap (λ all. all ++ second ∷ []) most.parts ∙ append_assoc most.earlier (first ∷ most.later) (second ∷ []);
      fewer = most.fewer;
      not_more = All-append P most.later (second ∷ []) most.not_more
          (All-cons P second [] (leb-true second.counts.bits first.counts.bits is) (All-nil P));
    })
    (λ is_not. record {
      earlier = done;
      later = [];
      parts = refl;
      fewer = all_fewer done first second.counts.bits most (leb-false second.counts.bits first.counts.bits is_not);
      not_more = All-nil (λ (other : BusySecond). other.counts.bits ≤ second.counts.bits);
    })

most_next : (done : List BusySecond) (before : Option BusySecond) (second : BusySecond) → MatchOption before (done ≡ []) (IsFirstMost done)
    → IsFirstMost (done ++ second ∷ []) (busier before second)
most_next done None second none = record {
  earlier = [];
  later = [];
  parts = ap (λ all. all ++ second ∷ []) none;
  fewer = All-nil (λ (other : BusySecond). other.counts.bits < second.counts.bits);
  not_more = All-nil (λ (other : BusySecond). other.counts.bits ≤ second.counts.bits);
}
most_next done (Some first) second most = most_of_two done first second most

pub most_more : (seconds : List BusySecond) (place : ℕ) (before : Option BusySecond) (after d : BusySecond) → place < length seconds
    → MatchOption before (take place seconds ≡ []) (IsFirstMost (take place seconds)) → after ≡ busier before (slice_index_or seconds place d)
    → IsFirstMost (take (place + 1) seconds) after
most_more seconds place before after d within most is =
    subst (IsFirstMost (take (place + 1) seconds)) (sym is)
    (subst (λ all. IsFirstMost all (busier before (slice_index_or seconds place d))) (sym (take_more seconds place d within))
    (most_next (take place seconds) before (slice_index_or seconds place d) most))

bits_most : (seconds : List BusySecond) (start n : ℕ) → All (λ second. second.counts.bits ≤ n) seconds → (counts_at seconds start).bits ≤ n
bits_most [] start n all = omega arith
bits_most (second ∷ rest) start n all =
    cond_both (second.start == start) second.counts (counts_at rest start) (λ counts. counts.bits ≤ n)
    (λ is. all 0 second (omega arith))
    (λ is_not. bits_most rest start n (All-tail (λ (other : BusySecond). other.counts.bits ≤ n) second rest all))

bits_fewer : (seconds : List BusySecond) (start n : ℕ) → 0 < n → All (λ second. second.counts.bits < n) seconds → (counts_at seconds start).bits < n
bits_fewer [] start n some all = some
bits_fewer (second ∷ rest) start n some all =
    cond_both (second.start == start) second.counts (counts_at rest start) (λ counts. counts.bits < n)
    (λ is. all 0 second (omega arith))
    (λ is_not. bits_fewer rest start n some (All-tail (λ (other : BusySecond). other.counts.bits < n) second rest all))

counts_at-before : (earlier rest : List BusySecond) (start : ℕ) → All (λ second. start < second.start) rest
    → counts_at (earlier ++ rest) start ≡ counts_at earlier start
counts_at-before [] [] start above = refl
counts_at-before [] (second ∷ rest) start above =
    cond-false (second.start == start) second.counts (counts_at rest start)
    (differ second.start start (λ same. omega (arith, same, above 0 second (omega arith))))
    ∙ counts_at-before [] rest start (All-tail (λ (other : BusySecond). start < other.start) second rest above)
counts_at-before (second ∷ earlier) rest start above = ap (cond (second.start == start) second.counts) (counts_at-before earlier rest start above)

busiest_of : (frames : List Sent) (latest : ℕ) (seconds : List BusySecond) (busiest : BusySecond) → HasCounted frames latest seconds
    → IsFirstMost seconds busiest → IsBusiest frames busiest
busiest_of frames latest seconds busiest counted most =
    let rising = subst AreRising most.parts counted.rising in
    let told : (start : ℕ) → counts_at (most.earlier ++ busiest ∷ most.later) start ≡ sent_in frames start
    = λ start. ap (λ all. counts_at all start) (sym most.parts) ∙ counted.counts start in
    let busy : 0 < busiest.counts.bits = all_back is_busy most.earlier (busiest ∷ most.later) (subst (All is_busy) most.parts counted.busy) 0 busiest (omega arith) in
    let P : BusySecond → Type 0 = λ second. second.counts.bits ≤ busiest.counts.bits in
    record {
      counts = sym (counts_at-found most.earlier busiest most.later busiest.start (rising_before most.earlier busiest most.later rising) refl) ∙ told busiest.start;
      most = λ start. omega (
        arith,
        ap (λ (counts : Counts). counts.bits) (told start),
        bits_most (most.earlier ++ busiest ∷ most.later) start busiest.counts.bits
            (All-append P most.earlier (busiest ∷ most.later) (λ k d within. omega (arith, most.fewer k d within))
            (All-cons P busiest most.later (omega arith) most.not_more)),
      );
      first = λ start before. omega (
        arith,
        ap (λ (counts : Counts). counts.bits) (sym (counts_at-before most.earlier (busiest ∷ most.later) start
            (All-cons (λ (second : BusySecond). start < second.start) busiest most.later before
            (λ k d within. omega (arith, before, rising_behind most.earlier busiest most.later rising k d within)))) ∙ told start),
        bits_fewer most.earlier start busiest.counts.bits busy most.fewer,
      );
    }

pub told_busiest : (frames : List Sent) (latest : ℕ) (seconds : List BusySecond) (told : Option BusySecond) → HasCounted frames latest seconds
    → MatchOption told (seconds ≡ []) (IsFirstMost seconds) → MatchOption told (frames ≡ []) (IsBusiest frames)
told_busiest frames latest seconds None counted none = counted.none.0 none
told_busiest frames latest seconds (Some busiest) counted most = busiest_of frames latest seconds busiest counted most

pub told_all : (seconds : List BusySecond) (place : ℕ) (told : Option BusySecond) → place ≡ length seconds
    → MatchOption told (take place seconds ≡ []) (IsFirstMost (take place seconds)) → MatchOption told (seconds ≡ []) (IsFirstMost seconds)
told_all seconds place told end most =
    subst (λ all. MatchOption told (all ≡ []) (IsFirstMost all)) (ap (λ n. take n seconds) end ∙ take-length seconds) most
