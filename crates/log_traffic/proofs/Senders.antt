-- The addresses that have sent a frame.
use Rattle.std.proofs.Common.{◌≡◌, ℕ, ◌+◌, ◌<◌, ◌≤◌, ◌⊎◌, inl, inr, nat_lt, List, [], ◌∷◌, ◌++◌, length, map, replicate, sym, ap, ◌∙◌, refl, arith}
use Rattle.std.specs.List.{range_with_len}
use Rattle.std.specs.Prelude.{All, sum_by}
use Rattle.std.proofs.lemmas.List.{map-id, map-append, get_or-replicate, get_or_past, length-replicate}
use Rattle.std.proofs.lemmas.List.Elements.{filter-append, All-map}
use Rattle.std.proofs.lemmas.List.FromFn.{map-range_with_len_more, fill_by_all}
use Rattle.std.proofs.lemmas.List.Folds.{fold-map}
use Rattle.std.proofs.lemmas.List.Sums.{sum_by-cons}
use Rattle.std.proofs.lemmas.Bool.{cases_lt, cond_both, ltb-false}
use Rattle.log_traffic.specs.declared.counts.Counts.{Counts}
use Rattle.log_traffic.specs.declared.report.Share.{Share}
use Rattle.log_traffic.specs.Counted.{nothing, counts_in}
use Rattle.log_traffic.specs.Shares.{share_of, senders, senders_among}

counting_more : (n : ℕ) → range_with_len 0 (n + 1) ≡ range_with_len 0 n ++ n ∷ []
counting_more n =
    sym (map-id (range_with_len 0 (n + 1)))
    ∙ map-range_with_len_more (λ (k : ℕ). k) 0 n n (omega arith)
    ∙ ap (λ sources. sources ++ n ∷ []) (map-id (range_with_len 0 n))

-- the shares with those of one more address
pub shares_more : (microseconds : ℕ) (counts : List Counts) (n : ℕ)
    → map (share_of microseconds counts) (senders_among counts (range_with_len 0 (n + 1)))
    ≡ map (share_of microseconds counts) (senders_among counts (range_with_len 0 n)) ++ map (share_of microseconds counts) (senders_among counts (n ∷ []))
shares_more microseconds counts n =
    ap (λ sources. map (share_of microseconds counts) (senders_among counts sources)) (counting_more n)
    ∙ ap (map (share_of microseconds counts)) (filter-append (λ source. nat_lt 0 (counts_in counts source).frames) (range_with_len 0 n) (n ∷ []))
    ∙ map-append (share_of microseconds counts) (senders_among counts (range_with_len 0 n)) (senders_among counts (n ∷ []))

-- the shares behind the last address
pub shares_all : (microseconds : ℕ) (counts : List Counts) (n : ℕ) (before after : List Share)
    → before ≡ map (share_of microseconds counts) (senders_among counts (range_with_len 0 n))
    → after ≡ before ++ map (share_of microseconds counts) (senders_among counts (n ∷ []))
    → n + 1 ≡ length counts → after ≡ map (share_of microseconds counts) (senders counts)
shares_all microseconds counts n before after so_far one_more end =
    one_more
    ∙ ap (λ shares. shares ++ map (share_of microseconds counts) (senders_among counts (n ∷ []))) so_far
    ∙ sym (shares_more microseconds counts n)
    ∙ ap (λ m. map (share_of microseconds counts) (senders_among counts (range_with_len 0 m))) end

counts_in-within : (n : ℕ) (own : Counts) (source : ℕ) → own ≡ nothing → (source < n) ⊎ (n ≤ source) → counts_in (replicate n own) source ≡ nothing
counts_in-within n own source none (inl within) = get_or-replicate n source own nothing within ∙ none
counts_in-within n own source none (inr past) = get_or_past (replicate n own) source nothing (omega (arith, past, length-replicate n own))

-- before the first frame no address has sent anything
pub counts_in-none : (n : ℕ) (own : Counts) (source : ℕ) → own ≡ nothing → counts_in (replicate n own) source ≡ nothing
counts_in-none n own source none = counts_in-within n own source none (cases_lt source n)

-- each share has the counts of its source
pub shares-own : (microseconds : ℕ) (counts : List Counts) (sources : List ℕ)
    → All (λ (share : Share). share.counts ≡ counts_in counts share.source) (map (share_of microseconds counts) sources)
shares-own microseconds counts sources =
    All-map (λ (share : Share). share.counts ≡ counts_in counts share.source) (share_of microseconds counts) sources (λ k d within. refl)

-- the frames of an address
abbrev frames_of : List Counts → ℕ → ℕ
frames_of counts source = (counts_in counts source).frames

abbrev shared_frames : List Share → ℕ
shared_frames shares = sum_by (λ (share : Share). share.counts.frames) shares

-- an address without a frame adds nothing
sum-shares_among : (microseconds : ℕ) (counts : List Counts) (sources : List ℕ)
    → shared_frames (map (share_of microseconds counts) (senders_among counts sources)) ≡ sum_by (frames_of counts) sources
sum-shares_among microseconds counts [] = refl
sum-shares_among microseconds counts (source ∷ sources) =
    let share = share_of microseconds counts in
    let rest = senders_among counts sources in
    let others : shared_frames (map share rest) ≡ sum_by (frames_of counts) sources = sum-shares_among microseconds counts sources in
    cond_both (nat_lt 0 (frames_of counts source)) (source ∷ rest) rest
    (λ among. shared_frames (map share among) ≡ sum_by (frames_of counts) (source ∷ sources))
    (λ sends. omega (arith, others, sum_by-cons (frames_of counts) source sources, sum_by-cons (λ (share : Share). share.counts.frames) (share source) (map share rest)))
    (λ is_silent. omega (arith, others, sum_by-cons (frames_of counts) source sources, ltb-false 0 (frames_of counts source) is_silent))

sum-map-frames : (counts : List Counts) (sources : List ℕ)
    → sum_by (λ (own : Counts). own.frames) (map (counts_in counts) sources) ≡ sum_by (frames_of counts) sources
sum-map-frames counts sources = fold-map (λ (a : ℕ) (own : Counts). a + own.frames) (counts_in counts) 0 sources

-- the frames of the shares sum up as those of all addresses
pub sum-shares : (microseconds : ℕ) (counts : List Counts)
    → shared_frames (map (share_of microseconds counts) (senders counts)) ≡ sum_by (λ (own : Counts). own.frames) counts
sum-shares microseconds counts =
    sum-shares_among microseconds counts (range_with_len 0 (length counts))
    ∙ sym (sum-map-frames counts (range_with_len 0 (length counts)))
    ∙ ap (sum_by (λ (own : Counts). own.frames)) (sym (fill_by_all (counts_in counts) counts (length counts) nothing refl (λ k within. refl)))
