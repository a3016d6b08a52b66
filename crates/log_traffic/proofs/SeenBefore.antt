-- Frames that were seen before.
use Rattle.std.proofs.Common.{◌≡◌, ℕ, suc, ◌+◌, ◌-◌, ◌<◌, ◌≤◌, ◌⊎◌, inl, inr, Bool, false, ◌&&◌, ◌||◌, List, [], ◌∷◌, ◌++◌, length, drop, sym, ap, subst, ◌∙◌, refl, arith}
use Rattle.std.specs.Prelude.{slice_index_or, All, Option, Some, None, IfSome, option_map, unwrap_or}
use Rattle.std.specs.List.{list_any}
use Rattle.std.proofs.lemmas.List.{append_assoc, length-append, get_or_push, get_or_append_left, get_or-append-add, drop-append-le, get_or-drop, length-drop}
use Rattle.std.proofs.lemmas.List.Elements.{All-append}
use Rattle.std.proofs.lemmas.List.Folds.{list_any-append, list_any_none}
use Rattle.std.proofs.lemmas.Bool.{and_left, cases_lt, le-leb, lt-leb}
use Rattle.log_traffic.specs.declared.sightings.Sighting.{Sighting}
use Rattle.log_traffic.specs.declared.sightings.Sightings.{Sightings}
use Rattle.log_traffic.specs.declared.span.FrameSpan.{FrameSpan}
use Rattle.log_traffic.specs.Sightings.{is_same, is_soon_before, is_seen_twice, AreInOrder, IsTooOld, HasSeen, AreLeft}

-- one more frame is gone
reason_of : (time : ℕ) (gone rest : List Sighting) (frame : Sighting) → IsTooOld time frame ⊎ (63 ≤ length rest)
    → ((d : Sighting) → IsTooOld time (slice_index_or (gone ++ frame ∷ []) (length (gone ++ frame ∷ []) - 1) d)) ⊎ (63 ≤ length rest)
reason_of time gone rest frame (inl old) =
    let place : length gone ≡ length (gone ++ frame ∷ []) - 1 = omega (arith, length-append gone (frame ∷ [])) in
    inl (λ d. subst (IsTooOld time) (sym (get_or_push gone frame d (length (gone ++ frame ∷ []) - 1) place)) old)
reason_of time gone rest frame (inr many) = inr many

pub left_more : (time : ℕ) (old now rest : List Sighting) (frame : Sighting) → AreLeft time old now → now ≡ frame ∷ rest
    → IsTooOld time frame ⊎ (63 ≤ length rest) → AreLeft time old rest
left_more time old now rest frame left first reason = record {
  gone = left.gone ++ frame ∷ [];
  parts = left.parts ∙ ap (λ frames. left.gone ++ frames) first ∙ sym (append_assoc left.gone (frame ∷ []) rest);
  reason = inr (reason_of time left.gone rest frame reason);
}

-- ---- what was forgotten cannot count

too_old_later : (early late : ℕ) (frame : Sighting) → early ≤ late → IsTooOld early frame → IsTooOld late frame
too_old_later early late frame later old = omega (arith, later, old)

-- each frame before one that is too old is too old
past_gone : (time : ℕ) (past gone rest : List Sighting) → AreInOrder ((past ++ gone) ++ rest)
    → ((d : Sighting) → IsTooOld time (slice_index_or gone (length gone - 1) d)) → All (IsTooOld time) (past ++ gone)
past_gone time past [] rest in_order old k d within = old (slice_index_or (past ++ []) k d)
past_gone time past (frame ∷ gone) rest in_order old k d within =
    let all = past ++ frame ∷ gone in
    let long : length all ≡ length past + length (frame ∷ gone) = length-append past (frame ∷ gone) in
    let within_all : length all ≤ length (all ++ rest) = omega (arith, length-append all rest) in
    let order = in_order k (length past + length gone) d (omega (arith, within, long)) (omega (arith, long, within_all)) in
    let here : slice_index_or (all ++ rest) k d ≡ slice_index_or all k d = get_or_append_left all rest d k within in
    let there : slice_index_or (all ++ rest) (length past + length gone) d ≡ slice_index_or (frame ∷ gone) (length gone) d
    = get_or_append_left all rest d (length past + length gone) (omega (arith, long)) ∙ get_or-append-add past (frame ∷ gone) (length gone) d in
    let last : IsTooOld time (slice_index_or (frame ∷ gone) (length gone) d)
    = subst (λ n. IsTooOld time (slice_index_or (frame ∷ gone) n d)) (omega arith) (old d) in
    omega (arith, order, ap (λ (it : Sighting). it.time) here, ap (λ (it : Sighting). it.time) there, last)

pub forgotten_later : (latest time : ℕ) (past gone rest : List Sighting) → latest ≤ time → AreInOrder ((past ++ gone) ++ rest)
    → All (IsTooOld latest) past ⊎ (63 ≤ length (gone ++ rest))
    → (gone ≡ []) ⊎ (((d : Sighting) → IsTooOld time (slice_index_or gone (length gone - 1) d)) ⊎ (63 ≤ length rest))
    → All (IsTooOld time) (past ++ gone) ⊎ (63 ≤ length rest)
forgotten_later latest time past gone rest later in_order before (inr (inl old)) = inl (past_gone time past gone rest in_order old)
forgotten_later latest time past gone rest later in_order before (inr (inr many)) = inr many
forgotten_later latest time past gone rest later in_order (inl old) (inl none) =
    inl (All-append (IsTooOld time) past gone
    (λ k d within. too_old_later latest time (slice_index_or past k d) later (old k d within))
    (λ k d within. absurd (omega (arith, within, ap length none))))
forgotten_later latest time past gone rest later in_order (inr many) (inl none) =
    inr (omega (arith, many, length-append gone rest, ap length none))

-- ---- the frames that are kept tell what was seen twice

any_same : (p q : Sighting → Bool) (frames : List Sighting) → All (λ frame. p frame ≡ q frame) frames → list_any p frames ≡ list_any q frames
any_same p q [] same = refl
any_same p q (frame ∷ frames) same =
    ap (λ first. first || list_any p frames) (same 0 frame (omega arith))
    ∙ ap (λ others. q frame || others) (any_same p q frames (λ k d within. same (suc k) d (omega (arith, within))))

-- a frame that is too old does not count
old_does_not_count : (time : ℕ) (past rest : List Sighting) (frame : Sighting) → frame.time ≡ time
    → All (IsTooOld time) past ⊎ (63 ≤ length rest)
    → All (λ other. (is_soon_before other frame && is_same other frame) ≡ false) (drop (length (past ++ rest) - 63) past)
old_does_not_count time past rest frame now (inl old) k d within =
    let n = length (past ++ rest) - 63 in
    let other = slice_index_or (drop n past) k d in
    let it : other ≡ slice_index_or past (n + k) d = get_or-drop n past k d in
    let far : IsTooOld time (slice_index_or past (n + k) d) = old (n + k) d (omega (arith, within, length-drop n past)) in
    and_left (is_soon_before other frame) (is_same other frame)
    (lt-leb (frame.time - other.time) 1000 (omega (arith, now, far, ap (λ (frame : Sighting). frame.time) it)))
old_does_not_count time past rest frame now (inr many) k d within =
    absurd (omega (arith, within, many, length-append past rest, length-drop (length (past ++ rest) - 63) past))

-- a frame that is kept counts if it is the same
kept_counts : (time : ℕ) (past rest : List Sighting) (frame : Sighting) → frame.time ≡ time → AreInOrder (past ++ rest)
    → ((d : Sighting) → 0 < length rest → time - (slice_index_or rest 0 d).time ≤ 1000)
    → All (λ other. (is_soon_before other frame && is_same other frame) ≡ is_same other frame) rest
kept_counts time past rest frame now in_order soon k d within =
    let other = slice_index_or rest k d in
    let order = in_order (length past + 0) (length past + k) d (omega arith) (omega (arith, within, length-append past rest)) in
    let near : frame.time - other.time ≤ 1000
    = omega (
      arith,
      now,
      soon d (omega (arith, within)),
      order,
      ap (λ (frame : Sighting). frame.time) (get_or-append-add past rest 0 d),
      ap (λ (frame : Sighting). frame.time) (get_or-append-add past rest k d),
    ) in
    ap (λ soon. soon && is_same other frame) (le-leb (frame.time - other.time) 1000 near)

pub seen_among : (time : ℕ) (past rest : List Sighting) (frame : Sighting) → frame.time ≡ time → AreInOrder (past ++ rest) → length rest ≤ 63
    → ((d : Sighting) → 0 < length rest → time - (slice_index_or rest 0 d).time ≤ 1000)
    → All (IsTooOld time) past ⊎ (63 ≤ length rest)
    → is_seen_twice (past ++ rest) frame ≡ list_any (λ other. is_same other frame) rest
seen_among time past rest frame now in_order few soon forgotten =
    let counts : Sighting → Bool = λ other. is_soon_before other frame && is_same other frame in
    let n = length (past ++ rest) - 63 in
    ap (list_any counts) (drop-append-le n past rest (omega (arith, length-append past rest, few)))
    ∙ list_any-append counts (drop n past) rest
    ∙ ap (λ first. first || list_any counts rest) (list_any_none counts (drop n past) (old_does_not_count time past rest frame now forgotten))
    ∙ any_same counts (λ other. is_same other frame) rest (kept_counts time past rest frame now in_order soon)

-- ---- one more frame

-- what is not kept, and what is
parts_left : (taken past recent gone rest : List Sighting) → taken ≡ past ++ recent → recent ≡ gone ++ rest → taken ≡ (past ++ gone) ++ rest
parts_left taken past recent gone rest all left = all ∙ ap (λ frames. past ++ frames) left ∙ sym (append_assoc past gone rest)

order_of : (latest time : ℕ) (taken : List Sighting) (frame : Sighting) → latest ≤ time → frame.time ≡ time
    → AreInOrder taken → All (λ other. other.time ≤ latest) taken
    → (j k : ℕ) (d : Sighting) → j ≤ k → k < length (taken ++ frame ∷ []) → (k < length taken) ⊎ (length taken ≤ k) → (j < length taken) ⊎ (length taken ≤ j)
    → (slice_index_or (taken ++ frame ∷ []) j d).time ≤ (slice_index_or (taken ++ frame ∷ []) k d).time
order_of latest time taken frame later now in_order times j k d before within (inl k_within) (inl j_within) =
    omega (
      arith,
      in_order j k d before k_within,
      ap (λ (it : Sighting). it.time) (get_or_append_left taken (frame ∷ []) d j j_within),
      ap (λ (it : Sighting). it.time) (get_or_append_left taken (frame ∷ []) d k k_within),
    )
order_of latest time taken frame later now in_order times j k d before within (inr k_last) (inl j_within) =
    omega (
      arith,
      times j d j_within,
      later,
      now,
      ap (λ (it : Sighting). it.time) (get_or_append_left taken (frame ∷ []) d j j_within),
      ap (λ (it : Sighting). it.time) (get_or_push taken frame d k (omega (arith, k_last, within, length-append taken (frame ∷ [])))),
    )
order_of latest time taken frame later now in_order times j k d before within (inl k_within) (inr j_last) = absurd (omega (arith, before, k_within, j_last))
order_of latest time taken frame later now in_order times j k d before within (inr k_last) (inr j_last) =
    let same : j ≡ k = omega (arith, before, j_last, within, length-append taken (frame ∷ [])) in
    omega (arith, ap (λ n. (slice_index_or (taken ++ frame ∷ []) n d).time) same)

still_many : (past rest : List Sighting) (frame : Sighting) (recent : List Sighting) → recent ≡ rest ++ frame ∷ [] → (time : ℕ)
    → All (IsTooOld time) past ⊎ (63 ≤ length rest) → All (IsTooOld time) past ⊎ (63 ≤ length recent)
still_many past rest frame recent kept time (inl old) = inl old
still_many past rest frame recent kept time (inr many) = inr (omega (arith, many, ap length kept, length-append rest (frame ∷ [])))

in_order_next : (latest time : ℕ) (taken : List Sighting) (frame : Sighting) → latest ≤ time → frame.time ≡ time
    → AreInOrder taken → All (λ other. other.time ≤ latest) taken → AreInOrder (taken ++ frame ∷ [])
in_order_next latest time taken frame later now in_order times j k d before within =
    order_of latest time taken frame later now in_order times j k d before within (cases_lt k (length taken)) (cases_lt j (length taken))

times_next : (latest time : ℕ) (taken : List Sighting) (frame : Sighting) → latest ≤ time → frame.time ≡ time
    → All (λ other. other.time ≤ latest) taken → All (λ other. other.time ≤ time) (taken ++ frame ∷ [])
times_next latest time taken frame later now times =
    All-append (λ (other : Sighting). other.time ≤ time) taken (frame ∷ [])
    (λ k d within. omega (arith, later, times k d within))
    (λ k d within. let first : 0 ≡ k = omega (arith, within) in
    subst (λ n. (slice_index_or (frame ∷ []) n d).time ≤ time) first (omega (arith, now)))

pub seen_next : (latest time : ℕ) (taken rest : List Sighting) (frame : Sighting) (old new : Sightings) → latest ≤ time → HasSeen taken latest old
    → AreLeft time old.recent.items rest → frame.time ≡ time → new.recent.items ≡ rest ++ frame ∷ []
    → HasSeen (taken ++ frame ∷ []) time new
seen_next latest time taken rest frame old new later seen left now kept =
    let parts = parts_left taken seen.past old.recent.items left.gone rest seen.parts left.parts in
    let before = subst (λ recent. All (IsTooOld latest) seen.past ⊎ (63 ≤ length recent)) left.parts seen.forgotten in
    let forgotten = forgotten_later latest time seen.past left.gone rest later (subst AreInOrder parts seen.in_order) before left.reason in
    record {
      past = seen.past ++ left.gone;
      parts = ap (λ frames. frames ++ frame ∷ []) parts ∙ append_assoc (seen.past ++ left.gone) rest (frame ∷ [])
          ∙ ap (λ frames. (seen.past ++ left.gone) ++ frames) (sym kept);
      in_order = in_order_next latest time taken frame later now seen.in_order seen.times;
      times = times_next latest time taken frame later now seen.times;
      forgotten = still_many (seen.past ++ left.gone) rest frame new.recent.items kept time forgotten;
    }

pub twice_next : (latest time : ℕ) (taken rest : List Sighting) (frame : Sighting) (old : Sightings) → latest ≤ time → HasSeen taken latest old
    → AreLeft time old.recent.items rest → frame.time ≡ time → length rest ≤ 63
    → ((d : Sighting) → 0 < length rest → time - (slice_index_or rest 0 d).time ≤ 1000)
    → is_seen_twice taken frame ≡ list_any (λ other. is_same other frame) rest
twice_next latest time taken rest frame old later seen left now few soon =
    let parts = parts_left taken seen.past old.recent.items left.gone rest seen.parts left.parts in
    let in_order = subst AreInOrder parts seen.in_order in
    let before = subst (λ recent. All (IsTooOld latest) seen.past ⊎ (63 ≤ length recent)) left.parts seen.forgotten in
    let forgotten = forgotten_later latest time seen.past left.gone rest later in_order before left.reason in
    ap (λ frames. is_seen_twice frames frame) parts
    ∙ seen_among time (seen.past ++ left.gone) rest frame now in_order few soon forgotten

-- the latest time of a log, by its span
pub latest_before : (span : Option FrameSpan) (time : ℕ) → IfSome span (λ (span : FrameSpan). span.last_time ≤ time)
    → unwrap_or (option_map (λ (span : FrameSpan). span.last_time) span) 0 ≤ time
latest_before None time later = omega arith
latest_before (Some span) time later = later
