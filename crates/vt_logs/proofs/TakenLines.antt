-- Lines taken one after the other, and bytes cut into lines.
use Rattle.std.proofs.Common.{◌≡◌, ℕ, suc, ◌+◌, ◌≤◌, ◌<◌, Bool, true, false, cond, eqb, List, [], ◌∷◌, ◌++◌, length, refl, sym, ap, subst, ◌∙◌, append_assoc, arith, length-append, add-zero}
use Rattle.std.specs.Prelude.{Ok, Err, not}
use Rattle.std.proofs.lemmas.List.Elements.{All-head, All-tail, All-append}
use Rattle.std.proofs.lemmas.List.{append-nil}
use Rattle.std.specs.List.{AllZip, AllByRecursion, onto_first}
use Rattle.std.proofs.KnownBytes.{Appends-trans, Appends-nil}
use Rattle.vt_can.specs.lines.Readings.{FrameAt, OperatorAction, SkippedFrame, CommentLine}
use Rattle.vt_logs.specs.declared.counts.Counts.{Counts}
use Rattle.vt_logs.specs.Lines.{lines_of}
use Rattle.vt_logs.specs.LineEffects.{ReplayState, TakesReading, TakesReadings}
use Rattle.vt_logs.specs.Texts.{LineReading, with_line_counted, with_lines_counted}
use Rattle.vt_logs.specs.Progress.{AtMost, ReplayPoint, Takes, TakesOne, HasNoNewline, TakesBytes}
use Rattle.vt_recorded.specs.Readings.{IsReadingOf}
use Rattle.vt_server.specs.shown.Screens.{IsScreenOf}

-- ---- readings, one list after another

pub AllZip-append : {A B : Type 0} (R : A → B → Type 0) (xs : List A) (bs : List B) (cs : List A) (ds : List B) → AllZip R xs bs → AllZip R cs ds → AllZip R (xs ++ cs) (bs ++ ds)
AllZip-append R [] [] cs ds p q = q
AllZip-append R [] (b ∷ bs) cs ds p q = absurd p
AllZip-append R (a ∷ xs) [] cs ds p q = absurd p
AllZip-append R (a ∷ xs) (b ∷ bs) cs ds p q = (p.0, AllZip-append R xs bs cs ds p.1 q)

pub All-joined : {A : Type 0} (P : A → Type 0) (xs bs : List A) → AllByRecursion P xs → AllByRecursion P bs → AllByRecursion P (xs ++ bs)
All-joined P [] bs p q = q
All-joined P (a ∷ xs) bs p q = (p.0, All-joined P xs bs p.1 q)

with_lines_counted-append : (c : Counts) (rs qs : List LineReading) → with_lines_counted c (rs ++ qs) ≡ with_lines_counted (with_lines_counted c rs) qs
with_lines_counted-append c [] qs = refl
with_lines_counted-append c (r ∷ rs) qs = with_lines_counted-append (with_line_counted c r) rs qs

with_line_counted-lines : (c : Counts) (r : LineReading) → (with_line_counted c r).lines ≡ c.lines + 1
with_line_counted-lines c (Ok (FrameAt time frame)) = refl
with_line_counted-lines c (Ok (OperatorAction action)) = refl
with_line_counted-lines c (Ok (SkippedFrame why)) = refl
with_line_counted-lines c (Ok CommentLine) = refl
with_line_counted-lines c (Err fault) = refl

with_lines_counted-lines : (c : Counts) (rs : List LineReading) → (with_lines_counted c rs).lines ≡ c.lines + length rs
with_lines_counted-lines c [] = omega arith
with_lines_counted-lines c (r ∷ rs) =
    let rest = with_lines_counted-lines (with_line_counted c r) rs in
    let first = with_line_counted-lines c r in
    omega arith

-- Lines are taken after other lines, and their numbers go on from those.
pub readings-append : (a b c : ReplayState) (n m : ℕ) (rs qs : List LineReading) (t u : List ℕ) → TakesReadings a n rs b t → m ≡ n + length rs → TakesReadings b m qs c u
    → TakesReadings a n (rs ++ qs) c (t ++ u)
readings-append a b c n m [] qs t u p place q =
    let here : m ≡ n = place ∙ add-zero n in
    let from : TakesReadings a m qs c u = subst (λ (s : ReplayState). TakesReadings s m qs c u) p.0 q in
    subst (λ (text : List ℕ). TakesReadings a n qs c (text ++ u)) (sym p.1) (subst (λ (k : ℕ). TakesReadings a k qs c u) here from)
readings-append a b c n m (r ∷ rs) qs t u p place q = record {
  middle = p.middle;
  first = p.first;
  rest = p.rest ++ u;
  takes = p.takes;
  next = readings-append p.middle b c (n + 1) m rs qs p.rest u p.next (omega (arith, place)) q;
  whole = ap (λ (text : List ℕ). text ++ u) p.whole ∙ append_assoc p.first p.rest u;
}

-- ---- the screen that was printed last is the terminal's

reading_drawn : (a b : ReplayState) (n : ℕ) (r : LineReading) (t : List ℕ) → TakesReading a n r b t → IsScreenOf a.state a.screen → IsScreenOf b.state b.screen
reading_drawn a b n (Ok (FrameAt time frame)) t p drawn = p.takes.screen
reading_drawn a b n (Ok (OperatorAction action)) t p drawn = p.takes.screen
reading_drawn a b n (Ok (SkippedFrame why)) t p drawn = subst (λ (s : ReplayState). IsScreenOf s.state s.screen) (sym p.0) drawn
reading_drawn a b n (Ok CommentLine) t p drawn = subst (λ (s : ReplayState). IsScreenOf s.state s.screen) (sym p.0) drawn
reading_drawn a b n (Err fault) t p drawn = subst (λ (s : ReplayState). IsScreenOf s.state s.screen) (sym p.0) drawn

readings_drawn : (a b : ReplayState) (n : ℕ) (rs : List LineReading) (t : List ℕ) → TakesReadings a n rs b t → IsScreenOf a.state a.screen → IsScreenOf b.state b.screen
readings_drawn a b n [] t p drawn = subst (λ (s : ReplayState). IsScreenOf s.state s.screen) (sym p.0) drawn
readings_drawn a b n (r ∷ rs) t p drawn =
    readings_drawn p.middle b (n + 1) rs p.rest p.next (reading_drawn a p.middle (n + 1) r p.first p.takes drawn)

pub takes_drawn : (a b : ReplayPoint) (lines : List (List ℕ)) → Takes a lines b → IsScreenOf a.scene.state a.scene.screen → IsScreenOf b.scene.state b.scene.screen
takes_drawn a b lines p drawn = readings_drawn a.scene b.scene a.counts.lines p.readings p.printed p.takes drawn

-- ---- lines taken

pub takes_none : (a : ReplayPoint) → Takes a [] a
takes_none a = record { readings = []; read = tt; short = tt; printed = []; takes = (refl, refl); counts = refl; text = Appends-nil a.held }

pub takes_one : (a b : ReplayPoint) (line : List ℕ) (r : LineReading) → IsReadingOf line r → length line ≤ 4096 → TakesOne a r b → Takes a (line ∷ []) b
takes_one a b line r reads short one = record {
  readings = r ∷ [];
  read = (reads, tt);
  short = (short, tt);
  printed = one.printed;
  takes = record { middle = b.scene; first = one.printed; rest = []; takes = one.takes; next = (refl, refl); whole = sym (append-nil one.printed) };
  counts = one.counts;
  text = one.text;
}

-- The count of lines grows by the lines taken.
pub takes-lines : (a b : ReplayPoint) (lines : List (List ℕ)) (takes : Takes a lines b) → b.counts.lines ≡ a.counts.lines + length takes.readings
takes-lines a b lines takes = ap (λ (k : Counts). k.lines) takes.counts ∙ with_lines_counted-lines a.counts takes.readings

pub takes_more : (a b c : ReplayPoint) (xs ys : List (List ℕ)) → Takes a xs b → Takes b ys c → Takes a (xs ++ ys) c
takes_more a b c xs ys p q =
    let n = takes-lines a b xs p in record {
      readings = p.readings ++ q.readings;
      read = AllZip-append IsReadingOf xs p.readings ys q.readings p.read q.read;
      short = All-joined (λ line. length line ≤ 4096) xs ys p.short q.short;
      printed = p.printed ++ q.printed;
      takes = readings-append a.scene b.scene c.scene a.counts.lines b.counts.lines p.readings q.readings p.printed q.printed p.takes n q.takes;
      counts = q.counts ∙ ap (λ (k : Counts). with_lines_counted k q.readings) p.counts ∙ sym (with_lines_counted-append a.counts p.readings q.readings);
      text = Appends-trans a.held b.held c.held p.printed q.printed p.text q.text;
    }

-- ---- bytes cut into lines

not_from_pass : (b : Bool) → not b ≡ true → b ≡ false
not_from_pass true e = absurd cc
not_from_pass false e = refl

pub no_newline : (x : ℕ) (xs : List ℕ) → HasNoNewline (x ∷ xs) → eqb x 10 ≡ false
no_newline x xs lacks = not_from_pass (eqb x 10) (All-head (λ y. not (eqb y 10) ≡ true) x xs lacks)

pub no_later : (x : ℕ) (xs : List ℕ) → HasNoNewline (x ∷ xs) → HasNoNewline xs
no_later x xs lacks = All-tail (λ y. not (eqb y 10) ≡ true) x xs lacks

pub lines_of-line : (p rest : List ℕ) → HasNoNewline p → lines_of (p ++ 10 ∷ rest) ≡ p ∷ lines_of rest
lines_of-line [] rest lacks = refl
lines_of-line (x ∷ xs) rest lacks =
    ap (λ b. cond b ([] ∷ lines_of (xs ++ 10 ∷ rest)) (onto_first x (lines_of (xs ++ 10 ∷ rest)))) (no_newline x xs lacks)
    ∙ ap (onto_first x) (lines_of-line xs rest (no_later x xs lacks))

pub lines_of-last : (p : List ℕ) → HasNoNewline p → 0 < length p → lines_of p ≡ p ∷ []
lines_of-last [] lacks some = absurd (omega arith)
lines_of-last (x ∷ []) lacks some = ap (λ b. cond b ([] ∷ []) ((x ∷ []) ∷ [])) (no_newline x [] lacks)
lines_of-last (x ∷ y ∷ ys) lacks some =
    ap (λ b. cond b ([] ∷ lines_of (y ∷ ys)) (onto_first x (lines_of (y ∷ ys)))) (no_newline x (y ∷ ys) lacks)
    ∙ ap (onto_first x) (lines_of-last (y ∷ ys) (no_later x (y ∷ ys) lacks) (omega arith))

pub HasNoNewline-append : (xs ys : List ℕ) → HasNoNewline xs → HasNoNewline ys → HasNoNewline (xs ++ ys)
HasNoNewline-append xs ys p q = All-append (λ byte. not (eqb byte 10) ≡ true) xs ys p q

pub bytes_none : (a : ReplayPoint) (pending : List ℕ) → TakesBytes a pending [] a pending
bytes_none a pending = record { lines = []; takes = takes_none a; few = omega arith; split = λ rest. ap (λ (t : List ℕ). lines_of (t ++ rest)) (append-nil pending) }

-- Bytes of a line whose newline is still to come are pending.
pub bytes_kept : (a b : ReplayPoint) (before bytes pending part : List ℕ) → TakesBytes a before bytes b pending → TakesBytes a before (bytes ++ part) b (pending ++ part)
bytes_kept a b before bytes pending part so_far = record {
  lines = so_far.lines;
  takes = so_far.takes;
  few = omega (arith, so_far.few, length-append bytes part);
  split = λ rest.
      let regrouped : before ++ (bytes ++ part) ++ rest ≡ before ++ bytes ++ (part ++ rest) = simp append_assoc in
      ap lines_of regrouped ∙ so_far.split (part ++ rest) ∙ ap (λ (t : List ℕ). so_far.lines ++ lines_of t) (sym (append_assoc pending part rest));
}

-- A line that ends is taken, and no bytes are pending.
pub bytes_line : (a b c : ReplayPoint) (before bytes pending part : List ℕ) → TakesBytes a before bytes b pending → HasNoNewline (pending ++ part) → Takes b ((pending ++ part) ∷ []) c
    → TakesBytes a before (bytes ++ (part ++ 10 ∷ [])) c []
bytes_line a b c before bytes pending part so_far lacks one = record {
  lines = so_far.lines ++ (pending ++ part) ∷ [];
  takes = takes_more a b c so_far.lines ((pending ++ part) ∷ []) so_far.takes one;
  few = omega (arith, so_far.few, length-append so_far.lines ((pending ++ part) ∷ []), length-append bytes (part ++ 10 ∷ []), length-append part (10 ∷ []));
  split = λ rest.
      let regrouped : before ++ (bytes ++ (part ++ 10 ∷ [])) ++ rest ≡ before ++ bytes ++ (part ++ 10 ∷ rest) = simp append_assoc in
      ap lines_of regrouped ∙ so_far.split (part ++ 10 ∷ rest)
      ∙ ap (λ (t : List ℕ). so_far.lines ++ lines_of t) (sym (append_assoc pending part (10 ∷ rest)))
      ∙ ap (λ (ls : List (List ℕ)). so_far.lines ++ ls) (lines_of-line (pending ++ part) rest lacks)
      ∙ sym (append_assoc so_far.lines ((pending ++ part) ∷ []) (lines_of rest));
}

-- Bytes taken after other bytes are taken together with them.
pub bytes_more : (a b c : ReplayPoint) (before xs pending ys left : List ℕ) → TakesBytes a before xs b pending → TakesBytes b pending ys c left → TakesBytes a before (xs ++ ys) c left
bytes_more a b c before xs pending ys left p q = record {
  lines = p.lines ++ q.lines;
  takes = takes_more a b c p.lines q.lines p.takes q.takes;
  few = omega (arith, p.few, q.few, length-append p.lines q.lines, length-append xs ys);
  split = λ rest.
      let regrouped : before ++ (xs ++ ys) ++ rest ≡ before ++ xs ++ (ys ++ rest) = simp append_assoc in
      ap lines_of regrouped ∙ p.split (ys ++ rest)
      ∙ ap (λ (t : List ℕ). p.lines ++ lines_of t) (sym (append_assoc pending ys rest))
      ∙ ap (λ (ls : List (List ℕ)). p.lines ++ ls) (q.split rest)
      ∙ sym (append_assoc p.lines q.lines (lines_of (left ++ rest)));
}

-- ---- how high the counts are

AtMost-line : (n : ℕ) (c : Counts) (r : LineReading) → AtMost n c → AtMost (n + 1) (with_line_counted c r)
AtMost-line n c (Ok (FrameAt time frame)) most = record { lines = omega (arith, most.lines); frames = omega (arith, most.frames); operator = omega (arith, most.operator); skipped = omega (arith, most.skipped); comments = omega (arith, most.comments); faults = omega (arith, most.faults) }
AtMost-line n c (Ok (OperatorAction action)) most = record { lines = omega (arith, most.lines); frames = omega (arith, most.frames); operator = omega (arith, most.operator); skipped = omega (arith, most.skipped); comments = omega (arith, most.comments); faults = omega (arith, most.faults) }
AtMost-line n c (Ok (SkippedFrame why)) most = record { lines = omega (arith, most.lines); frames = omega (arith, most.frames); operator = omega (arith, most.operator); skipped = omega (arith, most.skipped); comments = omega (arith, most.comments); faults = omega (arith, most.faults) }
AtMost-line n c (Ok CommentLine) most = record { lines = omega (arith, most.lines); frames = omega (arith, most.frames); operator = omega (arith, most.operator); skipped = omega (arith, most.skipped); comments = omega (arith, most.comments); faults = omega (arith, most.faults) }
AtMost-line n c (Err fault) most = record { lines = omega (arith, most.lines); frames = omega (arith, most.frames); operator = omega (arith, most.operator); skipped = omega (arith, most.skipped); comments = omega (arith, most.comments); faults = omega (arith, most.faults) }

AtMost-lines : (n : ℕ) (c : Counts) (rs : List LineReading) → AtMost n c → AtMost (n + length rs) (with_lines_counted c rs)
AtMost-lines n c [] most = subst (λ (k : ℕ). AtMost k c) (sym (add-zero n)) most
AtMost-lines n c (r ∷ rs) most =
    let place : n + 1 + length rs ≡ n + suc (length rs) = omega arith in
    subst (λ (k : ℕ). AtMost k (with_lines_counted c (r ∷ rs))) place (AtMost-lines (n + 1) (with_line_counted c r) rs (AtMost-line n c r most))

pub AtMost-more : (m n : ℕ) (c : Counts) → m ≤ n → AtMost m c → AtMost n c
AtMost-more m n c le most = record { lines = omega (arith, most.lines); frames = omega (arith, most.frames); operator = omega (arith, most.operator); skipped = omega (arith, most.skipped); comments = omega (arith, most.comments); faults = omega (arith, most.faults) }

pub length-zip : {A B : Type 0} (R : A → B → Type 0) (xs : List A) (bs : List B) → AllZip R xs bs → length xs ≡ length bs
length-zip R [] [] p = refl
length-zip R [] (b ∷ bs) p = absurd p
length-zip R (a ∷ xs) [] p = absurd p
length-zip R (a ∷ xs) (b ∷ bs) p = ap suc (length-zip R xs bs p.1)

pub takes-AtMost : (n : ℕ) (a b : ReplayPoint) (ls : List (List ℕ)) → Takes a ls b → AtMost n a.counts → AtMost (n + length ls) b.counts
takes-AtMost n a b ls takes most =
    subst (AtMost (n + length ls)) (sym takes.counts)
    (subst (λ (k : ℕ). AtMost (n + k) (with_lines_counted a.counts takes.readings)) (sym (length-zip IsReadingOf ls takes.readings takes.read)) (AtMost-lines n a.counts takes.readings most))

-- Taking bytes adds at most one to each count for each byte.
pub bytes-AtMost : (n k : ℕ) (a b : ReplayPoint) (before bytes pending : List ℕ) → TakesBytes a before bytes b pending → AtMost n a.counts → length bytes ≤ k → AtMost (n + k) b.counts
bytes-AtMost n k a b before bytes pending so_far most le =
    AtMost-more (n + length so_far.lines) (n + k) b.counts (omega (arith, so_far.few)) (takes-AtMost n a b so_far.lines so_far.takes most)
