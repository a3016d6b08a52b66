-- A replay that ends early in lines: the first lines are taken with their text written, and at most one more, with its text in part.
use Rattle.std.proofs.Common.{◌≡◌, ℕ, ◌+◌, ◌≤◌, length, List, [], ◌∷◌, ◌++◌, inl, inr, Option, Some, None, refl, sym, ap, subst, ◌∙◌, append_assoc}
use Rattle.std.specs.Prelude.{Result, Ok, Err, OnErr}
use Rattle.std.proofs.lemmas.List.{append-nil}
use Rattle.std.specs.Io.KnownBytes.{Appends, Keeps}
use Rattle.std.proofs.KnownBytes.{Appends-trans}
use Rattle.vt_logs.specs.Lines.{lines_of}
use Rattle.vt_logs.specs.LineEffects.{Follows, ReplayState, TakesReading}
use Rattle.vt_logs.specs.Texts.{LineReading}
use Rattle.vt_logs.specs.EarlyEnds.{Begins, BreaksOff, LeavesLines, Stops}
use Rattle.vt_logs.specs.Progress.{ReplayPoint, Takes, HasNoNewline, TakesBytes, Writes}
use Rattle.vt_logs.proofs.TakenLines.{takes_none, takes_more, lines_of-line, HasNoNewline-append}
use Rattle.vt_logs.proofs.ReplayInvariants.{IsMidway}
use Rattle.vt_recorded.specs.Readings.{IsReadingOf}
use Rattle.vt_server.specs.Terminals.{State}

-- ---- what stands written

keeps-appends : (a b : Option (List ℕ)) → Keeps a b → Appends a b []
keeps-appends None b p = tt
keeps-appends (Some x) None p = absurd p
keeps-appends (Some x) (Some y) p = p ∙ sym (append-nil x)

-- One text is written, and the next in part.
pub begins_later : (a b c : Option (List ℕ)) (done text : List ℕ) → Appends a b done → Begins b c text → Begins a c (done ++ text)
begins_later a b c done text p q = record {
  front = done ++ q.front;
  rest = q.rest;
  parts = ap (λ (t : List ℕ). done ++ t) q.parts ∙ sym (append_assoc done q.front q.rest);
  written = Appends-trans a b c done q.front p q.written;
}

-- The first bytes of a text are also the first of a longer one.
pub begins_more : (a b : Option (List ℕ)) (text more : List ℕ) → Begins a b text → Begins a b (text ++ more)
begins_more a b text more p = record {
  front = p.front;
  rest = p.rest ++ more;
  parts = ap (λ (t : List ℕ). t ++ more) p.parts ∙ append_assoc p.front p.rest more;
  written = p.written;
}

-- ---- where not all lines are taken

-- No line is taken, and nothing is written.
pub stops_none : (a : ReplayPoint) (lines : List (List ℕ)) (held : Option (List ℕ)) → Keeps a.held held → Stops a lines a.scene.state held
stops_none a lines held keeps = record {
  front = [];
  back = lines;
  to = a;
  text = [];
  whole = refl;
  takes = takes_none a;
  leaves = inl (refl, refl);
  written = keeps-appends a.held held keeps;
}

leaves_one : (s : ReplayState) (n : ℕ) (line : List ℕ) (r : LineReading) (t : State) (text : List ℕ) → IsReadingOf line r → length line ≤ 4096
    → BreaksOff s.state (Follows s.state r) (TakesReading s n r) t text → LeavesLines s n (line ∷ []) t text
leaves_one s n line r t text reads short (inl none) = inl none
leaves_one s n line r t text reads short (inr part) =
    inr (record { line = line; after = []; reading = r; next = refl; read = reads; short = short; part = part })

-- One line is not taken, or its text is written in part.
pub stops_one : (a : ReplayPoint) (t : State) (line : List ℕ) (r : LineReading) (held : Option (List ℕ)) → IsReadingOf line r → length line ≤ 4096
    → Writes (BreaksOff a.scene.state (Follows a.scene.state r) (TakesReading a.scene (a.counts.lines + 1) r) t) a.held held → Stops a (line ∷ []) t held
stops_one a t line r held reads short off = record {
  front = [];
  back = line ∷ [];
  to = a;
  text = off.text;
  whole = refl;
  takes = takes_none a;
  leaves = leaves_one a.scene (a.counts.lines + 1) line r t off.text reads short off.text_is;
  written = off.written;
}

leaves_more : (s : ReplayState) (n : ℕ) (lines more : List (List ℕ)) (t : State) (text : List ℕ) → LeavesLines s n lines t text → LeavesLines s n (lines ++ more) t text
leaves_more s n lines more t text (inl none) = inl none
leaves_more s n lines more t text (inr p) =
    inr (record {
      line = p.line;
      after = p.after ++ more;
      reading = p.reading;
      next = ap (λ (ls : List (List ℕ)). ls ++ more) p.next;
      read = p.read;
      short = p.short;
      part = p.part;
    })

stops_more : (a : ReplayPoint) (t : State) (lines more : List (List ℕ)) (held : Option (List ℕ)) → Stops a lines t held → Stops a (lines ++ more) t held
stops_more a t lines more held p = record {
  front = p.front;
  back = p.back ++ more;
  to = p.to;
  text = p.text;
  whole = ap (λ (ls : List (List ℕ)). ls ++ more) p.whole ∙ append_assoc p.front p.back more;
  takes = p.takes;
  leaves = leaves_more p.to.scene (p.to.counts.lines + 1) p.back more t p.text p.leaves;
  written = p.written;
}

stops_later : (a b : ReplayPoint) (t : State) (done lines : List (List ℕ)) (held : Option (List ℕ)) → Takes a done b → Stops b lines t held → Stops a (done ++ lines) t held
stops_later a b t done lines held takes p = record {
  front = done ++ p.front;
  back = p.back;
  to = p.to;
  text = p.text;
  whole = ap (λ (ls : List (List ℕ)). done ++ ls) p.whole ∙ sym (append_assoc done p.front p.back);
  takes = takes_more a b p.to done p.front takes p.takes;
  leaves = p.leaves;
  written = p.written;
}

pub later_bytes : (a b : ReplayPoint) (t : State) (held : Option (List ℕ)) (before bytes pending : List ℕ) → TakesBytes a before bytes b pending → (rest : List ℕ) → Stops b (lines_of (pending ++ rest)) t held
    → Stops a (lines_of (before ++ bytes ++ rest)) t held
later_bytes a b t held before bytes pending taken rest later =
    subst (λ (ls : List (List ℕ)). Stops a ls t held) (sym (taken.split rest)) (stops_later a b t taken.lines (lines_of (pending ++ rest)) held taken.takes later)

-- ---- in a chunk

-- A replay ends in the next line of a chunk.
pub midway_stops : (a b : ReplayPoint) (t : State) (held : Option (List ℕ)) (before chunk pending rest line after : List ℕ) → IsMidway a before chunk b pending rest → HasNoNewline line → rest ≡ line ++ 10 ∷ after
    → Stops b ((pending ++ line) ∷ []) t held → (r : List ℕ) → Stops a (lines_of (before ++ chunk ++ r)) t held
midway_stops a b t held before chunk pending rest line after mid lacks cut one r =
    let cut_here : lines_of (pending ++ (line ++ 10 ∷ (after ++ r))) ≡ (pending ++ line) ∷ lines_of (after ++ r) =
    ap lines_of (sym (append_assoc pending line (10 ∷ (after ++ r)))) ∙ lines_of-line (pending ++ line) (after ++ r) (HasNoNewline-append pending line mid.whole lacks) in
    let here : Stops b (lines_of (pending ++ (line ++ 10 ∷ (after ++ r)))) t held =
    subst (λ (ls : List (List ℕ)). Stops b ls t held) (sym cut_here) (stops_more b t ((pending ++ line) ∷ []) (lines_of (after ++ r)) held one) in
    let all = later_bytes a b t held before mid.front pending mid.taken (line ++ 10 ∷ (after ++ r)) here in
    let joined : before ++ chunk ++ r ≡ before ++ mid.front ++ (line ++ 10 ∷ (after ++ r)) =
    ap (λ (text : List ℕ). before ++ text ++ r) (mid.parts ∙ ap (λ (text : List ℕ). mid.front ++ text) cut) ∙ simp append_assoc in
    subst (λ (text : List ℕ). Stops a (lines_of text) t held) (sym joined) all

-- A replay ends where the rest of a chunk cannot be kept.
pub midway_stop : (a b : ReplayPoint) (held : Option (List ℕ)) (before chunk pending rest : List ℕ) → IsMidway a before chunk b pending rest → Keeps b.held held → (r : List ℕ)
    → Stops a (lines_of (before ++ chunk ++ r)) b.scene.state held
midway_stop a b held before chunk pending rest mid keeps r =
    let all = later_bytes a b b.scene.state held before mid.front pending mid.taken (rest ++ r) (stops_none b (lines_of (pending ++ (rest ++ r))) held keeps) in
    let joined : before ++ chunk ++ r ≡ before ++ mid.front ++ (rest ++ r) = ap (λ (text : List ℕ). before ++ text ++ r) mid.parts ∙ simp append_assoc in
    subst (λ (text : List ℕ). Stops a (lines_of text) b.scene.state held) (sym joined) all

-- ---- results

pub on_any_err : {T E P : Type 0} (r : Result T E) → P → OnErr r P
on_any_err (Ok x) p = tt
on_any_err (Err e) p = p
