-- A replay that ends with TooLong: the line is the first such line of the log, and the lines before it are taken.
use Rattle.std.proofs.Common.{◌≡◌, ℕ, ◌<◌, cond, List, [], ◌∷◌, ◌++◌, length, Option, Some, None, refl, sym, ap, subst, ◌∙◌, append_assoc, arith, length-append}
use Rattle.std.specs.Prelude.{IfSome}
use Rattle.std.specs.List.{onto_first}
use Rattle.std.specs.Io.KnownBytes.{Appends, Consumes}
use Rattle.std.proofs.KnownBytes.{Appends-trans, Consumes-trans}
use Rattle.vt_logs.specs.declared.counts.Counts.{Counts}
use Rattle.vt_logs.specs.EarlyEnds.{StopsAtLong, HasStoppedAtLong}
use Rattle.vt_logs.specs.Lines.{lines_of}
use Rattle.vt_logs.specs.Progress.{ReplayPoint, HasNoNewline, TakesBytes}
use Rattle.vt_logs.specs.LineEffects.{TakesReadings}
use Rattle.vt_logs.specs.Texts.{no_counts}
use Rattle.vt_logs.proofs.TakenLines.{no_newline, no_later, HasNoNewline-append, takes_none, takes_more}
use Rattle.vt_logs.proofs.ReplayInvariants.{IsMidway, IsUnderWay}
use Rattle.vt_server.specs.shown.Screens.{IsScreenOf}
use Rattle.vt_server.specs.Terminals.{State}

-- The first line of a text begins with these bytes.
record BeginsWith (p text : List ℕ) : Type 0 where
  more : List ℕ
  others : List (List ℕ)
  lines : lines_of text ≡ (p ++ more) ∷ others

first_line : (x : ℕ) (ls : List (List ℕ)) → (more : List ℕ) × (others : List (List ℕ)) × (onto_first x ls ≡ (x ∷ more) ∷ others)
first_line x [] = ([], [], refl)
first_line x (l ∷ ls) = (l, ls, refl)

begins_with : (p rest : List ℕ) → HasNoNewline p → 0 < length p → BeginsWith p (p ++ rest)
begins_with [] rest lacks some = absurd (omega arith)
begins_with (x ∷ []) rest lacks some =
    let first = first_line x (lines_of rest) in
    record { more = first.0; others = first.1; lines = ap (λ b. cond b ([] ∷ lines_of rest) (onto_first x (lines_of rest))) (no_newline x [] lacks) ∙ first.2 }
begins_with (x ∷ y ∷ ys) rest lacks some =
    let later = begins_with (y ∷ ys) rest (no_later x (y ∷ ys) lacks) (omega arith) in
    record {
      more = later.more;
      others = later.others;
      lines = ap (λ b. cond b ([] ∷ lines_of (y ∷ ys ++ rest)) (onto_first x (lines_of (y ∷ ys ++ rest)))) (no_newline x (y ∷ ys) lacks) ∙ ap (onto_first x) later.lines;
    }

-- The first line is too long, and nothing is taken.
long_first : (a : ReplayPoint) (t : State) (held : Option (List ℕ)) (pending : List ℕ) → HasNoNewline pending → 4096 < length pending → t ≡ a.scene.state → held ≡ a.held
    → (rest : List ℕ) → StopsAtLong a (lines_of (pending ++ rest)) t held
long_first a t held pending lacks long same_state same_held rest =
    let first = begins_with pending rest lacks (omega arith) in
    record {
      long = record { before = []; line = pending ++ first.more; after = first.others; parts = first.lines; long = omega (arith, length-append pending first.more) };
      to = a;
      takes = takes_none a;
      state_is = same_state;
      held_is = same_held;
    }

-- A line is too long after lines that are taken.
long_later : (a b : ReplayPoint) (t : State) (held : Option (List ℕ)) (before bytes pending : List ℕ) → TakesBytes a before bytes b pending
    → (rest : List ℕ) → StopsAtLong b (lines_of (pending ++ rest)) t held → StopsAtLong a (lines_of (before ++ bytes ++ rest)) t held
long_later a b t held before bytes pending taken rest later = record {
  long = record {
    before = taken.lines ++ later.long.before;
    line = later.long.line;
    after = later.long.after;
    parts = taken.split rest ∙ ap (λ (ls : List (List ℕ)). taken.lines ++ ls) later.long.parts ∙ sym (append_assoc taken.lines later.long.before (later.long.line ∷ later.long.after));
    long = later.long.long;
  };
  to = later.to;
  takes = takes_more a b later.to taken.lines later.long.before taken.takes later.takes;
  state_is = later.state_is;
  held_is = later.held_is;
}

-- A line that ends in the middle of a chunk is too long.
pub midway_long : (a b : ReplayPoint) (t : State) (held : Option (List ℕ)) (before chunk pending rest part tail : List ℕ) → IsMidway a before chunk b pending rest
    → rest ≡ part ++ tail → HasNoNewline part → 4096 < length (pending ++ part) → t ≡ b.scene.state → held ≡ b.held
    → (r : List ℕ) → StopsAtLong a (lines_of (before ++ chunk ++ r)) t held
midway_long a b t held before chunk pending rest part tail mid cut lacks long same_state same_held r =
    let here : StopsAtLong b (lines_of (pending ++ (part ++ (tail ++ r)))) t held =
    subst (λ (text : List ℕ). StopsAtLong b (lines_of text) t held) (append_assoc pending part (tail ++ r))
    (long_first b t held (pending ++ part) (HasNoNewline-append pending part mid.whole lacks) long same_state same_held (tail ++ r)) in
    let all = long_later a b t held before mid.front pending mid.taken (part ++ (tail ++ r)) here in
    let joined : before ++ chunk ++ r ≡ before ++ mid.front ++ (part ++ (tail ++ r)) =
    ap (λ (text : List ℕ). before ++ text ++ r) (mid.parts ∙ ap (λ (text : List ℕ). mid.front ++ text) cut) ∙ simp append_assoc in
    subst (λ (text : List ℕ). StopsAtLong a (lines_of text) t held) (sym joined) all

pub begun : (a b : Option (List ℕ)) (bytes : List ℕ) (P : List ℕ → Type 0) → Consumes a b bytes → ((rest : List ℕ) → P (bytes ++ rest)) → IfSome a P
begun None b bytes P consumed all = tt
begun (Some xs) None bytes P consumed all = absurd consumed
begun (Some xs) (Some ys) bytes P consumed all = subst P (sym consumed) (all ys)

-- ---- in the whole log

stopped_at_long : (a : ReplayPoint) (t : State) (old held : Option (List ℕ)) (input : List ℕ) → a.counts ≡ no_counts → IsScreenOf a.scene.state a.scene.screen
    → Appends old a.held a.scene.screen → StopsAtLong a (lines_of input) t held → HasStoppedAtLong a.scene.state input t old held
stopped_at_long a t old held input none drawn first stops =
    let takes = stops.takes in record {
      long = stops.long;
      readings = takes.readings;
      read = takes.read;
      short = takes.short;
      first = a.scene;
      last = stops.to.scene;
      printed = takes.printed;
      starts = refl;
      shown = drawn;
      takes = subst (λ (k : ℕ). TakesReadings a.scene k takes.readings stops.to.scene takes.printed) (ap (λ (k : Counts). k.lines) none) takes.takes;
      now_is = stops.state_is;
      written = subst (λ (h : Option (List ℕ)). Appends old h (a.scene.screen ++ takes.printed)) (sym stops.held_is)
          (Appends-trans old a.held stops.to.held a.scene.screen takes.printed first takes.text);
    }

-- A replay ends in a chunk with a line that is too long.
pub way_long : (a b : ReplayPoint) (t : State) (given left after old held : Option (List ℕ)) (pending chunk : List ℕ) (reads : ℕ) → a.counts ≡ no_counts
    → IsScreenOf a.scene.state a.scene.screen → Appends old a.held a.scene.screen → IsUnderWay a given left b pending reads → Consumes left after chunk
    → ((rest : List ℕ) → StopsAtLong b (lines_of (pending ++ chunk ++ rest)) t held) → IfSome given (λ input. HasStoppedAtLong a.scene.state input t old held)
way_long a b t given left after old held pending chunk reads none drawn first way consumed long =
    let P : List ℕ → Type 0 = λ input. HasStoppedAtLong a.scene.state input t old held in
    begun given after (way.input ++ chunk) P (Consumes-trans given left after way.input chunk way.consumed consumed) (λ rest.
    let here : StopsAtLong b (lines_of (pending ++ (chunk ++ rest))) t held =
    subst (λ (text : List ℕ). StopsAtLong b (lines_of text) t held) (append_assoc pending chunk rest) (long rest) in
    subst P (sym (append_assoc way.input chunk rest))
    (stopped_at_long a t old held (way.input ++ (chunk ++ rest)) none drawn first (long_later a b t held [] way.input pending way.taken (chunk ++ rest) here)))

-- A replay ends in its last line, which is too long.
pub end_long : (a b : ReplayPoint) (t : State) (given left old held : Option (List ℕ)) (pending : List ℕ) (reads : ℕ) → a.counts ≡ no_counts
    → IsScreenOf a.scene.state a.scene.screen → Appends old a.held a.scene.screen → IsUnderWay a given left b pending reads → 4096 < length pending
    → t ≡ b.scene.state → held ≡ b.held → IfSome given (λ input. HasStoppedAtLong a.scene.state input t old held)
end_long a b t given left old held pending reads none drawn first way long same_state same_held =
    begun given left way.input (λ input. HasStoppedAtLong a.scene.state input t old held) way.consumed (λ rest.
    stopped_at_long a t old held (way.input ++ rest) none drawn first
    (long_later a b t held [] way.input pending way.taken rest (long_first b t held pending way.whole long same_state same_held rest)))
