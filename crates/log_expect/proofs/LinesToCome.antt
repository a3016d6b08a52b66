-- The lines of a log that are still to be taken, and the differences that they add to those found so far.
use Rattle.std.proofs.Common.{◌≡◌, ◌∙◌, ℕ, ◌+◌, ◌≤◌, ◌<◌, ◌^◌, cond, true, false, List, [], ◌∷◌, ◌++◌, length, Option, Some, refl, sym, ap, subst, arith, append_assoc}
use Rattle.std.proofs.lemmas.List.{append-nil}
use Rattle.std.specs.List.{AllZip, AllByRecursion}
use Rattle.std.specs.Io.KnownBytes.{Appends}
use Rattle.log_expect.proofs.TakenLine.{TakesLine, AtMost-more, line-taken, lines-counted, one-more, still-drawn}
use Rattle.log_expect.specs.Differences.{AreDifferences, DiffersAt, difference_at, differences_after}
use Rattle.log_expect.specs.Expectations.{expected_by, is_expectation}
use Rattle.log_expect.specs.LineTexts.{TakesEach}
use Rattle.vt_logs.specs.declared.counts.Counts.{Counts}
use Rattle.vt_logs.specs.LineEffects.{ReplayState}
use Rattle.vt_logs.specs.Lines.{lines_of}
use Rattle.vt_logs.specs.Progress.{AtMost, ReplayPoint, Takes}
use Rattle.vt_logs.specs.Texts.{LineReading, no_counts}
use Rattle.vt_recorded.specs.Readings.{IsReadingOf}
use Rattle.vt_server.specs.shown.Screens.{IsScreenOf}
use Rattle.vt_server.specs.Terminals.{State}

-- Any texts of the lines to come complete the differences of the log.
abbrev Completes : State → List ℕ → List DiffersAt → ReplayState → ℕ → List ℕ → Type 0
Completes start input found now n rest =
    (readings : List LineReading) (texts : List (List ℕ)) (last : ReplayState) → AllZip IsReadingOf (lines_of rest) readings → AllByRecursion (λ line. length line ≤ 4096) (lines_of rest)
    → TakesEach now n readings texts last → AreDifferences start input (found ++ differences_after n (lines_of rest) texts) last.state

-- No line is longer than 4,096 bytes.
abbrev AreShort : List ℕ → Type 0
AreShort text = AllByRecursion (λ line. length line ≤ 4096) (lines_of text)

-- The first lines of a log are taken, with these differences, and the rest is to come.
pub record IsUnderWay (start : State) (input : List ℕ) (found : List DiffersAt) (now : ReplayState) (counts : Counts) (rest : List ℕ) : Type 0 where
  pub drawn : IsScreenOf now.state now.screen
  pub taken : ℕ
  pub few : AtMost taken counts
  pub room : taken + length rest ≤ length input
  pub completes : Completes start input found now counts.lines rest
  pub short : AreShort input → AreShort rest

pub way-few : (start : State) (input : List ℕ) (found : List DiffersAt) (now : ReplayState) (counts : Counts) (rest : List ℕ)
    → IsUnderWay start input found now counts rest → length input ≤ 2 ^ 60 → AtMost (2 ^ 62) counts
way-few start input found now counts rest way few = AtMost-more way.taken (2 ^ 62) counts (omega (arith, way.room, few)) way.few

pub way-begun : (start : State) (input screen : List ℕ) (found : List DiffersAt) (counts : Counts) → counts ≡ no_counts → IsScreenOf start screen
    → found ≡ difference_at 0 (expected_by (lines_of input)) screen → IsUnderWay start input found (record { state = start; screen = screen }) counts input
way-begun start input screen found counts none drawn first =
    let now : ReplayState = record { state = start; screen = screen } in
    let begun : IsUnderWay start input (difference_at 0 (expected_by (lines_of input)) screen) now no_counts input = record {
      drawn = drawn;
      taken = 0;
      few = record { lines = omega arith; frames = omega arith; operator = omega arith; skipped = omega arith; comments = omega arith; faults = omega arith };
      room = omega arith;
      completes = λ readings texts last read short takes. record {
        screen = screen;
        texts = texts;
        prints = record { readings = readings; read = read; short = short; shown = drawn; last = last; takes = takes; now_is = refl };
        are = refl;
      };
      short = λ all. all;
    } in
    subst (λ (differences : List DiffersAt). IsUnderWay start input differences now counts input) (sym first)
    (subst (λ (k : Counts). IsUnderWay start input (difference_at 0 (expected_by (lines_of input)) screen) now k input) (sym none) begun)

-- the difference of a line that is taken, if it is no expectation
abbrev pub line_difference : ℕ → List ℕ → List ℕ → List ℕ → List DiffersAt
line_difference n line after text = cond (is_expectation line) [] (difference_at n (expected_by (lines_of after)) text)

way-line : (start : State) (input : List ℕ) (found : List DiffersAt) (from to : ReplayPoint) (rest line after : List ℕ) → IsUnderWay start input found from.scene from.counts rest
    → lines_of rest ≡ line ∷ lines_of after → length after < length rest → (taken : TakesLine from line to)
    → IsUnderWay start input (found ++ line_difference to.counts.lines line after taken.text) to.scene to.counts after
way-line start input found from to rest line after way cut shorter taken =
    let n : to.counts.lines ≡ from.counts.lines + 1 = ap (λ (counts : Counts). counts.lines) taken.counts ∙ lines-counted from.counts taken.reading in
    record {
      drawn = still-drawn from.scene to.scene (from.counts.lines + 1) taken.reading taken.text taken.takes way.drawn;
      taken = way.taken + 1;
      few = subst (AtMost (way.taken + 1)) (sym taken.counts) (one-more way.taken from.counts taken.reading way.few);
      room = omega (arith, way.room, shorter);
      completes = λ readings texts last read short takes.
          let whole = way.completes (taken.reading ∷ readings) (taken.text ∷ texts) last
          (subst (λ (lines : List (List ℕ)). AllZip IsReadingOf lines (taken.reading ∷ readings)) (sym cut) (taken.reads, read))
          (subst (AllByRecursion (λ line. length line ≤ 4096)) (sym cut) (taken.short, short))
          (record { middle = to.scene; takes = taken.takes; next = subst (λ (k : ℕ). TakesEach to.scene k readings texts last) n takes }) in
          let added : differences_after from.counts.lines (lines_of rest) (taken.text ∷ texts)
          ≡ line_difference to.counts.lines line after taken.text ++ differences_after to.counts.lines (lines_of after) texts =
          ap (λ (lines : List (List ℕ)). differences_after from.counts.lines lines (taken.text ∷ texts)) cut
          ∙ ap (λ (k : ℕ). line_difference k line after taken.text ++ differences_after k (lines_of after) texts) (sym n) in
          subst (λ (differences : List DiffersAt). AreDifferences start input differences last.state)
          (ap (λ (more : List DiffersAt). found ++ more) added ∙ sym (append_assoc found (line_difference to.counts.lines line after taken.text) (differences_after to.counts.lines (lines_of after) texts)))
          whole;
      short = λ all. (subst (AllByRecursion (λ line. length line ≤ 4096)) cut (way.short all)).1;
    }

-- A line is taken while no bytes are pending, and prints a text into an empty buffer.
pub way-step : (start : State) (input : List ℕ) (found : List DiffersAt) (from to : ReplayPoint) (pending rest line after printed : List ℕ) → IsUnderWay start input found from.scene from.counts rest
    → lines_of rest ≡ line ∷ lines_of after → length after < length rest → pending ≡ [] → Takes from ((pending ++ line) ∷ []) to → from.held ≡ Some [] → to.held ≡ Some printed
    → IsUnderWay start input (found ++ line_difference to.counts.lines line after printed) to.scene to.counts after
way-step start input found from to pending rest line after printed way cut shorter none takes empty holds =
    let taken = line-taken from to line (subst (λ (bytes : List ℕ). Takes from ((bytes ++ line) ∷ []) to) none takes) in
    let whole : Appends (Some []) (Some printed) taken.text =
    subst (λ (held : Option (List ℕ)). Appends (Some []) held taken.text) holds (subst (λ (held : Option (List ℕ)). Appends held to.held taken.text) empty taken.held) in
    subst (λ (text : List ℕ). IsUnderWay start input (found ++ line_difference to.counts.lines line after text) to.scene to.counts after) (sym whole)
    (way-line start input found from to rest line after way cut shorter taken)

-- the differences after a line that is no expectation, and after one that is
pub line_difference-other : (found : List DiffersAt) (n : ℕ) (line after printed : List ℕ) → is_expectation line ≡ false
    → found ++ line_difference n line after printed ≡ found ++ difference_at n (expected_by (lines_of after)) printed
line_difference-other found n line after printed other =
    ap (λ b. found ++ cond b [] (difference_at n (expected_by (lines_of after)) printed)) other

pub line_difference-expectation : (found : List DiffersAt) (n : ℕ) (line after printed : List ℕ) → is_expectation line ≡ true → found ++ line_difference n line after printed ≡ found
line_difference-expectation found n line after printed is =
    ap (λ b. found ++ cond b [] (difference_at n (expected_by (lines_of after)) printed)) is ∙ append-nil found

-- A line that is too long is one of the log.
pub way-long : (start : State) (input : List ℕ) (found : List DiffersAt) (now : ReplayState) (counts : Counts) (pending rest line after : List ℕ) → IsUnderWay start input found now counts rest
    → lines_of rest ≡ line ∷ lines_of after → pending ≡ [] → 4096 < length (pending ++ line) → ¬ AllByRecursion (λ line. length line ≤ 4096) (lines_of input)
way-long start input found now counts pending rest line after way cut none long = λ all.
    let here = (subst (AllByRecursion (λ line. length line ≤ 4096)) cut (way.short all)).0 in
    let length_is : length (pending ++ line) ≡ length line = ap (λ (bytes : List ℕ). length (bytes ++ line)) none in
    absurd (omega (arith, here, long, length_is))

pub way-end : (start : State) (input : List ℕ) (found : List DiffersAt) (now : ReplayState) (counts : Counts) (rest : List ℕ) → IsUnderWay start input found now counts rest → rest ≡ []
    → AreDifferences start input found now.state
way-end start input found now counts rest way none =
    let none_left : lines_of rest ≡ [] = ap lines_of none in
    subst (λ (differences : List DiffersAt). AreDifferences start input differences now.state)
    (ap (λ (lines : List (List ℕ)). found ++ differences_after counts.lines lines []) none_left ∙ append-nil found)
    (way.completes [] [] now (subst (λ (lines : List (List ℕ)). AllZip IsReadingOf lines []) (sym none_left) tt)
    (subst (AllByRecursion (λ line. length line ≤ 4096)) (sym none_left) tt) refl)
