-- The lines that a log keeps when its expectations are replaced.
use Rattle.std.proofs.Common.{◌≡◌, ◌∙◌, ℕ, eqb, cond, Bool, true, false, List, [], ◌∷◌, ◌++◌, refl, sym, ap, subst, append_assoc}
use Rattle.std.specs.Prelude.{codes}
use Rattle.std.proofs.lemmas.List.{append-nil}
use Rattle.std.specs.List.{AllByRecursion, onto_first}
use Rattle.log_expect.specs.Blessings.{KeepsLines, without_expectations}
use Rattle.log_expect.specs.Expectations.{is_expectation}
use Rattle.vt_logs.specs.Lines.{lines_of}

-- ---- lines have no newlines

abbrev NoNewline : List ℕ → Type 0
NoNewline line = AllByRecursion (λ (byte : ℕ). eqb byte 10 ≡ false) line

onto-first : (byte : ℕ) (lines : List (List ℕ)) → eqb byte 10 ≡ false → AllByRecursion NoNewline lines → AllByRecursion NoNewline (onto_first byte lines)
onto-first byte [] other all = ((other, tt), tt)
onto-first byte (line ∷ lines) other all = ((other, all.0), all.1)

line-of : (newline : Bool) (byte : ℕ) (lines : List (List ℕ)) → eqb byte 10 ≡ newline → AllByRecursion NoNewline lines → AllByRecursion NoNewline (cond newline ([] ∷ lines) (onto_first byte lines))
line-of true byte lines is all = (tt, all)
line-of false byte lines is all = onto-first byte lines is all

no-newlines : (text : List ℕ) → AllByRecursion NoNewline (lines_of text)
no-newlines [] = tt
no-newlines (byte ∷ rest) = line-of (eqb byte 10) byte (lines_of rest) refl (no-newlines rest)

first-line : (text line : List ℕ) (lines : List (List ℕ)) → lines_of text ≡ line ∷ lines → NoNewline line
first-line text line lines cut = (subst (AllByRecursion NoNewline) cut (no-newlines text)).0

line-and-more : (line more : List ℕ) → NoNewline line → lines_of (line ++ 10 ∷ more) ≡ line ∷ lines_of more
line-and-more [] more none = refl
line-and-more (byte ∷ line) more none =
    ap (λ b. cond b ([] ∷ lines_of (line ++ 10 ∷ more)) (onto_first byte (lines_of (line ++ 10 ∷ more)))) none.0
    ∙ ap (onto_first byte) (line-and-more line more none.1)

-- ---- lines that are put

line-put : (text front line after more : List ℕ) (kept : List (List ℕ)) → KeepsLines text kept → NoNewline (front ++ line) → after ≡ text ++ front ++ line ++ 10 ∷ []
    → without_expectations (lines_of (after ++ more)) ≡ kept ++ without_expectations ((front ++ line) ∷ lines_of more)
line-put text front line after more kept keeps none is =
    let regrouped : text ++ front ++ line ++ 10 ∷ [] ++ more ≡ text ++ ((front ++ line) ++ 10 ∷ more) = simp append_assoc in
    ap (λ (t : List ℕ). without_expectations (lines_of (t ++ more))) is ∙ ap (λ (t : List ℕ). without_expectations (lines_of t)) regrouped ∙ keeps ((front ++ line) ++ 10 ∷ more)
    ∙ ap (λ (ls : List (List ℕ)). kept ++ without_expectations ls) (line-and-more (front ++ line) more none)

expectation-put : (text line after : List ℕ) (kept : List (List ℕ)) → KeepsLines text kept → NoNewline line → after ≡ text ++ codes "#< " ++ line ++ 10 ∷ [] → KeepsLines after kept
expectation-put text line after kept keeps none is = λ more. line-put text (codes "#< ") line after more kept keeps (refl, (refl, (refl, none))) is

other-put : (text line after : List ℕ) (kept : List (List ℕ)) → KeepsLines text kept → NoNewline line → is_expectation line ≡ false → after ≡ text ++ [] ++ line ++ 10 ∷ [] → KeepsLines after (kept ++ line ∷ [])
other-put text line after kept keeps none other is = λ more.
    line-put text [] line after more kept keeps none is
    ∙ ap (λ b. kept ++ cond b (without_expectations (lines_of more)) (line ∷ without_expectations (lines_of more))) other
    ∙ sym (append_assoc kept (line ∷ []) (without_expectations (lines_of more)))

-- Expectations are put behind a text.
pub record AddsExpectations (old new : List ℕ) : Type 0 where
  pub keeps : (kept : List (List ℕ)) → KeepsLines old kept → KeepsLines new kept

pub none-added : (text : List ℕ) → AddsExpectations text text
none-added text = record { keeps = λ kept keeps. keeps }

pub one-added : (text now after printed line lines_after : List ℕ) → AddsExpectations text now → lines_of printed ≡ line ∷ lines_of lines_after → after ≡ now ++ codes "#< " ++ line ++ 10 ∷ [] → AddsExpectations text after
one-added text now after printed line lines_after adds cut is =
    record { keeps = λ kept keeps. expectation-put now line after kept (adds.keeps kept keeps) (first-line printed line (lines_of lines_after) cut) is }

expectation-kept : (text line after : List ℕ) (kept : List (List ℕ)) → KeepsLines text kept → NoNewline line → is_expectation line ≡ true → after ≡ text ++ [] ++ line ++ 10 ∷ [] → KeepsLines after kept
expectation-kept text line after kept keeps none expects is = λ more.
    line-put text [] line after more kept keeps none is ∙ ap (λ b. kept ++ cond b (without_expectations (lines_of more)) (line ∷ without_expectations (lines_of more))) expects

pub one-kept : (text now after rest line lines_after : List ℕ) → AddsExpectations text now → lines_of rest ≡ line ∷ lines_of lines_after → is_expectation line ≡ true → after ≡ now ++ [] ++ line ++ 10 ∷ []
    → AddsExpectations text after
one-kept text now after rest line lines_after adds cut expects is =
    record { keeps = λ kept keeps. expectation-kept now line after kept (adds.keeps kept keeps) (first-line rest line (lines_of lines_after) cut) expects is }

-- ---- a log that is being written

-- The lines that are no expectations are kept so far, and the rest is to come.
pub record AreKept (text log rest : List ℕ) : Type 0 where
  pub kept : List (List ℕ)
  pub so_far : KeepsLines text kept
  pub whole : without_expectations (lines_of log) ≡ kept ++ without_expectations (lines_of rest)

pub kept-begun : (empty text log : List ℕ) → empty ≡ [] → ((kept : List (List ℕ)) → KeepsLines empty kept → KeepsLines text kept) → AreKept text log log
kept-begun empty text log none adds = record {
  kept = [];
  so_far = adds [] (λ more. ap (λ (t : List ℕ). without_expectations (lines_of (t ++ more))) none);
  whole = refl;
}

pub kept-expectation : (text log rest line after : List ℕ) → AreKept text log rest → lines_of rest ≡ line ∷ lines_of after → is_expectation line ≡ true → AreKept text log after
kept-expectation text log rest line after are cut is = record {
  kept = are.kept;
  so_far = are.so_far;
  whole = are.whole ∙ ap (λ (ls : List (List ℕ)). are.kept ++ without_expectations ls) cut
      ∙ ap (λ b. are.kept ++ cond b (without_expectations (lines_of after)) (line ∷ without_expectations (lines_of after))) is;
}

pub kept-other : (text log rest line after middle new : List ℕ) → AreKept text log rest → lines_of rest ≡ line ∷ lines_of after → is_expectation line ≡ false → middle ≡ text ++ [] ++ line ++ 10 ∷ []
    → ((kept : List (List ℕ)) → KeepsLines middle kept → KeepsLines new kept) → AreKept new log after
kept-other text log rest line after middle new are cut other is adds = record {
  kept = are.kept ++ line ∷ [];
  so_far = adds (are.kept ++ line ∷ []) (other-put text line middle are.kept are.so_far (first-line rest line (lines_of after) cut) other is);
  whole = are.whole ∙ ap (λ (ls : List (List ℕ)). are.kept ++ without_expectations ls) cut
      ∙ ap (λ b. are.kept ++ cond b (without_expectations (lines_of after)) (line ∷ without_expectations (lines_of after))) other
      ∙ sym (append_assoc are.kept (line ∷ []) (without_expectations (lines_of after)));
}

pub kept-end : (text log rest : List ℕ) → AreKept text log rest → rest ≡ [] → without_expectations (lines_of text) ≡ without_expectations (lines_of log)
kept-end text log rest are none =
    ap (λ (t : List ℕ). without_expectations (lines_of t)) (sym (append-nil text)) ∙ are.so_far [] ∙ ap (λ (t : List ℕ). are.kept ++ without_expectations (lines_of t)) (sym none) ∙ sym are.whole
