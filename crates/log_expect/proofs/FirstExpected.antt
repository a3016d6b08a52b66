-- The first line of a printed text, by the expectation that it has to fit.
use Rattle.std.proofs.Common.{◌≡◌, ◌∙◌, ℕ, suc, ◌<◌, eqb, cond, Bool, true, false, ◌&&◌, List, [], ◌∷◌, ◌++◌, ◌+◌, Option, Some, None, length, take, drop, refl, sym, ap, ap₂, arith, append_assoc}
use Rattle.std.specs.List.{IsSplitAt}
use Rattle.std.specs.Str.{bytes_eq}
use Rattle.std.proofs.lemmas.List.{take-append-drop}
use Rattle.std.specs.Option.{MatchOption}
use Rattle.std.proofs.lemmas.Bool.{and_left, and_right, ne_eqb}
use Rattle.std.proofs.lemmas.Bool.Decides.{Decides-eqb, same_from_decides}
use Rattle.log_expect.proofs.Patterns.{fits-front, fits-short, length-pattern_of}
use Rattle.log_expect.specs.Expectations.{expected_by, expected_line, is_expectation, pattern_in}
use Rattle.log_expect.specs.Patterns.{BytePattern, Only, fits, pattern_of, LeavesRest, FitsNever}
use Rattle.vt_logs.specs.Lines.{lines_of}

-- what is expected of a text that begins with a line for an expectation
expected-line : (line text : List ℕ) (wild : Bool) (more : List BytePattern) → pattern_in line ≡ pattern_of wild text → expected_line line ++ more ≡ pattern_of wild text ++ Only 10 ∷ more
expected-line line text wild more is = append_assoc (pattern_in line) (Only 10 ∷ []) more ∙ ap (λ (pattern : List BytePattern). pattern ++ Only 10 ∷ more) is

-- A text that is shorter than what is expected does not fit.
pub short-never : (line text printed : List ℕ) (wild : Bool) → pattern_in line ≡ pattern_of wild text → length printed < length text → FitsNever (expected_line line) printed
short-never line text printed wild is short = λ more.
    ap (λ (expected : List BytePattern). fits expected printed) (expected-line line text wild more is)
    ∙ fits-short (pattern_of wild text) (Only 10 ∷ more) printed (omega (arith, short, length-pattern_of wild text))

split-fits : (line text printed first rest : List ℕ) (wild : Bool) (more : List BytePattern) → pattern_in line ≡ pattern_of wild text → IsSplitAt printed (length text) first rest
    → fits (expected_line line ++ more) printed ≡ fits (pattern_of wild text) first && fits (Only 10 ∷ more) rest
split-fits line text printed first rest wild more is split =
    let whole : printed ≡ first ++ rest = sym (take-append-drop (length text) printed) ∙ sym (ap₂ ◌++◌ split.1 split.2) in
    ap₂ fits (expected-line line text wild more is) whole
    ∙ fits-front (pattern_of wild text) (Only 10 ∷ more) first rest (length-pattern_of wild text ∙ sym split.3)

-- A line that does not fit.
pub other-never : (line text printed first rest : List ℕ) (wild : Bool) → pattern_in line ≡ pattern_of wild text → IsSplitAt printed (length text) first rest → fits (pattern_of wild text) first ≡ false
    → FitsNever (expected_line line) printed
other-never line text printed first rest wild is split other = λ more.
    split-fits line text printed first rest wild more is split ∙ and_left (fits (pattern_of wild text) first) (fits (Only 10 ∷ more) rest) other

same-test : (a b : ℕ) → eqb a b ≡ eqb b a
same-test a b = same_from_decides (eqb a b) (eqb b a) (Decides-eqb a b) (λ is. sym ((Decides-eqb b a).0 is), λ is. (Decides-eqb b a).1 (sym is))

and-true : (test : Bool) → test && true ≡ test
and-true true = refl
and-true false = refl

-- a text that begins with another byte than a newline, or has none
no-newline : (more : List BytePattern) (rest : List ℕ) → bytes_eq (take 1 rest) (10 ∷ []) ≡ false → fits (Only 10 ∷ more) rest ≡ false
no-newline more [] none = refl
no-newline more (byte ∷ rest) none = and_left (eqb 10 byte) (fits more rest) (same-test 10 byte ∙ sym (and-true (eqb byte 10)) ∙ none)

newline-first : (more : List BytePattern) (rest : List ℕ) → bytes_eq (take 1 rest) (10 ∷ []) ≡ true → fits (Only 10 ∷ more) rest ≡ fits more (drop 1 rest)
newline-first more [] is = absurd (omega (arith, ap {B = ℕ} (λ b. cond b 1 0) is))
newline-first more (byte ∷ rest) is = ap (λ b. b && fits more rest) (same-test 10 byte ∙ sym (and-true (eqb byte 10)) ∙ is)

-- A line that fits, with no newline behind it.
pub longer-never : (line text printed first rest : List ℕ) (wild : Bool) → pattern_in line ≡ pattern_of wild text → IsSplitAt printed (length text) first rest → bytes_eq (take 1 rest) (10 ∷ []) ≡ false
    → FitsNever (expected_line line) printed
longer-never line text printed first rest wild is split none = λ more.
    split-fits line text printed first rest wild more is split ∙ and_right (fits (pattern_of wild text) first) (fits (Only 10 ∷ more) rest) (no-newline more rest none)

-- A line that fits, with a newline behind it.
pub fitting-leaves : (line text printed first rest behind : List ℕ) (wild : Bool) → pattern_in line ≡ pattern_of wild text → IsSplitAt printed (length text) first rest
    → fits (pattern_of wild text) first ≡ true → bytes_eq (take 1 rest) (10 ∷ []) ≡ true → behind ≡ drop 1 rest → LeavesRest (expected_line line) printed behind
fitting-leaves line text printed first rest behind wild is split fit newline left = λ more.
    split-fits line text printed first rest wild more is split
    ∙ ap (λ b. b && fits (Only 10 ∷ more) rest) fit
    ∙ newline-first more rest newline
    ∙ ap (λ (text : List ℕ). fits more text) (sym left)

match-option : {X : Type 0} (Refused Refused' : Type 0) (Taken Taken' : X → Type 0) (found : Option X) → (Refused → Refused') → ((x : X) → Taken x → Taken' x) → MatchOption found Refused Taken → MatchOption found Refused' Taken'
match-option Refused Refused' Taken Taken' None refused taken found = refused found
match-option Refused Refused' Taken Taken' (Some x) refused taken found = taken x found

-- What is behind the newline of a line that fits, if there is one.
pub behind-newline : {X : Type 0} (text_of : X → List ℕ) (line text printed first rest : List ℕ) (wild : Bool) (behind : Option X) → pattern_in line ≡ pattern_of wild text → IsSplitAt printed (length text) first rest
    → fits (pattern_of wild text) first ≡ true
    → MatchOption behind (bytes_eq (take 1 rest) (10 ∷ []) ≡ false) (λ x. (bytes_eq (take 1 rest) (10 ∷ []) ≡ true) × (text_of x ≡ drop 1 rest) × (length (text_of x) + 1 ≡ length rest))
    → MatchOption behind (FitsNever (expected_line line) printed) (λ x. LeavesRest (expected_line line) printed (text_of x))
behind-newline text_of line text printed first rest wild behind is split fit =
    match-option _ _ _ _ behind
    (λ none. longer-never line text printed first rest wild is split none)
    (λ x found. fitting-leaves line text printed first rest (text_of x) wild is split fit found.0 found.1)

-- ---- the lines of a text

pub step-fits : (rest line after left behind : List ℕ) → lines_of rest ≡ line ∷ lines_of after → is_expectation line ≡ true → LeavesRest (expected_line line) left behind
    → fits (expected_by (lines_of rest)) left ≡ fits (expected_by (lines_of after)) behind
step-fits rest line after left behind cut is leaves =
    ap (λ (lines : List (List ℕ)). fits (expected_by lines) left) cut
    ∙ ap (λ b. fits (cond b (expected_line line ++ expected_by (lines_of after)) []) left) is
    ∙ leaves (expected_by (lines_of after))

pub step-never : (rest line after left : List ℕ) → lines_of rest ≡ line ∷ lines_of after → is_expectation line ≡ true → FitsNever (expected_line line) left
    → fits (expected_by (lines_of rest)) left ≡ false
step-never rest line after left cut is never =
    ap (λ (lines : List (List ℕ)). fits (expected_by lines) left) cut
    ∙ ap (λ b. fits (cond b (expected_line line ++ expected_by (lines_of after)) []) left) is
    ∙ never (expected_by (lines_of after))

pub none-expected : (rest line after : List ℕ) → lines_of rest ≡ line ∷ lines_of after → is_expectation line ≡ false → expected_by (lines_of rest) ≡ []
none-expected rest line after cut other =
    ap expected_by cut ∙ ap (λ b. cond b (expected_line line ++ expected_by (lines_of after)) []) other

nothing-left : (left : List ℕ) → fits [] left ≡ eqb (length left) 0
nothing-left [] = refl
nothing-left (byte ∷ left) = sym (ne_eqb (suc (length left)) 0 (λ is. absurd (omega (arith, is))))

pub end-fits : (rest left : List ℕ) → expected_by (lines_of rest) ≡ [] → fits (expected_by (lines_of rest)) left ≡ eqb (length left) 0
end-fits rest left none = ap (λ (expected : List BytePattern). fits expected left) none ∙ nothing-left left
