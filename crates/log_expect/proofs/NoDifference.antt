-- Proof that a log without differences prints what fits its expectations.
use Rattle.std.proofs.Common.{◌≡◌, ◌∙◌, ℕ, ◌+◌, cond, Bool, true, false, List, [], ◌∷◌, ◌++◌, length, map, refl, sym, ap, arith}
use Rattle.log_expect.proofs.Patterns.{fits-Fits}
use Rattle.log_expect.specs.Differences.{AllAsExpected, DiffersAt, difference_at, differences_after, differences_of}
use Rattle.log_expect.specs.Expectations.{expected_by}
use Rattle.log_expect.specs.Laws.{NoDifferenceIsAsExpected}
use Rattle.log_expect.specs.Patterns.{BytePattern, Fits, fits, shown_byte}
use Rattle.vt_logs.specs.Lines.{lines_of}

none_left : {X : Type 0} (xs ys : List X) → xs ++ ys ≡ [] → xs ≡ []
none_left [] ys none = refl
none_left (x ∷ xs) ys none = absurd (omega (arith, ap length none))

none_right : {X : Type 0} (xs ys : List X) → xs ++ ys ≡ [] → ys ≡ []
none_right [] ys none = none
none_right (x ∷ xs) ys none = absurd (omega (arith, ap length none))

same_from_none : {X : Type 0} (same : Bool) (x : X) → cond same [] (x ∷ []) ≡ [] → same ≡ true
same_from_none true x none = refl
same_from_none false x none = absurd (omega (arith, ap length none))

printed-fits : (n : ℕ) (expected : List BytePattern) (printed : List ℕ) → difference_at n expected printed ≡ [] → Fits expected printed
printed-fits n expected printed none =
    let difference : DiffersAt = record { line = n; expected = map shown_byte expected; printed = printed } in
    fits-Fits expected printed (same_from_none (fits expected printed) difference none)

each-as-expected : (n : ℕ) (lines texts : List (List ℕ)) → differences_after n lines texts ≡ [] → AllAsExpected lines texts
each-as-expected n [] texts none = tt
each-as-expected n (line ∷ lines) [] none = tt
each-as-expected n (line ∷ lines) (text ∷ texts) none =
    let here = difference_at (n + 1) (expected_by lines) text in (
      λ other. printed-fits (n + 1) (expected_by lines) text (sym (ap (λ b. cond b [] here) other) ∙ none_left _ (differences_after (n + 1) lines texts) none),
      each-as-expected (n + 1) lines texts (none_right _ (differences_after (n + 1) lines texts) none),
    )

pub as-expected : NoDifferenceIsAsExpected
as-expected start input differences now are empty =
    let lines = lines_of input in
    let none : differences_of lines are.screen are.texts ≡ [] = sym are.are ∙ empty in
    let first = difference_at 0 (expected_by lines) are.screen in
    let rest = differences_after 0 lines are.texts in
    record {
      screen = are.screen;
      texts = are.texts;
      now = now;
      prints = are.prints;
      first = printed-fits 0 (expected_by lines) are.screen (none_left first rest none);
      each = each-as-expected 0 lines are.texts (none_right first rest none);
    }
