-- The reading of a line is unique.
use Rattle.std.proofs.Common.{◌≡◌, ◌∙◌, ℕ, true, false, if◌then◌else◌, List, codes, Result, inl, inr, sym, ap₂, subst}
use Rattle.std.proofs.lemmas.List.{append_cancel_right}
use Rattle.vt_can.specs.declared.lines.line.LineFault.{LineFault}
use Rattle.vt_can.specs.lines.Line.{IsContent, ReadsAs}
use Rattle.vt_can.specs.lines.Line as line_reading
use Rattle.vt_can.specs.lines.Readings.{ParsedLine}
use Rattle.vt_recorded.specs.PlainForms.{plain_form}
use Rattle.vt_recorded.specs.Readings.{ReadingsAreOne, as_it_stands, in_plain_form, is_of_form, is_of_frame}

content-one : (line a b : List ℕ) → IsContent line a → IsContent line b → a ≡ b
content-one line a b (inl e) (inl f) = append_cancel_right a b (codes "\r") (sym e ∙ f)
content-one line a b (inl e) (inr f) = absurd (f.1 a e)
content-one line a b (inr e) (inl f) = absurd (e.1 b f)
content-one line a b (inr e) (inr f) = sym e.0 ∙ f.0

abbrev Reading : Type 0
Reading = Result ParsedLine LineFault

-- A reading cannot be of the form and not of it.
never : {A : Type 0} (a b : Reading) → a ≡ b → is_of_form a ≡ true → is_of_form b ≡ false → A
never a b same is isnt = absurd cc

module _ (one : line_reading.ReadingsAreOne) where
  plain-one : (content other : List ℕ) (a b : Reading) → content ≡ other → ReadsAs (plain_form content) a → ReadsAs (plain_form other) b → a ≡ b
  plain-one content other a b same reads again =
      one (plain_form content) a b reads (subst (λ (c : List ℕ). ReadsAs (plain_form c) b) (sym same) again)

  pub readings-one : ReadingsAreOne
  readings-one line a b (as_it_stands first reads is) (as_it_stands second again too) = one line a b reads again
  readings-one line a b (as_it_stands other reads is) (in_plain_form content first second of_line again isnt plain) = never a first (one line a first reads again) is isnt
  readings-one line a b (in_plain_form content first second of_line reads isnt other) (as_it_stands plain again is) = never b first (one line b first again reads) is isnt
  readings-one line a b (in_plain_form content first second of_line reads isnt other) (in_plain_form content2 first2 second2 of_line2 reads2 isnt2 other2) =
      ap₂ (λ (x y : Reading). if is_of_frame y then y else x) (one line first first2 reads reads2)
      (plain-one content content2 second second2 (content-one line content content2 of_line of_line2) other other2)
