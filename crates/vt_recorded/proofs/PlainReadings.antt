-- The reading of a line in its plain form.
use Rattle.std.proofs.Common.{◌≡◌, ℕ, Bool, true, false, if◌then◌else◌, List, Result, subst}
use Rattle.vt_can.specs.declared.lines.line.LineFault.{LineFault}
use Rattle.vt_can.specs.lines.Line.{IsContent, ReadsAs}
use Rattle.vt_can.specs.lines.Readings.{ParsedLine}
use Rattle.vt_recorded.specs.PlainForms.{plain_form}
use Rattle.vt_recorded.specs.Readings.{IsReadingOf, in_plain_form, is_of_form, is_of_frame}

pub read_as_plain : (line content : List ℕ) (first second : Result ParsedLine LineFault) → IsContent line content → ReadsAs line first → is_of_form first ≡ false
    → ReadsAs (plain_form content) second → is_of_frame second ≡ true → IsReadingOf line second
read_as_plain line content first second of_line reads other plain is =
    subst (λ (b : Bool). IsReadingOf line (if b then second else first)) is (in_plain_form content first second of_line reads other plain)

pub keeps_its_fault : (line content : List ℕ) (first second : Result ParsedLine LineFault) → IsContent line content → ReadsAs line first → is_of_form first ≡ false
    → ReadsAs (plain_form content) second → is_of_frame second ≡ false → IsReadingOf line first
keeps_its_fault line content first second of_line reads other plain is =
    subst (λ (b : Bool). IsReadingOf line (if b then second else first)) is (in_plain_form content first second of_line reads other plain)
