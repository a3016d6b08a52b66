-- The inspection of a pool's bytes.
use Rattle.std.specs.Prelude.{◌≡◌, ◌==◌, ℕ, Bool, true, false, not, List, [], ◌∷◌, ◌++◌, filter, map, Option, Some, None}
use Rattle.std.specs.List.{list_any}
use Rattle.check_inspect.specs.declared.finding.Finding.{Finding}
use Rattle.check_inspect.specs.declared.finding.Finding.TheVariants as findings
use Rattle.check_inspect.specs.declared.inspection.Inspection.{Inspection}
use Rattle.check_inspect.specs.declared.inspection.Note.{Note}
use Rattle.check_inspect.specs.declared.inspection.Note.TheVariants as notes
use Rattle.check_inspect.specs.Findings.{AreFindings}
use Rattle.check_reading.specs.declared.passed.PassedRecord.{PassedRecord}
use Rattle.check_reading.specs.Readings.{Step, IsReading, most_mended, found_from, faults_from, passed_from, unread_from, objects_of, record_in, replaced_in}

abbrev pub is_none : Option ℕ → Bool
is_none None = true
is_none (Some n) = false

abbrev pub unread_notes : Option ℕ → List Note
unread_notes None = []
unread_notes (Some at) = notes.Unread at ∷ []

abbrev pub passed_notes : List PassedRecord → List Note
passed_notes [] = []
passed_notes (p ∷ passed) = notes.PassedOver ∷ []

-- whether a record that is passed over has an ID
abbrev pub has_id : List PassedRecord → ℕ → Bool
has_id passed id = list_any (λ p. p.id == id) passed

-- whether a finding calls no object missing that has one of these IDs
abbrev pub is_judged_by : (ℕ → Bool) → Finding → Bool
is_judged_by has (findings.Missing r) = not (has r.reference.id)
is_judged_by has (findings.MacroMissing r) = not (has r.reference.id)
is_judged_by has finding = true

abbrev pub is_judged : List PassedRecord → Finding → Bool
is_judged passed finding = is_judged_by (has_id passed) finding

-- The records and the objects in force of a reading of the bytes, and the findings of both. No object is called missing whose record is
-- passed over.
pub record IsInspection (bytes : List ℕ) (i : Inspection) : Type 0 where
  pub steps : List Step
  pub reading : IsReading most_mended bytes steps
  pub objects : i.objects ≡ objects_of (found_from 0 steps)
  pub records : i.records.items ≡ map (record_in (found_from 0 steps)) i.objects
  pub replaced : i.replaced.items ≡ replaced_in (found_from 0 steps)
  pub passed : i.passed.items ≡ passed_from 0 steps
  pub of_rules : List Finding
  pub left_out : List Note
  pub found : i.findings.items ≡ map findings.Record (faults_from 0 steps) ++ filter (is_judged (passed_from 0 steps)) of_rules
  pub are_findings : AreFindings (is_none (unread_from 0 steps)) i.objects of_rules left_out
  pub not_judged : i.notes.items ≡ (unread_notes (unread_from 0 steps) ++ passed_notes (passed_from 0 steps)) ++ left_out
