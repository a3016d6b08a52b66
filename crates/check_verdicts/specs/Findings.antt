-- The findings of an object pool one by one (docs/EMBEDDING.md, "Verdicts").
use Rattle.std.specs.Prelude.{◌≡◌, ◌⊎◌, ℕ, List, length, map, Option, Some, None, slice_get}
use Rattle.check_inspect.specs.declared.finding.Finding.{Finding}
use Rattle.check_inspect.specs.declared.finding.Finding.TheVariants as findings
use Rattle.check_inspect.specs.declared.finding.ReferenceAt.{ReferenceAt}
use Rattle.check_inspect.specs.declared.finding.Spot.{Spot}
use Rattle.check_inspect.specs.declared.finding.Spot.TheVariants as spots
use Rattle.check_inspect.specs.declared.inspection.Inspection.{Inspection}
use Rattle.check_inspect.specs.Inspections.{IsInspection}
use Rattle.check_verdicts.specs.declared.verdict.VtVerdict.{VtVerdict}
use Rattle.check_verdicts.specs.Texts.{NO_MEMORY, written_over}
use Rattle.check_verdicts.specs.Verdicts.{NO_OBJECT, fault_verdict, naming, placed}

-- the offset of a command in its macro, and 0 for the other positions of a reference
abbrev pub command_at : Spot → ℕ
command_at (spots.Command at function) = at
command_at _ = 0

-- a broken rule about a reference: of this object to that one
abbrev pub referring : ℕ → ReferenceAt → VtVerdict
referring rule r = naming rule (command_at r.spot) r.reference.parent r.reference.id

-- a broken rule about a chain or a circle, by the first object in it
abbrev pub of_first : ℕ → Option ℕ → VtVerdict
of_first rule None = placed 2 rule 0
of_first rule (Some object) = naming rule 0 object NO_OBJECT

-- a finding in numbers
abbrev pub told : Finding → VtVerdict
told (findings.Record fault) = fault_verdict fault
told findings.NoWorkingSet = placed 2 1 0
told (findings.TwoWorkingSets id) = naming 2 0 id NO_OBJECT
told (findings.Missing r) = referring 3 r
told (findings.WrongKind r) = referring 4 r
told (findings.TooDeep chain) = of_first 5 (slice_get chain.items 0)
told (findings.MacroBytes id) = naming 6 0 id NO_OBJECT
told (findings.MacroCommand id at function) = naming 7 at id NO_OBJECT
told (findings.MacroMissing r) = referring 8 r
told (findings.MacroKind r) = referring 9 r
told (findings.MacroValue id at object attribute) = naming 10 at id object
told (findings.MacroCircle path) = of_first 11 (slice_get path.items 0)
told (findings.OverBudget id event) = naming 12 0 id NO_OBJECT

-- the findings of an inspection of these bytes, in their order
abbrev pub AreFindingsOf : List ℕ → List VtVerdict → Type 0
AreFindingsOf bytes all = (i : Inspection) × (IsInspection bytes i × (all ≡ map told i.findings.items))

-- The findings are written over the old verdicts, as far as there is room, and their number is returned; or memory was refused, and
-- nothing is written.
abbrev pub Finds : List ℕ → List VtVerdict → List VtVerdict → ℕ → Type 0
Finds bytes old new result =
    ((all : List VtVerdict) × (AreFindingsOf bytes all × ((new ≡ written_over all old) × (result ≡ length all))))
    ⊎ ((new ≡ old) × (result ≡ NO_MEMORY))
