-- The codes of findings and warnings, with their names (docs/POOLS.md).
use Rattle.std.specs.Prelude.{ℕ, List, codes}
use Rattle.check_text.specs.declared.codes.Code.{Code}
use Rattle.check_text.specs.declared.item.Item.{Item}
use Rattle.check_text.specs.declared.item.Item.TheVariants as items
use Rattle.check_inspect.specs.declared.finding.Finding.{Finding}
use Rattle.check_inspect.specs.declared.finding.Finding.TheVariants as findings
use Rattle.check_inspect.specs.declared.inspection.Note.{Note}
use Rattle.check_inspect.specs.declared.inspection.Note.TheVariants as notes
use Rattle.check_needs.specs.declared.warning.Warning.{Warning}
use Rattle.check_needs.specs.declared.warning.Warning.TheVariants as warnings
use Rattle.check_values.specs.declared.warning.ValueWarning.{ValueWarning}
use Rattle.check_values.specs.declared.warning.ValueWarning.TheVariants as values
use Rattle.vt_records.specs.declared.fault.PoolFault.{PoolFault}
use Rattle.vt_records.specs.declared.fault.PoolFault.TheVariants as faults

abbrev pub Text : Type 0
Text = List ℕ

-- the texts of a code
abbrev pub texts : Code → Text × Text
texts code = (code.code.now, code.name.now)

abbrev pub fault_code : PoolFault → Text × Text
fault_code (faults.Truncated at) = (codes "P01", codes "Truncated")
fault_code (faults.UnknownType at) = (codes "P02", codes "UnknownType")
fault_code (faults.LeftOutType at) = (codes "P03", codes "LeftOutType")
fault_code (faults.Scale at) = (codes "P04", codes "Scale")
fault_code (faults.Decimals at) = (codes "P05", codes "Decimals")
fault_code (faults.OutOfMemory at) = (codes "P06", codes "OutOfMemory")
fault_code (faults.NullId at) = (codes "P07", codes "NullId")

abbrev pub finding_code : Finding → Text × Text
finding_code (findings.Record fault) = fault_code fault
finding_code findings.NoWorkingSet = (codes "R01", codes "NoWorkingSet")
finding_code (findings.TwoWorkingSets id) = (codes "R02", codes "TwoWorkingSets")
finding_code (findings.Missing r) = (codes "R03", codes "Missing")
finding_code (findings.WrongKind r) = (codes "R04", codes "WrongKind")
finding_code (findings.TooDeep chain) = (codes "R05", codes "TooDeep")
finding_code (findings.MacroBytes id) = (codes "R06", codes "MacroBytes")
finding_code (findings.MacroCommand id at function) = (codes "R07", codes "MacroCommand")
finding_code (findings.MacroMissing r) = (codes "R08", codes "MacroMissing")
finding_code (findings.MacroKind r) = (codes "R09", codes "MacroKind")
finding_code (findings.MacroValue id at object attribute) = (codes "R10", codes "MacroValue")
finding_code (findings.MacroCircle path) = (codes "R11", codes "MacroCircle")
finding_code (findings.OverBudget id event) = (codes "R12", codes "OverBudget")

abbrev pub warning_code : Warning → Text × Text
warning_code (warnings.Unused id) = (codes "W02", codes "Unused")
warning_code (warnings.TextTooWide field) = (codes "W03", codes "TextTooWide")
warning_code (warnings.TextTooHigh field) = (codes "W04", codes "TextTooHigh")
warning_code (warnings.Outside element area) = (codes "W05", codes "Outside")
warning_code (warnings.ExtraKeys id keys most) = (codes "W06", codes "ExtraKeys")

abbrev pub value_code : ValueWarning → Text × Text
value_code (values.NoMeaning id limited) = (codes "W08", codes "NoMeaning")
value_code (values.EmptyRange id min max) = (codes "W09", codes "EmptyRange")
value_code (values.OutOfRange it) = (codes "W10", codes "OutOfRange")
value_code (values.NoItem id value items) = (codes "W11", codes "NoItem")
value_code (values.PictureBytes id bytes expected) = (codes "W12", codes "PictureBytes")
value_code (values.HalfPair id bytes) = (codes "W12", codes "PictureBytes")
value_code (values.FewPoints id points) = (codes "W13", codes "FewPoints")
value_code (values.PointOutside it) = (codes "W14", codes "PointOutside")
value_code (values.ShortVariable it) = (codes "W15", codes "ShortVariable")
value_code (values.NeverRaised id index event) = (codes "W16", codes "NeverRaised")
value_code (values.NoActiveMask id) = (codes "W17", codes "NoActiveMask")
value_code (values.NoDesignator id) = (codes "W18", codes "NoDesignator")
value_code (values.NoLanguage it) = (codes "W19", codes "NoLanguage")
value_code (values.InputThere parent index id) = (codes "W20", codes "InputThere")
value_code (values.NoCode id) = (codes "W21", codes "NoCode")
value_code (values.SameColour id font colour) = (codes "W22", codes "SameColour")
value_code (values.SameCode id index key code) = (codes "W23", codes "SameCode")

abbrev pub note_code : Note → Text × Text
note_code (notes.Unread at) = (codes "N01", codes "Unread")
note_code notes.UnknownTriggers = (codes "N02", codes "UnknownTriggers")
note_code notes.UnknownCosts = (codes "N03", codes "UnknownCosts")
note_code notes.PassedOver = (codes "N04", codes "PassedOver")

abbrev pub code_of : Item → Text × Text
code_of (items.Finding finding) = finding_code finding.now
code_of (items.Clash replaced) = (codes "W07", codes "OtherKind")
code_of (items.Replaced replaced) = (codes "W01", codes "Replaced")
code_of (items.Warning warning) = warning_code warning.now
code_of (items.Value warning) = value_code warning.now
code_of (items.Note note) = note_code note
