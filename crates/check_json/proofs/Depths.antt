-- How deep the details of items nest.
use Rattle.std.proofs.Common.{◌≡◌, ◌≤◌, ℕ, ℤ, pos, negsuc, List, [], ◌∷◌, map, Option, Some, None, refl, ap, arith}
use Rattle.std.specs.Prelude.{max}
use Rattle.serde_json.specs.Data.{Data, depth, items_depth}
use Rattle.serde_json.specs.View.{items_of}
use Rattle.check_text.specs.declared.item.Item.{Item}
use Rattle.check_text.specs.declared.item.Item.TheVariants as items
use Rattle.check_text.specs.declared.checked_pool.CheckedPool.{CheckedPool}
use Rattle.check_inspect.specs.declared.finding.Finding.{Finding}
use Rattle.check_inspect.specs.declared.finding.Finding.TheVariants as findings
use Rattle.check_inspect.specs.declared.finding.Spot.{Spot}
use Rattle.check_inspect.specs.declared.finding.Spot.TheVariants as spots
use Rattle.check_needs.specs.declared.warning.Warning.{Warning}
use Rattle.check_needs.specs.declared.warning.Warning.TheVariants as warnings
use Rattle.check_values.specs.declared.warning.ValueWarning.{ValueWarning}
use Rattle.check_values.specs.declared.warning.ValueWarning.TheVariants as values
use Rattle.check_text.specs.Circles.{shown_part}
use Rattle.check_text.specs.Labels.{Labelled, label_at}
use Rattle.check_json.specs.Json.{Head, line_data, label_data, object_data, text_or_null, number_data, signed_data, spot_details, budget_details, finding_details, warning_details, value_details_of, details_of}

text_depth : (text : Option (List ℕ)) → depth (text_or_null text) ≡ 0
text_depth None = refl
text_depth (Some text) = refl

signed_depth : (z : ℤ) → depth (signed_data z) ≡ 0
signed_depth (pos n) = refl
signed_depth (negsuc n) = refl

pub label_depth : (label : Labelled) → depth (label_data label) ≡ 1
label_depth label = simp text_depth

objects_depth : (source : CheckedPool) (ids : List ℕ) → items_depth (items_of (map (object_data source) ids)) ≤ 1
objects_depth source [] = omega arith
objects_depth source (id ∷ ids) = omega (arith, label_depth (label_at source id), objects_depth source ids)

reference_depth : (source : CheckedPool) (spot : Spot) (named parent : Labelled) → depth (spot_details source spot (label_data named) (label_data parent)) ≤ 3
reference_depth source (spots.Slot place) named parent = simp label_depth (omega arith)
reference_depth source (spots.Through place pointer) named parent = simp label_depth (omega arith)
reference_depth source (spots.Entry index event) named parent = simp label_depth (omega arith)
reference_depth source (spots.Command at function) named parent = simp label_depth (omega arith)

budget_depth : (label : Labelled) (event : Option ℕ) → depth (budget_details (label_data label) event) ≤ 3
budget_depth label None = simp label_depth (omega arith)
budget_depth label (Some event) = simp label_depth (omega arith)

finding_depth : (source : CheckedPool) (finding : Finding) → depth (finding_details source finding) ≤ 3
finding_depth source (findings.Record fault) = omega arith
finding_depth source findings.NoWorkingSet = omega arith
finding_depth source (findings.TwoWorkingSets id) = simp label_depth (omega arith)
finding_depth source (findings.Missing found) = reference_depth source found.spot (label_at source found.reference.id) (label_at source found.reference.parent)
finding_depth source (findings.WrongKind found) = reference_depth source found.spot (label_at source found.reference.id) (label_at source found.reference.parent)
finding_depth source (findings.TooDeep chain) = omega (arith, objects_depth source (shown_part chain.items))
finding_depth source (findings.MacroBytes id) = simp label_depth (omega arith)
finding_depth source (findings.MacroCommand id at function) = simp label_depth (omega arith)
finding_depth source (findings.MacroMissing found) = reference_depth source found.spot (label_at source found.reference.id) (label_at source found.reference.parent)
finding_depth source (findings.MacroKind found) = reference_depth source found.spot (label_at source found.reference.id) (label_at source found.reference.parent)
finding_depth source (findings.MacroValue id at changed attribute) = simp label_depth (omega arith)
finding_depth source (findings.MacroCircle path) = omega (arith, objects_depth source path.items)
finding_depth source (findings.OverBudget id event) = budget_depth (label_at source id) event

warning_depth : (source : CheckedPool) (warning : Warning) → depth (warning_details source warning) ≤ 3
warning_depth source (warnings.Unused id) = simp label_depth (omega arith)
warning_depth source (warnings.TextTooWide field) = simp label_depth (omega arith)
warning_depth source (warnings.TextTooHigh field) = simp label_depth (omega arith)
warning_depth source (warnings.Outside element area) = simp (label_depth, signed_depth) (omega arith)
warning_depth source (warnings.ExtraKeys id keys most) = simp label_depth (omega arith)

value_depth : (source : CheckedPool) (warning : ValueWarning) → depth (value_details_of source warning) ≤ 3
value_depth source (values.NoMeaning id limited) = simp label_depth (omega arith)
value_depth source (values.EmptyRange id min max) = simp label_depth (omega arith)
value_depth source (values.OutOfRange it) = simp label_depth (omega arith)
value_depth source (values.NoItem id value items) = simp label_depth (omega arith)
value_depth source (values.PictureBytes id bytes expected) = simp label_depth (omega arith)
value_depth source (values.HalfPair id bytes) = simp label_depth (omega arith)
value_depth source (values.FewPoints id points) = simp label_depth (omega arith)
value_depth source (values.PointOutside it) = simp label_depth (omega arith)
value_depth source (values.ShortVariable it) = simp label_depth (omega arith)
value_depth source (values.NeverRaised id index event) = simp label_depth (omega arith)
value_depth source (values.NoActiveMask id) = simp label_depth (omega arith)
value_depth source (values.NoDesignator id) = simp label_depth (omega arith)
value_depth source (values.NoLanguage it) = simp label_depth (omega arith)
value_depth source (values.InputThere parent index id) = simp label_depth (omega arith)
value_depth source (values.NoCode id) = simp label_depth (omega arith)
value_depth source (values.SameColour id font colour) = simp label_depth (omega arith)
value_depth source (values.SameCode id index key code) = simp label_depth (omega arith)

pub details_depth : (source : CheckedPool) (item : Item) → depth (details_of source item) ≤ 3
details_depth source (items.Finding finding) = finding_depth source finding.now
details_depth source (items.Clash replaced) = simp label_depth (omega arith)
details_depth source (items.Replaced replaced) = simp label_depth (omega arith)
details_depth source (items.Warning warning) = warning_depth source warning.now
details_depth source (items.Value warning) = value_depth source warning.now
details_depth source (items.Note note) = omega arith

pub line_depth : (head : Head) (details : Data) → depth details ≤ 3 → depth (line_data head details) ≤ 127
line_depth head details le = omega (arith, le)
