-- Findings and warnings as JSON (docs/POOLS.md). Members have the order of their keys.
use Rattle.std.specs.Prelude.{ℕ, ℤ, pos, negsuc, List, map, codes, Option, Some, None, string_bytes}
use Rattle.std.specs.Option.{option_map}
use Rattle.serde_json.specs.Data.{Data, null, number, unsigned, negative, string, array, object, member, no_members}
use Rattle.serde_json.specs.View.{items_of}
use Rattle.check_text.specs.declared.item.Item.{Item}
use Rattle.check_text.specs.declared.item.Item.TheVariants as items
use Rattle.check_text.specs.declared.message.ItemLine.{ItemLine}
use Rattle.check_text.specs.declared.summary.Summary.{Summary}
use Rattle.check_text.specs.declared.totals.Totals.{Totals}
use Rattle.check_text.specs.declared.checked_pool.CheckedPool.{CheckedPool}
use Rattle.check_text.specs.Circles.{shown_part}
use Rattle.check_text.specs.Severities.{severity_word}
use Rattle.check_text.specs.Labels.{Labelled, label_at, replaced_label}
use Rattle.check_text.specs.Spots.{spot_text}
use Rattle.check_inspect.specs.declared.finding.Finding.{Finding}
use Rattle.check_inspect.specs.declared.finding.Finding.TheVariants as findings
use Rattle.check_inspect.specs.declared.finding.ReferenceAt.{ReferenceAt}
use Rattle.check_inspect.specs.declared.finding.Spot.{Spot}
use Rattle.check_inspect.specs.declared.finding.Spot.TheVariants as spots
use Rattle.vt_kinds.specs.Kinds.{kind_name}
use Rattle.check_needs.specs.declared.sizes.Area.{Area}
use Rattle.check_needs.specs.declared.warning.PlacedElement.{PlacedElement}
use Rattle.check_needs.specs.declared.warning.TextField.{TextField}
use Rattle.check_needs.specs.declared.warning.Warning.{Warning}
use Rattle.check_needs.specs.declared.warning.Warning.TheVariants as warnings
use Rattle.check_values.specs.Names.{limited_name, ranged_name}
use Rattle.check_values.specs.declared.warning.ShortVariable.{ShortVariable}
use Rattle.check_values.specs.declared.warning.ValueWarning.{ValueWarning}
use Rattle.check_values.specs.declared.warning.ValueWarning.TheVariants as values

-- ---- numbers and texts

abbrev pub number_data : ℕ → Data
number_data n = number (unsigned n)

abbrev pub signed_data : ℤ → Data
signed_data (pos n) = number (unsigned n)
signed_data (negsuc n) = number (negative (negsuc n))

abbrev pub text_or_null : Option (List ℕ) → Data
text_or_null None = null
text_or_null (Some text) = string text

-- ---- objects by their labels

abbrev pub label_data : Labelled → Data
label_data label =
    object (member (codes "id") (number_data label.id) (member (codes "kind") (text_or_null (option_map kind_name label.kind))
    (member (codes "name") (text_or_null label.name) no_members)))

abbrev pub object_data : CheckedPool → ℕ → Data
object_data source id = label_data (label_at source id)

-- ---- the line of a message

pub record Head : Type 0 where
  pub code : List ℕ
  pub file : List ℕ
  pub message : List ℕ
  pub name : List ℕ
  pub offset : ℕ
  pub severity : List ℕ

abbrev pub head_of : ItemLine → Head
head_of message = record {
  code = message.code.code.now;
  file = message.file.now;
  message = string_bytes message.sentence;
  name = message.code.name.now;
  offset = message.offset;
  severity = severity_word message.severity;
}

abbrev pub line_data : Head → Data → Data
line_data head details =
    object (member (codes "code") (string head.code) (member (codes "details") details (member (codes "file") (string head.file)
    (member (codes "message") (string head.message) (member (codes "name") (string head.name)
    (member (codes "offset") (number_data head.offset) (member (codes "severity") (string head.severity) no_members)))))))

-- ---- the details of a finding

abbrev pub no_details : Data
no_details = object no_members

abbrev pub object_details : Data → Data
object_details named = object (member (codes "object") named no_members)

-- which object names which, and where
abbrev pub named_details : Data → Data → List ℕ → Data
named_details names parent place =
    object (member (codes "names") names (member (codes "object") parent (member (codes "place") (string place) no_members)))

-- the same, through an object pointer
abbrev pub through_details : Data → Data → List ℕ → Data → Data
through_details names parent place pointer =
    object (member (codes "names") names (member (codes "object") parent (member (codes "place") (string place)
    (member (codes "through") pointer no_members))))

abbrev pub spot_details : CheckedPool → Spot → Data → Data → Data
spot_details source (spots.Through place pointer) names parent =
    through_details names parent (spot_text (spots.Through place pointer)) (object_data source pointer)
spot_details source spot names parent = named_details names parent (spot_text spot)

abbrev pub reference_details : CheckedPool → ReferenceAt → Data
reference_details source found = spot_details source found.spot (object_data source found.reference.id) (object_data source found.reference.parent)

abbrev pub event_details : Data → ℕ → Data
event_details named event = object (member (codes "event") (number_data event) (member (codes "object") named no_members))

abbrev pub budget_details : Data → Option ℕ → Data
budget_details named None = object_details named
budget_details named (Some event) = event_details named event

abbrev pub command_details : Data → ℕ → ℕ → Data
command_details named at function =
    object (member (codes "at") (number_data at) (member (codes "function") (number_data function) (member (codes "object") named no_members)))

abbrev pub value_details : Data → ℕ → ℕ → Data → Data
value_details named at attribute changed =
    object (member (codes "at") (number_data at) (member (codes "attribute") (number_data attribute)
    (member (codes "names") changed (member (codes "object") named no_members))))

abbrev pub array_details : List Data → Data
array_details ids = object (member (codes "path") (array (items_of ids)) no_members)

abbrev pub path_details : CheckedPool → List ℕ → Data
path_details source ids = array_details (map (object_data source) ids)

abbrev pub finding_details : CheckedPool → Finding → Data
finding_details source (findings.Record fault) = no_details
finding_details source findings.NoWorkingSet = no_details
finding_details source (findings.TwoWorkingSets id) = object_details (object_data source id)
finding_details source (findings.Missing found) = reference_details source found
finding_details source (findings.WrongKind found) = reference_details source found
finding_details source (findings.TooDeep chain) = path_details source (shown_part chain.items)
finding_details source (findings.MacroBytes id) = object_details (object_data source id)
finding_details source (findings.MacroCommand id at function) = command_details (object_data source id) at function
finding_details source (findings.MacroMissing found) = reference_details source found
finding_details source (findings.MacroKind found) = reference_details source found
finding_details source (findings.MacroValue id at changed attribute) = value_details (object_data source id) at attribute (object_data source changed)
finding_details source (findings.MacroCircle path) = path_details source path.items
finding_details source (findings.OverBudget id event) = budget_details (object_data source id) event

-- ---- the details of a warning

abbrev pub replaced_details : Data → ℕ → Data
replaced_details named by = object (member (codes "by") (number_data by) (member (codes "object") named no_members))

-- the same, with the object in force, which is of another kind
abbrev pub clash_details : Data → ℕ → Data → Data
clash_details named by in_force =
    object (member (codes "by") (number_data by) (member (codes "in_force") in_force (member (codes "object") named no_members)))

abbrev pub size_data : ℕ → ℕ → Data
size_data width height = object (member (codes "height") (number_data height) (member (codes "width") (number_data width) no_members))

abbrev pub position_data : ℤ → ℤ → Data
position_data x y = object (member (codes "x") (signed_data x) (member (codes "y") (signed_data y) no_members))

abbrev pub field_details : Data → Data → Data → ℕ → Data
field_details named cell area columns =
    object (member (codes "cell") cell (member (codes "columns") (number_data columns) (member (codes "field") area
    (member (codes "object") named no_members))))

abbrev pub text_details : CheckedPool → TextField → Data
text_details source f =
    field_details (object_data source f.id) (size_data f.cell.width f.cell.height) (size_data f.area.width f.area.height) f.columns

abbrev pub child_details : Data → Data → Data → ℕ → Data → Data → Data
child_details named area child index position size =
    object (member (codes "area") area (member (codes "child") child (member (codes "index") (number_data index)
    (member (codes "object") named (member (codes "position") position (member (codes "size") size no_members))))))

abbrev pub outside_details : CheckedPool → PlacedElement → Area → Data
outside_details source e area =
    child_details (object_data source e.parent) (size_data area.width area.height) (object_data source e.id) e.index
    (position_data e.x e.y) (size_data e.width e.height)

abbrev pub keys_details : Data → ℕ → ℕ → Data
keys_details named keys most =
    object (member (codes "keys") (number_data keys) (member (codes "most") (number_data most) (member (codes "object") named no_members)))

abbrev pub warning_details : CheckedPool → Warning → Data
warning_details source (warnings.Unused id) = object_details (object_data source id)
warning_details source (warnings.TextTooWide field) = text_details source field
warning_details source (warnings.TextTooHigh field) = text_details source field
warning_details source (warnings.Outside element area) = outside_details source element area
warning_details source (warnings.ExtraKeys id keys most) = keys_details (object_data source id) keys most

-- ---- the details of a warning about a value

abbrev pub short_data : CheckedPool → ShortVariable → Data
short_data source it =
    object (member (codes "bytes") (number_data it.bytes) (member (codes "expected") (number_data it.expected)
    (member (codes "object") (object_data source it.id) (member (codes "variable") (object_data source it.variable) no_members))))

abbrev pub value_details_of : CheckedPool → ValueWarning → Data
value_details_of source (values.NoMeaning id limited) =
    object (member (codes "field") (string (limited_name limited.field)) (member (codes "object") (object_data source id)
    (member (codes "value") (number_data limited.value) no_members)))
value_details_of source (values.EmptyRange id min max) =
    object (member (codes "max") (number_data max) (member (codes "min") (number_data min)
    (member (codes "object") (object_data source id) no_members)))
value_details_of source (values.OutOfRange it) =
    object (member (codes "field") (string (ranged_name it.field)) (member (codes "max") (number_data it.max)
    (member (codes "min") (number_data it.min) (member (codes "object") (object_data source it.id)
    (member (codes "value") (number_data it.value) no_members)))))
value_details_of source (values.NoItem id value items) =
    object (member (codes "items") (number_data items) (member (codes "object") (object_data source id)
    (member (codes "value") (number_data value) no_members)))
value_details_of source (values.PictureBytes id bytes expected) =
    object (member (codes "bytes") (number_data bytes) (member (codes "expected") (number_data expected)
    (member (codes "object") (object_data source id) no_members)))
value_details_of source (values.HalfPair id bytes) =
    object (member (codes "bytes") (number_data bytes) (member (codes "object") (object_data source id) no_members))
value_details_of source (values.FewPoints id points) =
    object (member (codes "object") (object_data source id) (member (codes "points") (number_data points) no_members))
value_details_of source (values.PointOutside it) =
    object (member (codes "index") (number_data it.index) (member (codes "object") (object_data source it.id)
    (member (codes "x") (number_data it.point.x) (member (codes "y") (number_data it.point.y) no_members))))
value_details_of source (values.ShortVariable it) = short_data source it
value_details_of source (values.NeverRaised id index event) =
    object (member (codes "event") (number_data event) (member (codes "index") (number_data index)
    (member (codes "object") (object_data source id) no_members)))
value_details_of source (values.NoActiveMask id) = object_details (object_data source id)
value_details_of source (values.NoDesignator id) = object_details (object_data source id)
value_details_of source (values.NoLanguage it) =
    object (member (codes "first") (number_data it.language.first) (member (codes "index") (number_data it.index)
    (member (codes "object") (object_data source it.id) (member (codes "second") (number_data it.language.second) no_members))))
value_details_of source (values.InputThere parent index id) =
    object (member (codes "index") (number_data index) (member (codes "input_id") (number_data id)
    (member (codes "object") (object_data source parent) no_members)))
value_details_of source (values.NoCode id) = object_details (object_data source id)
value_details_of source (values.SameColour id font colour) =
    object (member (codes "colour") (number_data colour) (member (codes "font_id") (number_data font)
    (member (codes "object") (object_data source id) no_members)))
value_details_of source (values.SameCode id index key code) =
    object (member (codes "code") (number_data code) (member (codes "index") (number_data index)
    (member (codes "key_id") (number_data key) (member (codes "object") (object_data source id) no_members))))

-- ---- the details of an item

abbrev pub details_of : CheckedPool → Item → Data
details_of source (items.Finding finding) = finding_details source finding.now
details_of source (items.Clash replaced) =
    clash_details (label_data (replaced_label source replaced.now)) replaced.now.by (object_data source replaced.now.id)
details_of source (items.Replaced replaced) = replaced_details (label_data (replaced_label source replaced.now)) replaced.now.by
details_of source (items.Warning warning) = warning_details source warning.now
details_of source (items.Value warning) = value_details_of source warning.now
details_of source (items.Note note) = no_details

-- ---- the lines of counts

abbrev pub summary_data : Summary → Data
summary_data summary =
    object (member (codes "errors") (number_data summary.errors) (member (codes "file") (string summary.file.now)
    (member (codes "left_out") (number_data summary.left_out) (member (codes "objects") (number_data summary.objects)
    (member (codes "warnings") (number_data summary.warnings) no_members)))))

abbrev pub totals_data : Totals → Data
totals_data totals =
    object (member (codes "errors") (number_data totals.errors) (member (codes "files") (number_data totals.files)
    (member (codes "objects") (number_data totals.objects) (member (codes "warnings") (number_data totals.warnings) no_members))))
