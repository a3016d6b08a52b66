-- Ranges, and the numbers that objects show at first (docs/PROFILE.md, "Warnings").
use Rattle.std.specs.Prelude.{ℕ, ◌/◌, ◌%◌, Bool, true, false, not, nat_lt, ◌||◌, ◌&&◌, ◌==◌, if◌then◌else◌, List, [], ◌∷◌, ◌++◌, length, Option, Some, None}
use Rattle.vt_kinds.specs.declared.object.Object.TheVariants as object
use Rattle.vt_kinds.specs.Records.{Seen}
use Rattle.vt_shown.specs.ShownElements.{number_shown}
use Rattle.vt_stores.specs.Stores.{Objects, map_of}
use Rattle.check_values.specs.declared.ranges.Range.{Range}
use Rattle.check_values.specs.declared.warning.OutOfRange.{OutOfRange}
use Rattle.check_values.specs.declared.warning.RangedField.{RangedField}
use Rattle.check_values.specs.declared.warning.RangedField.TheVariants as fields
use Rattle.check_values.specs.declared.warning.ValueWarning.{ValueWarning}
use Rattle.check_values.specs.declared.warning.ValueWarning.TheVariants as warnings

-- ---- ranges

abbrev pub range : ℕ → ℕ → Bool → Range
range min max needs_two = record { min = min; max = max; needs_two = needs_two }

-- the range of a meter or a bar
abbrev pub drawn_range : ℕ → ℕ → Range
drawn_range min max = range min max true

-- the range of an object; None for an object without one
abbrev pub range_of : Seen → Option Range
range_of (object.InputNumber o) = Some (range o.min o.max false)
range_of (object.Meter o) = Some (drawn_range o.min o.max)
range_of (object.LinearBar o) = Some (drawn_range o.min o.max)
range_of (object.ArchedBar o) = Some (drawn_range o.min o.max)
range_of o = None

-- No number is in a range. A meter or a bar with one number has nothing to show.
abbrev pub is_empty : Range → Bool
is_empty r = nat_lt r.max r.min || r.needs_two && r.max == r.min

abbrev pub if_empty : ℕ → Option Range → List ValueWarning
if_empty id None = []
if_empty id (Some r) = if is_empty r then warnings.EmptyRange id r.min r.max ∷ [] else []

-- an object whose range is empty
abbrev pub empty_ranges : ℕ → Seen → List ValueWarning
empty_ranges id o = if_empty id (range_of o)

-- ---- numbers that are shown at first

-- the value that an object with a range shows at first: that of its variable, if it has one
abbrev pub value_of : Objects → Seen → Option ℕ
value_of objects (object.InputNumber o) = number_shown (map_of objects) o.variable o.value
value_of objects (object.Meter o) = number_shown (map_of objects) o.variable o.value
value_of objects (object.LinearBar o) = number_shown (map_of objects) o.variable o.value
value_of objects (object.ArchedBar o) = number_shown (map_of objects) o.variable o.value
value_of objects o = None

-- Bit 1 of the options: the bar has a line at its target.
abbrev pub if_target_line : ℕ → Option ℕ → Option ℕ
if_target_line options target = if options / 2 % 2 == 1 then target else None

-- the target that a bar shows at first, if it has a line there
abbrev pub target_of : Objects → Seen → Option ℕ
target_of objects (object.LinearBar o) = if_target_line o.options (number_shown (map_of objects) o.target_variable o.target)
target_of objects (object.ArchedBar o) = if_target_line o.options (number_shown (map_of objects) o.target_variable o.target)
target_of objects o = None

abbrev pub number_outside : ℕ → RangedField → ℕ → Range → OutOfRange
number_outside id field n r = record { id = id; field = field; value = n; min = r.min; max = r.max }

-- a number that is there and not in a range
abbrev pub unless_within : ℕ → RangedField → Option ℕ → Range → List ValueWarning
unless_within id field None r = []
unless_within id field (Some n) r =
    if nat_lt n r.min || nat_lt r.max n then warnings.OutOfRange (number_outside id field n r) ∷ [] else []

abbrev pub outside_of : Objects → ℕ → Seen → Option Range → List ValueWarning
outside_of objects id o None = []
outside_of objects id o (Some r) =
    if is_empty r then [] else unless_within id fields.Value (value_of objects o) r ++ unless_within id fields.Target (target_of objects o) r

-- the numbers of an object that are not in its range, unless that is empty
abbrev pub out_of_range : Objects → ℕ → Seen → List ValueWarning
out_of_range objects id o = outside_of objects id o (range_of o)

-- ---- items of lists

-- a value that names no item; 255 names none on purpose
abbrev pub unless_item : ℕ → Option ℕ → ℕ → List ValueWarning
unless_item id None items = []
unless_item id (Some n) items = if n == 255 || nat_lt n items then [] else warnings.NoItem id n items ∷ []

-- an Input List whose value names none of its items
abbrev pub no_items : Objects → ℕ → Seen → List ValueWarning
no_items objects id (object.InputList o) = unless_item id (number_shown (map_of objects) o.variable o.value) (length o.items)
no_items objects id o = []
