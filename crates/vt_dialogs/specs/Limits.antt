-- What an input accepts, and how its number is shown (docs/PROFILE.md, "Dialogs").
use Rattle.std.specs.FinMap as finite
use Rattle.std.specs.Prelude.{◌≡◌, ℕ, pos, ◌-◌, ◌==◌, ◌&&◌, min, nat_le, false, if◌then◌else◌, List, length, Option, Some, None, is_ok, unwrap_or}
use Rattle.vt_kinds.specs.Ids.{null_id}
use Rattle.vt_kinds.specs.Kinds.{kind_number}
use Rattle.vt_kinds.specs.Records.{Seen, kind_of}
use Rattle.vt_kinds.specs.Scales.{scale_places}
use Rattle.vt_kinds.specs.declared.input_fields.InputString.{InputString}
use Rattle.vt_kinds.specs.declared.object.Object.TheVariants as objects
use Rattle.vt_stores.specs.Stores.{ObjectMap}
use Rattle.vt_shown.specs.ShownElements.{number_shown}
use Rattle.vt_machine.specs.OperatorActions.{is_enabled}
use Rattle.vt_machine.specs.OperatorEntries.{kept_at, number_place, text_at, text_place}
use Rattle.vt_dialogs.specs.declared.limits.InputLimits.{InputLimits}

-- the limits of an input that accepts nothing
abbrev pub no_limits : Seen → InputLimits
no_limits object = record {
  kind = kind_number (kind_of object);
  enabled = unwrap_or (is_enabled (Some object)) false;
  places = 0;
  decimals = 0;
  items = 0;
  length = 0;
  value = 0;
  least = 1;
  greatest = 0;
  offset = pos 0;
}

-- the number that an input shows, or 0 where its variable is missing
abbrev pub value_in : ObjectMap → ℕ → ℕ → ℕ
value_in store variable own = unwrap_or (number_shown store variable own) 0

abbrev pub lesser_length : List ℕ → Option (List ℕ) → ℕ
lesser_length own None = 0
lesser_length own (Some kept) = min (length kept) (length own)

-- the most bytes of a text: those of the input, and of its variable if it has one
abbrev pub length_in : ObjectMap → ℕ → List ℕ → ℕ
length_in store variable own = if variable == null_id then length own else lesser_length own (text_at store variable)

-- the limits of an input; other objects have none
abbrev pub limits_in : ObjectMap → Option Seen → Option InputLimits
limits_in store (Some (objects.InputBoolean o)) =
    Some (record (no_limits (objects.InputBoolean o)) { value = value_in store o.variable o.value; least = 0; greatest = 1 })
limits_in store (Some (objects.InputString o)) = Some (record (no_limits (objects.InputString o)) { length = length_in store o.variable o.text })
limits_in store (Some (objects.InputNumber o)) =
    Some (record (no_limits (objects.InputNumber o)) {
      places = scale_places o.scale;
      decimals = o.decimals;
      value = value_in store o.variable o.value;
      least = o.min;
      greatest = o.max;
      offset = o.offset;
    })
limits_in store (Some (objects.InputList o)) =
    Some (record (no_limits (objects.InputList o)) {
      items = length o.items;
      value = value_in store o.variable o.value;
      least = if length o.items == 0 then 1 else 0;
      greatest = length o.items - 1;
    })
limits_in store _ = None

-- The limits are those of the terminal: it accepts a number or a text from the operator exactly where they allow it, once the input is
-- shown, and nothing where there are none. A text needs the variable of its input, which a store in order has.
pub record LimitsAreTheTerminals : Type 0 where
  pub numbers : (store : ObjectMap) (id n : ℕ) (object : Seen) (limits : InputLimits) → limits_in store (Some object) ≡ Some limits
      → is_ok (number_place id n (Some object)) ≡ (limits.enabled && (nat_le limits.least n && nat_le n limits.greatest))
  pub texts : (store : ObjectMap) (id : ℕ) (o : InputString (List ℕ)) (kept text : List ℕ) (limits : InputLimits)
      → finite.get store id ≡ Some (objects.InputString o) → text_at store (kept_at id o.variable) ≡ Some kept
      → limits_in store (Some (objects.InputString o)) ≡ Some limits
      → is_ok (text_place store id text (Some (objects.InputString o))) ≡ (limits.enabled && nat_le (length text) limits.length)
  pub none : (store : ObjectMap) (id n : ℕ) (text : List ℕ) (object : Option Seen) → limits_in store object ≡ None
      → (is_ok (number_place id n object) ≡ false) × (is_ok (text_place store id text object) ≡ false)
