-- The entries of numbers and texts by the operator, and their effects (docs/PROFILE.md, "The operator").
use Rattle.std.specs.Prelude.{◌≡◌, ◌%◌, ℕ, Bool, true, false, not, nat_le, nat_lt, ◌==◌, ◌&&◌, if◌then◌else◌, List, [], ◌∷◌, ◌++◌, length, Option, Some, None, Result, Ok, Err}
use Rattle.std.specs.List.{list_all}
use Rattle.std.specs.FinMap as finite
use Rattle.byteorder.specs.Endian.{little_bytes}
use Rattle.vt_kinds.specs.declared.object.Object.TheVariants as objects
use Rattle.vt_commands.specs.declared.event.Event.TheVariants as events
use Rattle.vt_commands.specs.declared.raising.Raised.{Raised}
use Rattle.vt_commands.specs.Events.{raise}
use Rattle.vt_commands.specs.Commands.{NUMERIC_VALUE, STRING_VALUE}
use Rattle.vt_kinds.specs.Ids.{null_id}
use Rattle.vt_kinds.specs.Records.{Seen}
use Rattle.vt_stores.specs.Stores.{ObjectMap}
use Rattle.vt_kinds.specs.Texts.{filled_up}
use Rattle.vt_machine.specs.declared.operator.OperatorRefusal.{OperatorRefusal}
use Rattle.vt_machine.specs.declared.operator.OperatorRefusal.TheVariants as refusals
use Rattle.vt_effects.specs.Fields.{low_byte}
use Rattle.vt_machine.specs.SetStates.{SetState, with_objects}
use Rattle.vt_effects.specs.Soundness.{shape_in}
use Rattle.vt_machine.specs.OperatorActions.{ActionResult, Refused, Acts}
use Rattle.vt_effects.specs.Soundness.{IsSound}

-- the object that stores a value: the variable of an object, if it has one
abbrev pub kept_at : ℕ → ℕ → ℕ
kept_at id variable = if variable == null_id then id else variable

-- the events of an entry, with those of a new value if the stored value has changed
abbrev pub entry_events : ℕ → Bool → List Raised
entry_events id changed =
    raise id events.EntryOfValue ∷ (if changed then raise id events.EntryOfNewValue ∷ raise id events.Value ∷ [] else [])

-- a store with the object of an ID changed
abbrev pub put_at : ObjectMap → ℕ → (Seen → Seen) → Option Seen → ObjectMap
put_at store id change None = store
put_at store id change (Some o) = finite.insert store id (change o)

-- ---- numbers

-- the value of an input or a variable; None for other objects
abbrev pub number_of : Seen → Option ℕ
number_of (objects.InputBoolean o) = Some o.value
number_of (objects.InputNumber o) = Some o.value
number_of (objects.InputList o) = Some o.value
number_of (objects.NumberVariable o) = Some o.value
number_of _ = None

abbrev pub with_number : ℕ → Seen → Seen
with_number n (objects.InputBoolean o) = objects.InputBoolean (record o { value = low_byte n })
with_number n (objects.InputNumber o) = objects.InputNumber (record o { value = n })
with_number n (objects.InputList o) = objects.InputList (record o { value = low_byte n })
with_number n (objects.NumberVariable o) = objects.NumberVariable (record o { value = n })
with_number n o = o

abbrev pub number_message : ℕ → ℕ → List ℕ
number_message id n = NUMERIC_VALUE ∷ little_bytes 2 id ++ 0xFF ∷ little_bytes 4 n

abbrev pub is_value : ℕ → Option ℕ → Bool
is_value n None = false
is_value n (Some value) = value == n

abbrev pub is_number : ℕ → Option Seen → Bool
is_number n None = false
is_number n (Some o) = is_value n (number_of o)

-- the number is stored, and its events are raised
abbrev pub store_number : SetState → ℕ → ℕ → ℕ → ActionResult
store_number state id at n =
    Acts (number_message id n) (with_objects state (put_at state.objects at (with_number n) (finite.get state.objects at)))
    (entry_events id (not (is_number n (finite.get state.objects at))))

-- the object that stores the value of an input, if the input is enabled and the value passes
abbrev pub place_if : Bool → Bool → OperatorRefusal → ℕ → Result ℕ OperatorRefusal
place_if false passes refusal at = Err refusals.Disabled
place_if true false refusal at = Err refusal
place_if true true refusal at = Ok at

-- an Input Boolean accepts 0 and 1, an Input Number its least to its greatest value, and an Input List the index of an
-- item
abbrev pub number_place : ℕ → ℕ → Option Seen → Result ℕ OperatorRefusal
number_place id n (Some (objects.InputBoolean o)) = place_if (not (o.enabled == 0)) (nat_le n 1) refusals.Range (kept_at id o.variable)
number_place id n (Some (objects.InputNumber o)) = place_if (o.options_two % 2 == 1) (nat_le o.min n && nat_le n o.max) refusals.Range (kept_at id o.variable)
number_place id n (Some (objects.InputList o)) = place_if (o.options % 2 == 1) (nat_lt n (length o.items)) refusals.Range (kept_at id o.variable)
number_place id n _ = Err refusals.WrongKind

abbrev pub number_entered : SetState → ℕ → ℕ → Result ℕ OperatorRefusal → ActionResult
number_entered state id n (Err refusal) = Refused refusal
number_entered state id n (Ok at) = store_number state id at n

abbrev pub enter_number : Bool → SetState → ℕ → ℕ → ActionResult
enter_number false state id n = Refused refusals.NotShown
enter_number true state id n = number_entered state id n (number_place id n (finite.get state.objects id))

-- ---- texts

-- the text of an input or a variable; None for other objects
abbrev pub text_of : Seen → Option (List ℕ)
text_of (objects.InputString o) = Some o.text
text_of (objects.StringVariable o) = Some o.text
text_of _ = None

-- the text replaced, and filled up with spaces
abbrev pub with_text : List ℕ → Seen → Seen
with_text text (objects.InputString o) = objects.InputString (record o { text = filled_up (length o.text) text })
with_text text (objects.StringVariable o) = objects.StringVariable (record o { text = filled_up (length o.text) text })
with_text text o = o

abbrev pub text_message : ℕ → List ℕ → List ℕ
text_message id text = STRING_VALUE ∷ little_bytes 2 id ++ length text ∷ text

-- the stored text is a text followed by spaces alone
abbrev pub is_filled : List ℕ → List ℕ → Bool
is_filled [] kept = list_all (λ byte. byte == 32) kept
is_filled (byte ∷ text) [] = false
is_filled (byte ∷ text) (first ∷ kept) = first == byte && is_filled text kept

abbrev pub same_text : List ℕ → Option (List ℕ) → Bool
same_text text None = false
same_text text (Some kept) = is_filled text kept

-- a text is no longer than the stored one
abbrev pub text_fits : List ℕ → Option (List ℕ) → Bool
text_fits text None = false
text_fits text (Some kept) = nat_le (length text) (length kept)

abbrev pub text_in : Option Seen → Option (List ℕ)
text_in None = None
text_in (Some o) = text_of o

abbrev pub text_at : ObjectMap → ℕ → Option (List ℕ)
text_at store at = text_in (finite.get store at)

abbrev pub store_text : SetState → ℕ → ℕ → List ℕ → ActionResult
store_text state id at text =
    Acts (text_message id text) (with_objects state (put_at state.objects at (with_text text) (finite.get state.objects at)))
    (entry_events id (not (same_text text (text_at state.objects at))))

-- the text must be no longer than the object's text and its variable's
abbrev pub text_place : ObjectMap → ℕ → List ℕ → Option Seen → Result ℕ OperatorRefusal
text_place store id text (Some (objects.InputString o)) =
    place_if (not (o.enabled == 0)) (nat_le (length text) (length o.text) && text_fits text (text_at store (kept_at id o.variable))) refusals.TooLong (kept_at id o.variable)
text_place store id text _ = Err refusals.WrongKind

abbrev pub text_entered : SetState → ℕ → List ℕ → Result ℕ OperatorRefusal → ActionResult
text_entered state id text (Err refusal) = Refused refusal
text_entered state id text (Ok at) = store_text state id at text

abbrev pub enter_text : Bool → SetState → ℕ → List ℕ → ActionResult
enter_text false state id text = Refused refusals.NotShown
enter_text true state id text = text_entered state id text (text_place state.objects id text (finite.get state.objects id))

-- ---- stores after an entry

-- No entry of a number or a text changes the shape of a store: its IDs, kinds, macro entries and macro bytes.
pub record EntriesKeepShapes : Type 0 where
  pub numbers : (store : ObjectMap) (at n : ℕ) → shape_in (put_at store at (with_number n) (finite.get store at)) ≡ shape_in store
  pub texts : (store : ObjectMap) (at : ℕ) (text : List ℕ) → shape_in (put_at store at (with_text text) (finite.get store at)) ≡ shape_in store

-- No entry of a number or a text breaks the order of a store.
pub record EntriesKeepOrder : Type 0 where
  pub numbers : (store : ObjectMap) (at n : ℕ) → IsSound store → IsSound (put_at store at (with_number n) (finite.get store at))
  pub texts : (store : ObjectMap) (at : ℕ) (text : List ℕ) → IsSound store → IsSound (put_at store at (with_text text) (finite.get store at))
