-- What a dialog for an input reads of a terminal (docs/EMBEDDING.md, "Dialogs").
use Rattle.std.specs.FinMap as finite
use Rattle.std.specs.Int.{cast_unsigned, w32}
use Rattle.std.specs.List.{flat_map}
use Rattle.std.specs.Prelude.{◌≡◌, ◌<◌, ◌≤◌, ◌⊎◌, ℕ, ◌-◌, ◌^◌, ◌==◌, not, nat_lt, if◌then◌else◌, List, [], ◌∷◌, ◌++◌, Option, Some, None}
use Rattle.byteorder.specs.Endian.{little_bytes}
use Rattle.vt_kinds.specs.Ids.{null_id}
use Rattle.vt_kinds.specs.Records.{Seen}
use Rattle.vt_kinds.specs.declared.object.Object.TheVariants as objects
use Rattle.vt_machine.specs.SetStates.{SetState}
use Rattle.vt_dialogs.specs.Limits.{limits_in}
use Rattle.vt_dialogs.specs.Texts.{text_in}
use Rattle.vt_dialogs.specs.TypedNumbers.{IsRaw}
use Rattle.vt_dialogs.specs.declared.limits.InputLimits.{InputLimits}
use Rattle.vt_dialogs.specs.declared.typed.Typed.{Typed}
use Rattle.vt_session.specs.declared.session.Session.{Session}
use Rattle.vt_session.specs.Calls.{number_of}
use Rattle.vt_session.specs.Readings.{Writes, pool_by}
use Rattle.vt_session.specs.Sessions.{state}

-- ---- limits

-- the value, the least, the greatest and the offset
abbrev pub limit_numbers : InputLimits → List ℕ
limit_numbers l = l.value ∷ l.least ∷ l.greatest ∷ cast_unsigned w32 l.offset ∷ []

-- limits in 24 bytes: the kind, whether the input is enabled, the places of its scale, its decimals, its items, the most bytes of a text, two
-- bytes of 0, and in four bytes each the value, the least, the greatest and the offset
abbrev pub limits_bytes : InputLimits → List ℕ
limits_bytes l =
    (l.kind ∷ number_of l.enabled ∷ l.places ∷ l.decimals ∷ l.items ∷ l.length ∷ 0 ∷ 0 ∷ [])
    ++ flat_map (little_bytes 4) (limit_numbers l)

abbrev pub bytes_if : Option InputLimits → List ℕ
bytes_if None = []
bytes_if (Some limits) = limits_bytes limits

-- the limits of an input of a set
abbrev pub limits_by : Option SetState → ℕ → Option InputLimits
limits_by None id = None
limits_by (Some set) id = if nat_lt id null_id then limits_in set.objects (finite.get set.objects id) else None

abbrev pub WritesLimits : Session → ℕ → ℕ → Session → ℕ → Type 0
WritesLimits before address id after count = Writes (λ text. text ≡ bytes_if (limits_by (pool_by (state before) address) id)) before after count

-- ---- texts

-- the text of a field of a set
abbrev pub text_by : Option SetState → ℕ → List ℕ
text_by None id = []
text_by (Some set) id = if nat_lt id null_id then text_in set.objects (finite.get set.objects id) else []

abbrev pub WritesValue : Session → ℕ → ℕ → Session → ℕ → Type 0
WritesValue before address id after count = Writes (λ text. text ≡ text_by (pool_by (state before) address) id) before after count

-- ---- typed numbers

abbrev pub object_by : Option SetState → ℕ → Option Seen
object_by None id = None
object_by (Some set) id = if nat_lt id null_id then finite.get set.objects id else None

-- a typed number; it is negative where the sign is not 0
abbrev pub typed_by : ℕ → ℕ → ℕ → Typed
typed_by sign digits decimals = record { is_negative = not (sign == 0); digits = digits; decimals = decimals }

-- no number of 32 bits is the raw value of a typed number of at most 15 digits
abbrev pub HasNoRaw : Option Seen → Typed → Type 0
HasNoRaw (Some (objects.InputNumber o)) typed =
    (raw : ℕ) → raw < 2 ^ 32 → typed.digits < 10 ^ 15 → typed.decimals ≤ 15 → IsRaw o typed raw → ⊥
HasNoRaw _ typed = Unit {0}

abbrev pub HasRaw : Option Seen → Typed → ℕ → Type 0
HasRaw (Some (objects.InputNumber o)) typed raw = IsRaw o typed raw
HasRaw _ typed raw = ⊥

-- the raw value of a typed number for an Input Number, where there is one
abbrev pub IsRawOf : Option Seen → Typed → Option ℕ → Type 0
IsRawOf object typed None = HasNoRaw object typed
IsRawOf object typed (Some raw) = HasRaw object typed raw

-- the same in one number, 2 ^ 64 - 1 where there is none
abbrev pub IsRawAnswer : Option Seen → Typed → ℕ → Type 0
IsRawAnswer object typed result = ((result < 2 ^ 32) × HasRaw object typed result) ⊎ ((result ≡ 2 ^ 64 - 1) × HasNoRaw object typed)

abbrev pub TellsRaw : Session → ℕ → ℕ → ℕ → ℕ → ℕ → Session → ℕ → Type 0
TellsRaw before address id sign digits decimals after result =
    (after ≡ before) × IsRawAnswer (object_by (pool_by (state before) address) id) (typed_by sign digits decimals) result
