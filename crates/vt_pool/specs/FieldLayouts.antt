-- The sizes, counts and faults of a record's fields, without their values.
use Rattle.std.specs.Prelude.{◌≡◌, ℕ, ◌+◌, ◌*◌, ◌≤◌, List, [], ◌∷◌, length, drop, nat_le, nat_lt, ◌&&◌, Bool, true, if◌then◌else◌, Option, Some, None, Result, Ok, Err}
use Rattle.byteorder.specs.Endian.{little_number}
use Rattle.vt_kinds.specs.declared.scale.Scale.{Scale}
use Rattle.vt_kinds.specs.Scales.{scale_at}
use Rattle.vt_kinds.specs.Layout.{Size, Unsigned, Signed, bytes_in, RecordField, Number, Count, Rows, Bytes, ScaleBytes, DecimalPlaces, Value, Objects, Macros, Others}
use Rattle.vt_kinds.specs.Layout as layout
use Rattle.vt_pool.specs.declared.field_layout.Counted.{Counted}
use Rattle.vt_pool.specs.declared.field_layout.Counted.TheVariants as counted
use Rattle.vt_pool.specs.declared.field_layout.EntryCounts.{EntryCounts}
use Rattle.vt_pool.specs.declared.field_layout.FieldLayout.{FieldLayout}
use Rattle.vt_pool.specs.declared.field_layout.FieldLayout.TheVariants as layouts
use Rattle.vt_records.specs.declared.record_fault.RecordFault.{RecordFault}
use Rattle.vt_records.specs.declared.fault.PoolFault.{PoolFault}
use Rattle.vt_records.specs.declared.fault.PoolFault.TheVariants as faults
use Rattle.vt_kinds.specs.declared.kind.Kind.{Kind}
use Rattle.vt_kinds.specs.Records.{fields_of}
use Rattle.vt_records.specs.Heads.{ReadRecord, ◌>>=◌, fields_at, record_at}
use Rattle.vt_records.specs.TableReads.{row_size}
use Rattle.vt_records.specs.RecordFaults.{fault_at}

-- ---- the fields of a record

abbrev pub counted_as : layout.Counted → Counted
counted_as Objects = counted.Objects
counted_as Macros = counted.Macros
counted_as Others = counted.Others

abbrev pub layout_of : RecordField → FieldLayout
layout_of (Number (Unsigned size)) = layouts.Number size
layout_of (Number (Signed width)) = layouts.Number (bytes_in width)
layout_of (Count size of) = layouts.Count (counted_as of) size
layout_of (Rows of sizes) = layouts.List (counted_as of) (row_size sizes)
layout_of (Bytes of) = layouts.List (counted_as of) 1
layout_of ScaleBytes = layouts.Scale
layout_of DecimalPlaces = layouts.Decimals

-- a count has one to eight bytes
abbrev pub is_countable : FieldLayout → Bool
is_countable (layouts.Count of size) = nat_le 1 size && nat_le size 8
is_countable _ = true

abbrev pub are_countable : List FieldLayout → Bool
are_countable [] = true
are_countable (p ∷ ps) = is_countable p && are_countable ps

-- ---- counts of lists

abbrev pub count_in : EntryCounts → Counted → ℕ
count_in counts counted.Objects = counts.objects
count_in counts counted.Macros = counts.macros
count_in counts counted.Others = counts.others

abbrev pub with_count : EntryCounts → Counted → ℕ → EntryCounts
with_count counts counted.Objects n = record counts { objects = n }
with_count counts counted.Macros n = record counts { macros = n }
with_count counts counted.Others n = record counts { others = n }

-- ---- the size and the fault of a field

-- the number of bytes of a field, given the counts before it
abbrev pub field_size : FieldLayout → EntryCounts → ℕ
field_size (layouts.Number size) counts = size
field_size (layouts.Count of size) counts = size
field_size (layouts.List of size) counts = count_in counts of * size
field_size layouts.Scale counts = 4
field_size layouts.Decimals counts = 1

-- the counts after a field with these bytes
abbrev pub counts_behind : FieldLayout → List ℕ → EntryCounts → EntryCounts
counts_behind (layouts.Count of size) bytes counts = with_count counts of (little_number size bytes)
counts_behind _ bytes counts = counts

abbrev pub fault_without : Option Scale → PoolFault → Option PoolFault
fault_without None fault = Some fault
fault_without (Some s) fault = None

-- the fault of a field with these bytes, at an index of the pool
abbrev pub field_fault : FieldLayout → List ℕ → ℕ → Option PoolFault
field_fault layouts.Scale bytes at = fault_without (scale_at (little_number 4 bytes)) (faults.Scale at)
field_fault layouts.Decimals bytes at = if nat_lt 7 (little_number 1 bytes) then Some (faults.Decimals at) else None
field_fault _ bytes at = None

-- the bytes are enough to read the field's value
abbrev pub IsLongEnough : FieldLayout → List ℕ → Type 0
IsLongEnough (layouts.Count of size) bytes = (1 ≤ size) × (size ≤ 8) × (size ≤ length bytes)
IsLongEnough layouts.Scale bytes = 4 ≤ length bytes
IsLongEnough layouts.Decimals bytes = 1 ≤ length bytes
IsLongEnough _ bytes = Unit {0}

-- ---- skipping fields and records

-- Skipping the fields of a record at index `at` has the same rest, under `view`, or the same fault as reading them.
abbrev pub PassesFields : {X : Type 0} → (X → List ℕ) → ℕ → Result X PoolFault → Result (List Value × List ℕ) RecordFault → Type 0
PassesFields view at (Ok rest) (Ok read) = view rest ≡ read.1
PassesFields view at (Err fault) (Err stop) = fault ≡ fault_at stop at
PassesFields view at _ _ = ⊥

-- The kind of the record at the front, or the stop of its head.
abbrev pub HeadGives : Result Kind RecordFault → List ℕ → Type 0
HeadGives (Ok kind) all =
    (id : ℕ) × (record_at all ≡ (fields_at (fields_of kind) (drop 3 all) >>= λ vs. Ok (record { id = id; kind = kind; values = vs.0; rest = vs.1 })))
HeadGives (Err stop) all = record_at all ≡ Err stop

-- Skipping the record at index `at` of a pool of `count` bytes has the same end or fault as reading it.
abbrev pub PassesRecord : ℕ → ℕ → Result ℕ PoolFault → Result ReadRecord RecordFault → Type 0
PassesRecord count at (Ok place) (Ok read) = place + length read.rest ≡ count
PassesRecord count at (Err fault) (Err stop) = fault ≡ fault_at stop at
PassesRecord count at _ _ = ⊥
