-- The places of findings in a pool's bytes.
use Rattle.std.specs.Prelude.{◌≡◌, ◌<◌, ℕ, ◌+◌, ◌^◌, Option, Some, None, IsSome, slice_get}
use Rattle.std.specs.Option.{option_map}
use Rattle.vt_records.specs.declared.fault.PoolFault.{PoolFault}
use Rattle.vt_records.specs.declared.fault.PoolFault.TheVariants as faults
use Rattle.vt_stores.specs.Stores.{IsPlace, object_at}
use Rattle.check_inspect.specs.declared.finding.Finding.{Finding}
use Rattle.check_inspect.specs.declared.finding.Finding.TheVariants as findings
use Rattle.check_inspect.specs.declared.finding.FindingPlace.{FindingPlace}
use Rattle.check_inspect.specs.declared.finding.FindingPlace.TheVariants as places
use Rattle.check_inspect.specs.declared.finding.ReferenceAt.{ReferenceAt}
use Rattle.check_inspect.specs.declared.finding.Spot.{Spot}
use Rattle.check_inspect.specs.declared.finding.Spot.TheVariants as spots
use Rattle.check_inspect.specs.declared.inspection.Inspection.{Inspection}
use Rattle.check_reading.specs.declared.pool_reading.ObjectRecord.{ObjectRecord}

abbrev pub byte_of : PoolFault → ℕ
byte_of (faults.Truncated at) = at
byte_of (faults.UnknownType at) = at
byte_of (faults.LeftOutType at) = at
byte_of (faults.Scale at) = at
byte_of (faults.Decimals at) = at
byte_of (faults.OutOfMemory at) = at
byte_of (faults.NullId at) = at

abbrev pub spot_place : ℕ → Spot → FindingPlace
spot_place id (spots.Command at function) = places.Command id at
spot_place id spot = places.Object id

abbrev pub reference_place : ReferenceAt → FindingPlace
reference_place r = spot_place r.reference.parent r.spot

-- the place of a finding: of a chain and of a circle that of the first object; none if no object is a working set
abbrev pub place_of : Finding → Option FindingPlace
place_of (findings.Record fault) = Some (places.Byte (byte_of fault))
place_of findings.NoWorkingSet = None
place_of (findings.TwoWorkingSets id) = Some (places.Object id)
place_of (findings.Missing r) = Some (reference_place r)
place_of (findings.WrongKind r) = Some (reference_place r)
place_of (findings.TooDeep chain) = option_map places.Object (slice_get chain.items 0)
place_of (findings.MacroBytes id) = Some (places.Object id)
place_of (findings.MacroCommand id at function) = Some (places.Command id at)
place_of (findings.MacroMissing r) = Some (reference_place r)
place_of (findings.MacroKind r) = Some (reference_place r)
place_of (findings.MacroValue id at object attribute) = Some (places.Command id at)
place_of (findings.MacroCircle path) = option_map places.Object (slice_get path.items 0)
place_of (findings.OverBudget id event) = Some (places.Object id)

-- the record at the index of an object
abbrev pub IsRecordOf : Inspection → ℕ → ObjectRecord → Type 0
IsRecordOf i id r = (place : ℕ) × IsPlace i.objects id place × (slice_get i.records.items place ≡ Some r)

-- The index of the first byte: a macro's commands begin behind the ID, the type and the length of its record.
abbrev pub IsOffset : Inspection → Option FindingPlace → ℕ → Type 0
IsOffset i None at = ⊥
IsOffset i (Some (places.Byte byte)) at = at ≡ byte
IsOffset i (Some (places.Object id)) at = (r : ObjectRecord) × IsRecordOf i id r × (at ≡ r.at)
IsOffset i (Some (places.Command id command)) at = (r : ObjectRecord) × IsRecordOf i id r × (at ≡ r.at + 5 + command)

-- The place is a byte, an object that exists, or a command of one whose offset is a number of 64 bits.
abbrev pub HasOffset : Inspection → Option FindingPlace → Type 0
HasOffset i None = ⊥
HasOffset i (Some (places.Byte byte)) = Unit {0}
HasOffset i (Some (places.Object id)) = IsSome (object_at i.objects id)
HasOffset i (Some (places.Command id command)) =
    IsSome (object_at i.objects id) × ((r : ObjectRecord) → IsRecordOf i id r → r.at + 5 + command < 2 ^ 64)
