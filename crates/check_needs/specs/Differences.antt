-- The differences of two pools, by their IDs.
use Rattle.std.specs.Prelude.{ℕ, Bool, ◌==◌, if◌then◌else◌, List, [], ◌∷◌, ◌++◌, Option, Some, None}
use Rattle.std.specs.List.{flat_map}
use Rattle.std.specs.Str.{bytes_eq}
use Rattle.vt_kinds.specs.Kinds.{kind_number}
use Rattle.vt_kinds.specs.Records.{Seen, kind_of, record_of}
use Rattle.vt_stores.specs.Stores.{Objects, object_at}
use Rattle.check_needs.specs.declared.differences.PoolDifference.{PoolDifference}
use Rattle.check_needs.specs.declared.differences.PoolDifference.TheVariants as differences

abbrev pub are_of_one_kind : Seen → Seen → Bool
are_of_one_kind old new = kind_number (kind_of old) == kind_number (kind_of new)

-- two objects have the same record under one ID
abbrev pub are_equal : Seen → Seen → Bool
are_equal old new = bytes_eq (record_of 0 old) (record_of 0 new)

-- two objects of one ID, by their kinds and then by their records
abbrev pub compared : ℕ → Seen → Seen → List PoolDifference
compared id old new =
    if are_of_one_kind old new then (if are_equal old new then [] else differences.Changed id ∷ []) else differences.OtherKind id ∷ []

-- an object of the old pool, and the object of its ID in the new pool
abbrev pub kept_or_removed : ℕ → Seen → Option Seen → List PoolDifference
kept_or_removed id old None = differences.Removed id ∷ []
kept_or_removed id old (Some new) = compared id old new

-- an object of the new pool is added if the old pool has none of its ID
abbrev pub added : ℕ → Option Seen → List PoolDifference
added id None = differences.Added id ∷ []
added id (Some old) = []

-- the removed and changed objects by rising ID, and then the added ones
abbrev pub differences_of : Objects → Objects → List PoolDifference
differences_of old new =
    flat_map (λ e. kept_or_removed e.0 e.1 (object_at new e.0)) old ++ flat_map (λ e. added e.0 (object_at old e.0)) new
