-- The objects of a pool have distinct IDs other than NULL.
use Rattle.std.proofs.Common.{ℕ, ◌<◌, [], ◌∷◌}
use Rattle.std.proofs.lemmas.List.Elements.{All-nil, All-cons}
use Rattle.std.specs.List.{All}
use Rattle.vt_kinds.specs.Ids.{null_id}
use Rattle.vt_stores.specs.Stores.{Objects, AreNamed, ids}
use Rattle.vt_pool.specs.Pools.{AreObjects, AreRecords}

all_named : (pool : Objects) → AreRecords pool → All (λ id. id < null_id) (ids pool)
all_named [] records = All-nil (λ (id : ℕ). id < null_id)
all_named (e ∷ es) records = All-cons (λ (id : ℕ). id < null_id) e.0 (ids es) records.0.named (all_named es records.1)

pub named_of : (pool : Objects) → AreObjects pool → AreNamed pool
named_of pool are = record { distinct = are.distinct; named = all_named pool are.whole }
