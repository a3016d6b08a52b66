-- Progress of reading a pool: the records so far, and the objects in force after them.
use Rattle.std.proofs.Common.{◌≡◌, ℕ, ◌-◌, ◌<◌, List, [], ◌∷◌, ◌++◌, length, sym, subst}
use Rattle.vt_kinds.specs.Records.{Seen, record_of, HasRecord}
use Rattle.vt_records.specs.declared.record_fault.RecordFault.{RecordFault}
use Rattle.vt_pool.specs.Pools.{PoolEntry, joined, AreRecords, IsInForce, IsFault}
use Rattle.vt_records.specs.RecordFaults.{IsStop, fault_at}
use Rattle.vt_pool.specs.EntryWrites.{with_entry}
use Rattle.vt_pool.proofs.ObjectsInForce.{in_force_push}
use Rattle.vt_pool.proofs.JoinedRecords.{joined_push, records_push, is_fault}

pub record IsReadUpTo (bytes rest : List ℕ) (pool : List PoolEntry) : Type 0 where
  pub records : List PoolEntry
  pub whole : AreRecords records
  pub parts : bytes ≡ joined records ++ rest
  pub in_force : IsInForce records pool

pub one_more : (bytes rest after : List ℕ) (pool pool' : List PoolEntry) (id : ℕ) (o : Seen) → IsReadUpTo bytes rest pool → HasRecord id o → rest ≡ record_of id o ++ after → pool' ≡ with_entry pool id o → IsReadUpTo bytes after pool'
one_more bytes rest after pool pool' id o so_far has parts with =
    let next : IsReadUpTo bytes after (with_entry pool id o) = record {
      records = so_far.records ++ (id, o) ∷ [];
      whole = records_push so_far.records id o so_far.whole has;
      parts = joined_push so_far.records id o bytes rest after so_far.parts parts;
      in_force = in_force_push so_far.records pool id o so_far.in_force;
    } in
    subst (IsReadUpTo bytes after) (sym with) next

pub faulty_next : (bytes rest : List ℕ) (pool : List PoolEntry) (at : ℕ) (stop : RecordFault) → IsReadUpTo bytes rest pool → at ≡ length bytes - length rest → 0 < length rest → IsStop rest stop → IsFault bytes (fault_at stop at)
faulty_next bytes rest pool at stop so_far place some is = is_fault bytes so_far.records rest at stop so_far.whole so_far.parts place some is
