use Rattle.std.proofs.Common.{ℕ, List, drop, ap, subst}
use Rattle.std.specs.Prelude.{IfNone}
use Rattle.vt_pool.specs.PoolUploads.{Arrived, HasNoFaultYet}
use Rattle.vt_pool.proofs.NoFaultInCutRecord.{none_lasts}
use Rattle.vt_pool.proofs.arriving.Reading.fault.Goals as goal

pub returns-clause-none : goal.returns-clause-none
returns-clause-none c =
    let r = c.self.inside in
    subst (λ (bytes : List ℕ). IfNone r.fault (HasNoFaultYet bytes)) (ap (λ (a : Arrived). a.bytes) c.self.view_is)
    (none_lasts (drop r.start r.bytes.items) r.whole r.fault c.self.invariant.1)
