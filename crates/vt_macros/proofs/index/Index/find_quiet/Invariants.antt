use Rattle.vt_effects.specs.Soundness.{shape_in}
use Rattle.vt_macros.specs.Indexes.{IsIndexOf}
use Rattle.vt_macros.proofs.index.Index.find_quiet.Given as goal

abbrev pub invariant-loop-id : goal.invariant-loop-id
invariant-loop-id g l = IsIndexOf (shape_in (g.S.Store.contents l.store)) l.self
