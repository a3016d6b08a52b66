use Rattle.std.proofs.Common.{ap, ◌∙◌}
use Rattle.vt_machine.specs.SetStates.{holds_key}
use Rattle.vt_machine.proofs.StateBeforeAndAfter.{key_kept}
use Rattle.vt_machine.proofs.live.Live.keeping.Goals as goal

pub invariant_of-self : goal.invariant_of-self
invariant_of-self g c =
    let old = g.S.Store.contents c.old.inside.store in
    let new = g.S.Store.contents c.self.inside.store in (
      c.self.invariant.0,
      c.self.invariant.1,
      c.self.invariant.2,
      ap (holds_key new) c.kept_key-key.ensures ∙ key_kept old new c.old.inside.key c.old.invariant.3,
    )
