use Rattle.std.proofs.Common.{map, sym, ap, subst, refl}
use Rattle.vt_stores.specs.Stores.{Objects, ObjectMap, seen_entry}
use Rattle.vt_verify.specs.Rules.{IsVerified}
use Rattle.vt_verify.specs.Updates.{updated}
use Rattle.vt_machine.specs.SetStates.{SetState}
use Rattle.vt_machine.proofs.ReplacedObjects.{updated_verified}
use Rattle.vt_machine.proofs.live.Live.replacement.Goals as goal

pub returns-clause-verified : goal.returns-clause-verified
returns-clause-verified g c =
    let m = g.S.Store.contents c.self.inside.store in
    subst (λ (o : ObjectMap). IsVerified (updated o (map seen_entry c.in_ok-entries.entries.items))) (ap (λ (s : SetState). s.objects) c.self.view_is)
    (subst (λ (es : Objects). IsVerified (updated m es)) (sym c.in_ok-entries.ensures)
    (updated_verified m c.args.update.now c.self.inside.index c.self.inside.levels (c.if-not-all_replace.ensures refl) c.self.invariant.0))
