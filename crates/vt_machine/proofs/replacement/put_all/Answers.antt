use Rattle.std.proofs.Common.{map, ap, ◌∙◌}
use Rattle.std.proofs.lemmas.List.{map-append}
use Rattle.vt_stores.specs.Stores.{seen_entry}
use Rattle.vt_machine.proofs.ReplacedObjects.{next_put}
use Rattle.vt_machine.proofs.replacement.put_all.Goals as goal

pub loop-id-preserved : goal.loop-id-preserved
loop-id-preserved g c =
    next_put (g.S.Store.contents c.args.store.now) (g.S.Store.contents c.loop-id.store) (g.S.Store.contents c.put.new.store) (map seen_entry c.args.entries.items)
    (map seen_entry c.loop-id.entries.items) (map seen_entry c.pop.new.self.items) _
    (ap (map seen_entry) c.in-Some.ensures.items ∙ map-append seen_entry c.pop.new.self.items _) c.put.ensures c.loop-id.invariant
