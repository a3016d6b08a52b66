use Rattle.std.proofs.Common.{sym, ap, ◌∙◌}
use Rattle.vt_machine.specs.Replacements.{ids_of_slots}
use Rattle.vt_machine.proofs.ComparedObjects.{replaces_by}
use Rattle.vt_machine.proofs.replacement.replaces.Goals as goal

pub returns-then-has_same_shape : goal.returns-then-has_same_shape
returns-then-has_same_shape g c is =
    replaces_by c.args.object.now c.in-Some.old.now (g.S.Store.contents c.args.store.now) c.args.id c.in-Some.ensures.value
    (c.has_same_shape.ensures c.if-has_same_shape.true)
    (sym (ap ids_of_slots c.slots.ensures) ∙ c.have_same_ids.ensures is ∙ ap ids_of_slots c.slots-then-has_same_shape.ensures)
