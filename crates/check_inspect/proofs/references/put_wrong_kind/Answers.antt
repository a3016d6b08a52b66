use Rattle.std.proofs.Common.{[], ◌∷◌, ◌++◌, ap, sym, ◌∙◌}
use Rattle.vt_stores.specs.Shapes.{shape_of}
use Rattle.vt_verify.specs.declared.reference.Reference.{Reference}
use Rattle.vt_verify.specs.declared.reference.Test.TheVariants.{Fits}
use Rattle.vt_verify.specs.References.{of_slot}
use Rattle.check_inspect.specs.Lists.{all_failing}
use Rattle.check_inspect.specs.References.{passes_at, slot_at, pointed_at, values_at}
use Rattle.check_inspect.proofs.lemmas.Appends.{two_parts, all_failing-append}
use Rattle.check_inspect.proofs.lemmas.Commands.{on_ok}
use Rattle.check_inspect.proofs.references.put_wrong_kind.Goals as goal

pub returns : goal.returns
returns c =
    let objects = c.args.objects.now in
    let test = passes_at Fits (shape_of objects) in
    let slot = c.args.slot.now in
    on_ok c.put_pointed.result c.put_pointed.ensures
    (λ last. two_parts c.args.found.now.items (all_failing test (slot_at c.args.parent slot ∷ [])) (all_failing test (pointed_at objects slot.place c.of_slot.result))
    (all_failing test (values_at objects c.args.parent slot)) c.put_slot.new.found.items c.put_pointed.new.found.items c.in_ok-put_slot.ensures last
    (all_failing-append test (slot_at c.args.parent slot ∷ []) (pointed_at objects slot.place (of_slot c.args.parent slot))
    ∙ ap (λ (r : Reference). all_failing test (slot_at c.args.parent slot ∷ []) ++ all_failing test (pointed_at objects slot.place r)) (sym c.of_slot.ensures)))
