use Rattle.std.proofs.Common.{not, set, sym, ap, ap₂, ◌∙◌, arith}
use Rattle.std.specs.Prelude.{slice_index_or}
use Rattle.vt_effects.proofs.lemmas.objects.EntryChanges.{up_to_next}
use Rattle.vt_effects.proofs.lemmas.objects.ChildMoves.{placed_all}
use Rattle.vt_effects.proofs.changes.children.place.Goals as goal

pub loop-index-preserved : goal.loop-index-preserved
loop-index-preserved c = let old = c.index-as_slice-from.result in
    c.set.ensures ∙ ap (set c.loop-index.children c.loop-index.index) c.placed_child.ensures
    ∙ up_to_next _ c.loop-index.index c.args.children.now c.loop-index.children old c.loop-index.invariant (omega (arith, c.loop-index-test.true, c.len-index-end.ensures))
    (c.index-as_slice-from.is ∙ ap₂ (λ xs i. slice_index_or xs i old) c.as_slice.ensures.value c.from.ensures)

pub returns-clause-children : goal.returns-clause-children
returns-clause-children c =
    placed_all c.args.kind_of_other c.args.entry.now c.args.children.now c.loop-index.children c.loop-index.index (c.is_none.ensures ∙ ap not c.if-is_none.false)
    (sym c.stands_in.ensures ∙ c.if-not-stands_in.false) c.loop-index.invariant (omega (arith, c.loop-index-test.false, c.len-index-end.ensures, c.loop-index.auto.index-end))
