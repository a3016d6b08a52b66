use Rattle.std.proofs.Common.{ℕ, List, ◌≤◌, ◌++◌, length, map, sym, ap, ◌∙◌, arith}
use Rattle.std.proofs.lemmas.List.{take_all}
use Rattle.vt_kinds.specs.Records.{seen}
use Rattle.vt_stores.specs.Stores.{seen_entry, Objects}
use Rattle.vt_stores.specs.Shapes.{Fixed, fixed, shape_of}
use Rattle.vt_verify.specs.Triggers.{run_by_name}
use Rattle.vt_verify.specs.Orders.{named_macros}
use Rattle.vt_verify.proofs.lemmas.graphs.EventGroups.{one_more}
use Rattle.vt_verify.proofs.order.macros.Goals as goal

pub loop-id-preserved : goal.loop-id-preserved
loop-id-preserved c =
    let items = c.entries-id-items.result.now in
    let item = c.loop-id-item.result in (
      c.loop-id.invariant.0,
      c.in_ok-put_macro.ensures ∙ ap (λ (made : List ℕ). made ++ run_by_name item.0 (fixed (seen item.1))) c.loop-id.invariant.1
          ∙ sym (one_more (λ (e : ℕ × Fixed). run_by_name e.0 e.1) items c.loop-id.id-index item c.loop-id-test.true c.loop-id-item.is),
    )

pub returns : goal.returns
returns c =
    let items = c.entries-id-items.result.now in
    let end : length items ≤ c.loop-id.id-index = omega (arith, c.loop-id-test.false) in
    c.loop-id.invariant.1
    ∙ ap (λ (objects : Objects). named_macros (shape_of objects)) (ap (map seen_entry) (take_all c.loop-id.id-index items end) ∙ c.entries-id-items.ensures.all)
