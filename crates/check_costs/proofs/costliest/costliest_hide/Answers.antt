use Rattle.std.proofs.Common.{◌≡◌, ℕ, ◌+◌, Bool, true, false, take, List, [], ◌∷◌, ◌++◌, cond, Option, Some, map, sym, ap, subst, ◌∙◌, arith}
use Rattle.std.proofs.lemmas.List.{append-nil, take_all}
use Rattle.vt_kinds.specs.Records.{kind_of}
use Rattle.vt_stores.specs.Shapes.{shape_of}
use Rattle.vt_stores.specs.Stores.{Objects, seen_entry}
use Rattle.vt_verify.specs.Triggers.{is_mask, listing, masks}
use Rattle.check_costs.specs.declared.share.EventCost.{EventCost}
use Rattle.check_costs.specs.Shares.{IsCostliest, event_cost}
use Rattle.check_costs.proofs.EventSteps.{costlier_more, costlier_kept}
use Rattle.check_costs.proofs.Lists.{masks_more}
use Rattle.check_costs.proofs.costliest.costliest_hide.Goals as goal
use Rattle.check_costs.proofs.costliest.costliest_hide.Goals.{then-is_mask+then-hide-steps_of, then-is_mask+else-hide-steps_of, else-is_mask}

pub loop-id-preserved : goal.loop-id-preserved
loop-id-preserved c =
    let shape = shape_of c.args.pool.now.objects.now in
    let items = c.entries-id-items.result.now in
    let item = c.loop-id-item.result in
    let so_far = c.loop-id.invariant.1 in
    let more = masks_more items c.loop-id.id-index item c.loop-id-test.true c.loop-id-item.is in
    let before = masks (shape_of (map seen_entry (take c.loop-id.id-index items))) in
    let after = masks (shape_of (map seen_entry (take (c.loop-id.id-index + 1) items))) in
    let is_kind : (b : Bool) → c.is_mask.result ≡ b → is_mask (kind_of item.1) ≡ b = λ b is. ap is_mask (sym c.kind.ensures) ∙ sym c.is_mask.ensures ∙ is in
    let one_more : (b : Bool) → is_mask (kind_of item.1) ≡ b → after ≡ before ++ cond b (item.0 ∷ []) [] = λ b is. more ∙ ap (λ (t : Bool). before ++ cond t (item.0 ∷ []) []) is in (
      c.loop-id.invariant.0,
      elim c.if-is_mask.branch [
        | then-is_mask+then-hide-steps_of w ↦
            let cost = w.event_cost-hide.result in
            let of_mask = w.event_cost-hide.ensures ∙ ap (λ (n : ℕ). event_cost shape (listing item.0 n)) w.number.ensures in
            let dearer = w.steps_of.ensures in
            subst (λ (o : Option EventCost). IsCostliest shape after o) (sym w.found-is)
            (subst (λ (ms : List ℕ). IsCostliest shape ms (Some cost)) (sym (one_more true (is_kind true w.if-is_mask.true)))
            (costlier_more shape before item.0 cost of_mask c.loop-id.found (omega (arith, dearer, w.if-hide-steps_of.true)) so_far))
        | then-is_mask+else-hide-steps_of w ↦
            let cost = w.event_cost-hide.result in
            let of_mask = w.event_cost-hide.ensures ∙ ap (λ (n : ℕ). event_cost shape (listing item.0 n)) w.number.ensures in
            let dearer = w.steps_of.ensures in
            subst (λ (o : Option EventCost). IsCostliest shape after o) (sym w.found-is)
            (subst (λ (ms : List ℕ). IsCostliest shape ms c.loop-id.found) (sym (one_more true (is_kind true w.if-is_mask.true)))
            (costlier_kept shape before item.0 cost of_mask c.loop-id.found (omega (arith, dearer, w.if-hide-steps_of.false)) so_far))
        | else-is_mask w ↦
            subst (λ (o : Option EventCost). IsCostliest shape after o) (sym w.found-is)
            (subst (λ (ms : List ℕ). IsCostliest shape ms c.loop-id.found) (sym (one_more false (is_kind false w.if-is_mask.false) ∙ append-nil before)) so_far)
      ],
    )

pub returns : goal.returns
returns c =
    let items = c.entries-id-items.result.now in
    subst (λ (es : Objects). IsCostliest (shape_of c.args.pool.now.objects.now) (masks (shape_of es)) c.loop-id.found)
    (ap (map seen_entry) (take_all c.loop-id.id-index items (omega (arith, c.loop-id-test.false))) ∙ c.loop-id.invariant.0) c.loop-id.invariant.1
