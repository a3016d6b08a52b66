use Rattle.std.proofs.Common.{ℕ, Bool, ◌||◌, List, map, sym, ap, ◌∙◌}
use Rattle.std.specs.List.{flat_map}
use Rattle.vt_kinds.specs.Records.{Seen}
use Rattle.vt_stores.specs.Shapes.{shape_of}
use Rattle.vt_stores.specs.Stores.{seen_entry}
use Rattle.check_needs.specs.Naming.{has, is_among, names, ids_named}
use Rattle.check_needs.proofs.lemmas.NamedIds.{joined}
use Rattle.check_needs.proofs.lemmas.Objects.{next_list}
use Rattle.check_needs.proofs.naming.named.Goals as goal

pub loop-id-init : goal.loop-id-init
unfolding names
loop-id-init c =
    let list = ids_named (shape_of c.args.objects.now) in (
      c.entries-id-items.ensures.all,
      λ id. ap (λ (es : List (ℕ × Seen)). is_among id (flat_map list es)) (sym c.entries-id-items.ensures.all)
          ∙ ap (λ (b : Bool). b || is_among id (flat_map list (map seen_entry c.entries-id-items.result.now))) (sym (c.in_ok-set.ensures id)),
    )

pub loop-id-preserved : goal.loop-id-preserved
loop-id-preserved c =
    let list = ids_named (shape_of c.args.objects.now) in
    let set = c.loop-id.set in (
      c.loop-id.invariant.0,
      λ id. c.loop-id.invariant.1 id
          ∙ ap (λ (ids : List ℕ). has c.loop-id.set id || is_among id ids)
          (next_list list c.entries-id-items.result.now c.loop-id.id-index c.loop-id-item.result c.loop-id-test.true c.loop-id-item.is)
          ∙ joined (has c.loop-id.set id) (has c.put_named.new.set id) id (list (seen_entry c.loop-id-item.result)) _ (c.put_named.ensures id),
    )
