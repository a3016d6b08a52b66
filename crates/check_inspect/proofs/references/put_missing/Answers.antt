use Rattle.std.proofs.Common.{List, ◌++◌, [], ◌∷◌, sym, ap, ◌∙◌}
use Rattle.std.specs.List.{flat_map}
use Rattle.vt_kinds.specs.declared.slot.Slot.{Slot}
use Rattle.vt_kinds.specs.Records.{seen}
use Rattle.vt_kinds.specs.References.{slots_of}
use Rattle.vt_stores.specs.Shapes.{shape_of}
use Rattle.vt_stores.proofs.ObjectShapes.{seen_slots}
use Rattle.vt_verify.specs.declared.reference.Test.TheVariants.{IsThere}
use Rattle.check_inspect.specs.Lists.{all_failing}
use Rattle.check_inspect.specs.References.{passes_at, slot_at}
use Rattle.check_inspect.proofs.lemmas.Appends.{all_failing-map}
use Rattle.check_inspect.proofs.references.put_missing.Goals as goal

pub loop-slot-init : goal.loop-slot-init
loop-slot-init c =
    let test = passes_at IsThere (shape_of c.args.objects.now) in (
      tt,
      tt,
      ap (λ l. c.args.found.now.items ++ l)
          (ap (λ (slots : List Slot). flat_map (λ s. all_failing test (slot_at c.args.parent s ∷ [])) slots)
          (c.into_iter-slot-iterator.ensures.into_iter_gives ∙ c.slots-slot-items.ensures ∙ sym (seen_slots c.args.object.now))
          ∙ sym (all_failing-map test (slot_at c.args.parent) (slots_of (seen c.args.object.now)))),
    )
