use Rattle.std.proofs.Common.{◌≡◌, refl, sym, ap, ◌∙◌}
use Rattle.vt_kinds.specs.declared.masks.WorkingSet.{WorkingSet}
use Rattle.vt_kinds.specs.declared.masks.DataMask.{DataMask}
use Rattle.vt_kinds.specs.declared.masks.AlarmMask.{AlarmMask}
use Rattle.vt_kinds.specs.declared.keys.SoftKeyMask.{SoftKeyMask}
use Rattle.vt_kinds.specs.declared.object.Object.{Object}
use Rattle.vt_kinds.specs.declared.object.Object.TheVariants as objects
use Rattle.vt_kinds.specs.Records.{seen}
use Rattle.check_needs.specs.declared.sizes.Sizes.{Sizes}
use Rattle.draw_picture.specs.Frames.{frame_of}
use Rattle.draw_picture.specs.Parts.{part_size, size_in}
use Rattle.draw_picture.proofs.part.part_size.Goals as goal

-- another object than a Working Set or a mask has the size of its element
size_of_element : {B : Type 0} (sizes : Sizes) (o : Object B) → ((w : WorkingSet) → o ≡ objects.WorkingSet w → ⊥) → ((w : DataMask) → o ≡ objects.DataMask w → ⊥)
    → ((w : AlarmMask) → o ≡ objects.AlarmMask w → ⊥) → ((w : SoftKeyMask) → o ≡ objects.SoftKeyMask w → ⊥)
    → part_size sizes (seen o) ≡ size_in (frame_of sizes (seen o))
size_of_element sizes (objects.WorkingSet w) not _ _ _ = absurd (not w refl)
size_of_element sizes (objects.DataMask w) _ not _ _ = absurd (not w refl)
size_of_element sizes (objects.AlarmMask w) _ _ not _ = absurd (not w refl)
size_of_element sizes (objects.SoftKeyMask w) _ _ _ not = absurd (not w refl)
size_of_element sizes o _ _ _ _ = refl

pub returns-in_default : goal.returns-in_default
returns-in_default c =
    let d = c.in_default in
    c.size_in.ensures ∙ ap size_in c.frame_of.ensures
    ∙ sym (size_of_element c.args.sizes c.args.object.now d.not-WorkingSet d.not-DataMask d.not-AlarmMask d.not-SoftKeyMask)
