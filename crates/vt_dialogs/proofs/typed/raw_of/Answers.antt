use Rattle.std.proofs.Common.{ℕ, ◌*◌, ◌^◌, ap, ◌∙◌, w32, rules}
use Rattle.std.proofs.lemmas.Int.{to_z-of_z}
use mir.Val.{SFits}
use Rattle.vt_dialogs.proofs.RawValues.{raw_of_size}
use Rattle.vt_dialogs.proofs.typed.raw_of.Goals as goal

pub returns : goal.returns
returns c =
    let fits : SFits w32 c.args.input.now.offset = search rules in
    raw_of_size c.args.input.now c.args.typed c.in_ok-size.size c.raw_from.result
    (c.in_ok-size.ensures.size ∙ ap (λ (n : ℕ). c.args.typed.digits * 10 ^ n) c.places.ensures) (simp to_z-of_z at c.raw_from.ensures)
