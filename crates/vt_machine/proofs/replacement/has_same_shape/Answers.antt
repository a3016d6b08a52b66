use denote.Enum.Bare.{differs_false}
use Rattle.std.proofs.Common.{sym, ◌∙◌}
use Rattle.std.proofs.lemmas.Slice.Eq.{bytes_eq-Decides}
use Rattle.vt_kinds.specs.contracts.kind.Kind.{the_type}
use Rattle.vt_machine.proofs.ComparedObjects.{not_other, same_entries, same_fixed}
use Rattle.vt_machine.proofs.replacement.has_same_shape.Goals as goal

pub returns : goal.returns
returns c is =
    same_fixed c.args.new.now c.args.old.now
    (sym c.kind.ensures ∙ differs_false the_type tt c.kind.result c.kind-2.result (sym c.if-ne.ensures) ∙ c.kind-2.ensures)
    (sym c.macros.ensures ∙ same_entries c.macros.result.now c.macros-2.result.now (not_other _ c.if-ne-2.ensures) ∙ c.macros-2.ensures)
    (sym c.macro_bytes.ensures ∙ (bytes_eq-Decides c.macro_bytes.result.now c.macro_bytes-2.result.now).0 (sym c.eq.ensures ∙ is) ∙ c.macro_bytes-2.ensures)
