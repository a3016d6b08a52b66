use Rattle.std.proofs.Common.{rules, Some, ap, sym, ◌∙◌}
use Rattle.vt_kinds.specs.Records.{seen}
use Rattle.vt_effects.specs.Effects.{pointer_value}
use Rattle.vt_effects.proofs.pointers.has_that_kind.Goals as goal

pub returns-clause-kind : goal.returns-clause-kind
returns-clause-kind g c is = record {
  value = c.in-Some-ObjectPointer.pointer.value;
  held = ap pointer_value (sym c.in-Some-ObjectPointer.ensures.value) ∙ ap (λ o. pointer_value (Some (seen o))) c.in-Some-ObjectPointer.field-0-is;
  there = search rules;
  same = search rules;
}
