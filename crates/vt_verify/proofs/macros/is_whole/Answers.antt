use Rattle.std.proofs.Common.{sym, ◌∙◌}
use Rattle.vt_verify.proofs.lemmas.macros.MacroBytes.{whole_rest, whole_end}
use Rattle.vt_verify.proofs.macros.is_whole.Goals as goal

pub loop-next-preserved : goal.loop-next-preserved
loop-next-preserved c =
    c.loop-next.invariant ∙ whole_rest c.cut_is_one.ensures c.loop-next.rest.now c.in-Some.field-0-0.now c.in-Some.next.now c.in-Some.ensures.some

pub returns : goal.returns
returns c = c.is_empty.ensures ∙ whole_end c.cut_is_one.ensures c.loop-next.rest.now c.in_default.ensures.none ∙ sym c.loop-next.invariant
