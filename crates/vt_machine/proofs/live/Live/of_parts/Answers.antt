use Rattle.std.proofs.Common.{◌≡◌, length, rules, refl, ◌∙◌}
use Rattle.vt_chains.proofs.IdIndices.{count_is}
use Rattle.vt_machine.proofs.live.Live.of_parts.Goals as goal

pub invariant_of-result : goal.invariant_of-result
invariant_of-result g c =
    let long : length c.in_ok-marks.marks.items ≡ c.count.result = search rules in (
      c.requires.runs,
      c.requires.set,
      record { each = long ∙ c.count.ensures.count ∙ count_is (g.S.Store.contents c.args.store); shown = λ never. absurd cc; all = λ never full. absurd cc },
      refl,
    )
