use Rattle.std.proofs.Common.{◌≡◌, length, rules, ◌∙◌}
use Rattle.vt_chains.specs.Depths.{ids_of, inclusions_of}
use Rattle.vt_chains.proofs.FallingLevels.{depths_fall}
use Rattle.vt_chains.proofs.levels.Levels.of_depths.Goals as goal

pub returns : goal.returns
returns c store are =
    let spare : length c.in_ok-spare.spare.items ≡ length c.args.depths.items = search rules in
    record {
      certificate = depths_fall (ids_of store) (inclusions_of store) c.args.depths.items are;
      spare_length = spare ∙ are.each;
    }
