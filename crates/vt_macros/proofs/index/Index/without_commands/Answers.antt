use Rattle.vt_macros.specs.declared.index.Index.{Index}
use Rattle.vt_macros.proofs.IndexGrowth.{none_within}
use Rattle.vt_macros.proofs.index.Index.without_commands.Goals as goal

pub returns-clause-within : goal.returns-clause-within
returns-clause-within c =
    let index : Index = record { listings = c.new.result; bytes = c.new-2.result; pieces = c.new-3.result; macros = c.in_ok-macros.macros; quiet = c.in_ok-quiet.quiet } in
    none_within index (c.in_ok-macros.ensures.items_if_clones_equal (λ y e. e)) c.new-3.ensures.items
