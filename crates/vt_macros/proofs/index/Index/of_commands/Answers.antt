use Rattle.std.proofs.Common.{◌≤◌, ℕ, List, length, get_or, Some, map, refl, ap, ◌∙◌, arith}
use Rattle.std.proofs.lemmas.List.{take_all}
use Rattle.std.specs.Prelude.{slice_index_or}
use Rattle.vt_commands.specs.declared.command.Command.{Command}
use Rattle.vt_commands.specs.Commands.{command_at}
use Rattle.vt_stores.specs.Shapes.{shape_of}
use Rattle.vt_verify.specs.Macros.{cut_or_none}
use Rattle.vt_macros.specs.Indexes.{command_in, pieces_in, no_span}
use Rattle.vt_macros.proofs.IndexGrowth.{no_part}
use Rattle.vt_macros.proofs.IndexOrder.{among, one_more, all_among}
use Rattle.vt_macros.proofs.index.Index.of_commands.Goals as goal

pub loop-id-init : goal.loop-id-init
loop-id-init c =
    let index = c.in_ok-index.index in (
      c.in_ok-index.ensures.within,
      λ other. ap (map (command_in index)) (no_part index.pieces.items (slice_index_or index.macros.items other no_span) c.in_ok-index.ensures.pieces),
    )

pub loop-id-preserved : goal.loop-id-preserved
loop-id-preserved c =
    let shape = shape_of c.args.accepted.now in
    let order = c.by_rank-id-items.result.now in
    let i = c.loop-id.id-index in
    let old = c.loop-id.index in
    let new = c.put_macro.new.self in (
      c.in_ok-put_macro.ensures.within,
      λ other. one_more shape order i (get_or order i 0) other (map (command_in new) (pieces_in new other)) (map command_at (cut_or_none c.macro_bytes.result.now))
          (map (command_in old) (pieces_in old other)) c.loop-id-test.true refl (c.in_ok-put_macro.ensures.commands other) c.macro_bytes.ensures.commands (c.loop-id.invariant.1 other),
    )

pub returns : goal.returns
returns c =
    let shape = shape_of c.args.accepted.now in
    let order = c.by_rank-id-items.result.now in
    let end : length order ≤ c.loop-id.id-index = omega arith in
    λ id. c.loop-id.invariant.1 id
    ∙ ap (λ (ids : List ℕ). map (λ (x : Command). Some x) (among shape ids id)) (take_all c.loop-id.id-index order end)
    ∙ ap (map (λ (x : Command). Some x)) (all_among shape order id c.by_rank-id-items.ensures)
