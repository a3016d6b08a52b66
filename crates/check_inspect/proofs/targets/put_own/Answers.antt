use Rattle.std.proofs.Common.{◌++◌, ap, sym, ◌∙◌, List}
use Rattle.std.proofs.lemmas.List.{append-nil}
use Rattle.std.specs.List.{flat_map}
use Rattle.vt_kinds.specs.declared.entries.MacroEntry.{MacroEntry}
use Rattle.vt_kinds.specs.Records.{seen}
use Rattle.vt_stores.specs.Shapes.{shape_of, fixed}
use Rattle.vt_stores.proofs.ObjectShapes.{seen_macros}
use Rattle.vt_verify.specs.Macros.{Piece}
use Rattle.check_inspect.specs.Lists.{all_failing}
use Rattle.check_inspect.specs.References.{passes_at, entries_at, targets_at}
use Rattle.check_inspect.proofs.lemmas.Commands.{no_pieces}
use Rattle.check_inspect.proofs.targets.put_own.Goals as goal

pub returns-in-None : goal.returns-in-None
returns-in-None c =
    let shape = shape_of c.args.objects.now in
    let test = passes_at c.args.test shape in
    let entries = entries_at c.args.id 0 (fixed (seen c.args.object.now)).macros in
    c.in_ok-put_entries.ensures
    ∙ ap (λ (es : List MacroEntry). c.args.found.now.items ++ all_failing test (entries_at c.args.id 0 es)) (c.macros.ensures ∙ sym (seen_macros c.args.object.now))
    ∙ ap (λ l. c.args.found.now.items ++ all_failing test l) (sym (append-nil entries))
    ∙ ap (λ (ps : List Piece). c.args.found.now.items ++ all_failing test (entries ++ flat_map (targets_at shape) ps))
    (sym (no_pieces c.args.id (fixed (seen c.args.object.now)) (sym c.in-None.ensures.bytes)))
