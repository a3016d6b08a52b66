use Rattle.std.proofs.Common.{◌++◌, ap, sym, ◌∙◌}
use Rattle.std.proofs.lemmas.List.{append-nil}
use Rattle.std.specs.List.{flat_map}
use Rattle.vt_kinds.specs.Records.{seen}
use Rattle.vt_stores.specs.Shapes.{shape_of, fixed}
use Rattle.check_inspect.specs.Findings.{piece_findings}
use Rattle.check_inspect.proofs.lemmas.Commands.{no_pieces}
use Rattle.check_inspect.proofs.macros.put_commands_of.Goals as goal

pub returns-in-None : goal.returns-in-None
returns-in-None c =
    sym (append-nil c.args.findings.now.items)
    ∙ ap (λ l. c.args.findings.now.items ++ l)
    (ap (flat_map (piece_findings c.args.rule (shape_of c.args.objects.now))) (sym (no_pieces c.args.id (fixed (seen c.args.object.now)) (sym c.in-None.ensures.bytes))))
