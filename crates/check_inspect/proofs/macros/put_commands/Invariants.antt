use Rattle.std.proofs.Common.{◌≡◌, ℕ, ◌++◌, map, drop}
use Rattle.std.specs.List.{flat_map}
use Rattle.vt_kinds.specs.Records.{Seen}
use Rattle.vt_stores.specs.Stores.{seen_entry}
use Rattle.vt_stores.specs.Shapes.{shape_of, fixed}
use Rattle.vt_verify.specs.Macros.{named_macro, pieces_of}
use Rattle.check_inspect.specs.Findings.{piece_findings, command_rule_findings}
use Rattle.check_inspect.proofs.macros.put_commands.Given as goal

abbrev pub invariant-loop-id : goal.invariant-loop-id
invariant-loop-id l =
    (map seen_entry l.id-items ≡ l.objects)
    × (l.findings.items ++ flat_map (λ e. (λ (o : ℕ × Seen). flat_map (piece_findings l.rule (shape_of l.objects)) (flat_map pieces_of (named_macro (o.0, fixed o.1)))) (seen_entry e)) (drop l.id-index l.id-items) ≡ l.fn.findings.items ++ command_rule_findings l.rule (shape_of l.objects))
