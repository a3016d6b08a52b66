use Rattle.std.proofs.Common.{◌≡◌, ◌||◌, List, map, Some, sym, ap, ◌∙◌}
use Rattle.std.specs.List.{flat_map}
use Rattle.std.specs.Option.{option_map}
use Rattle.vt_commands.specs.declared.command.Command.{Command}
use Rattle.vt_kinds.specs.Records.{seen}
use Rattle.vt_stores.specs.Shapes.{shape_of, fixed}
use Rattle.vt_verify.specs.Macros.{macro_bytes_in}
use Rattle.vt_verify.specs.Targets.{target_references}
use Rattle.check_needs.specs.Naming.{has, is_among}
use Rattle.check_needs.proofs.lemmas.NamedIds.{commands_in_bytes, cut_short, or_none}
use Rattle.check_needs.proofs.naming.put_commands.Goals as goal

pub returns-in-Some : goal.returns-in-Some
returns-in-Some c = λ other.
    let f = fixed (seen c.args.object.now) in
    let list = target_references (shape_of c.args.objects.now) c.args.id in
    let is : macro_bytes_in c.args.id f ≡ Some c.in-Some.bytes.now = sym c.named_macro.ensures ∙ ap (option_map (λ b. b.now)) c.in-Some.is in
    c.put_pieces.ensures c.args.id other
    ∙ ap (λ (cs : List Command). has c.args.set.now other || is_among other (map (λ r. r.id) (flat_map list cs))) (sym (commands_in_bytes c.args.id f c.in-Some.bytes.now is))

pub returns-else-is_whole : goal.returns-else-is_whole
returns-else-is_whole c = λ other.
    let f = fixed (seen c.args.object.now) in
    let list = target_references (shape_of c.args.objects.now) c.args.id in
    let is : macro_bytes_in c.args.id f ≡ Some c.in-Some.bytes.now = sym c.named_macro.ensures ∙ ap (option_map (λ b. b.now)) c.in-Some.is in
    sym (ap (λ (cs : List Command). has c.args.set.now other || is_among other (map (λ r. r.id) (flat_map list cs)))
    (commands_in_bytes c.args.id f c.in-Some.bytes.now is ∙ cut_short c.in-Some.bytes.now (sym c.is_whole.ensures ∙ c.if-is_whole.false))
    ∙ or_none (has c.args.set.now other))
