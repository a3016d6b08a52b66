use Rattle.std.proofs.Common.{ℕ, ◌||◌, List, map, sym, ap, ◌∙◌}
use Rattle.std.proofs.lemmas.List.{map-append}
use Rattle.vt_kinds.specs.declared.entries.MacroEntry.{MacroEntry}
use Rattle.vt_stores.proofs.ObjectShapes.{seen_macros}
use Rattle.vt_kinds.specs.Records.{seen, macros_of}
use Rattle.vt_stores.specs.Shapes.{shape_of, fixed}
use Rattle.vt_verify.specs.Targets.{entry_references, command_references}
use Rattle.check_needs.specs.Naming.{has, is_among, slot_ids}
use Rattle.check_needs.proofs.lemmas.NamedIds.{joined}
use Rattle.check_needs.proofs.naming.put_named.Goals as goal

pub returns : goal.returns
returns c = λ other.
    let entries = entry_references c.args.id (macros_of (seen c.args.object.now)) in
    let commands = command_references (shape_of c.args.objects.now) c.args.id (fixed (seen c.args.object.now)) in
    c.put_commands.ensures other
    ∙ sym (joined (has c.args.set.now other) (has c.put_slots.new.set other) other (slot_ids (seen c.args.object.now)) _ (c.put_slots.ensures other)
    ∙ ap (λ (ids : List ℕ). has c.put_slots.new.set other || is_among other ids) (map-append (λ r. r.id) entries commands)
    ∙ joined (has c.put_slots.new.set other) (has c.put_entries.new.set other) other (map (λ r. r.id) entries) (map (λ r. r.id) commands)
    (c.put_entries.ensures c.args.id other
    ∙ ap (λ (es : List MacroEntry). has c.put_slots.new.set other || is_among other (map (λ r. r.id) (entry_references c.args.id es)))
    (c.macros.ensures ∙ sym (seen_macros c.args.object.now))))
