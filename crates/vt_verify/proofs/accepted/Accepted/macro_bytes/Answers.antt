use Rattle.std.proofs.Common.{ℕ, map, Some, None, refl, sym, ap, ap₂, ◌∙◌}
use Rattle.std.proofs.lemmas.List.{append-nil}
use Rattle.vt_commands.specs.declared.command.Command.{Command}
use Rattle.vt_commands.specs.Pieces.{cut_within}
use Rattle.vt_stores.specs.Stores.{Objects}
use Rattle.vt_stores.specs.Shapes.{shape_of}
use Rattle.vt_verify.specs.Macros.{cut_or_none, commands_of, commands}
use Rattle.vt_verify.proofs.lemmas.graphs.EventGroups.{whole_bytes, allowed_pieces, pieces_read, commands_found}
use Rattle.vt_verify.proofs.accepted.Accepted.macro_bytes.Goals as goal

pub returns-in-Some-clause-whole : goal.returns-in-Some-clause-whole
returns-in-Some-clause-whole c =
    whole_bytes (shape_of c.self.inside.objects) c.from_raw.result (Some c.in-Some.bytes.now) c.in-Some.bytes.now c.self.invariant.1.macros_whole c.in-Some.ensures refl

pub returns-in-Some-clause-commands : goal.returns-in-Some-clause-commands
unfolding commands_of
returns-in-Some-clause-commands c =
    let shape = shape_of c.self.inside.objects in
    let bytes = c.in-Some.bytes.now in
    pieces_read c.from_raw.result 0 (cut_or_none bytes) (allowed_pieces shape c.from_raw.result (Some bytes) bytes c.self.invariant.1.commands_allowed c.in-Some.ensures refl)
    ∙ ap (map (λ (c : Command). Some c)) (sym (append-nil (commands_of bytes)) ∙ commands_found shape c.from_raw.result (Some bytes) c.in-Some.ensures)
    ∙ ap₂ (λ (objects : Objects) (id : ℕ). map (λ (c : Command). Some c) (commands (shape_of objects) id)) c.self.view_is (c.from_raw.ensures ∙ c.from.ensures)

pub returns-in-None-clause-whole : goal.returns-in-None-clause-whole
unfolding cut_within
returns-in-None-clause-whole c = refl

pub returns-in-None-clause-commands : goal.returns-in-None-clause-commands
unfolding cut_or_none cut_within
returns-in-None-clause-commands c =
    ap (map (λ (c : Command). Some c)) (commands_found (shape_of c.self.inside.objects) c.from_raw.result None c.in-None.ensures)
    ∙ ap₂ (λ (objects : Objects) (id : ℕ). map (λ (c : Command). Some c) (commands (shape_of objects) id)) c.self.view_is (c.from_raw.ensures ∙ c.from.ensures)
