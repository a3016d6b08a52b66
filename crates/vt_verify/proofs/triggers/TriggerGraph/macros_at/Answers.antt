use Rattle.std.proofs.Common.{ℕ, Option, sym, ap, ◌∙◌}
use Rattle.std.proofs.lemmas.List.{append-nil}
use Rattle.std.specs.Option.{option_to_list}
use Rattle.std.specs.List.{flat_map}
use Rattle.vt_rank.specs.Graphs.{group_of}
use Rattle.vt_verify.specs.Triggers.{listing}
use Rattle.vt_verify.proofs.lemmas.graphs.SameTriggers.{group_listed}
use Rattle.vt_verify.proofs.triggers.TriggerGraph.macros_at.Goals as goal

pub returns-in-Some : goal.returns-in-Some
returns-in-Some c = λ shape are.
    let g = c.args.self.now.graph in
    c.group.ensures ∙ sym (append-nil (group_of g c.in-Some.group))
    ∙ ap (λ (o : Option ℕ). flat_map (group_of g) (option_to_list o)) (sym c.in-Some.is ∙ c.group_of.ensures)
    ∙ group_listed shape c.args.self.now.events.keys g are (listing c.args.id c.args.event)

pub returns-in-None : goal.returns-in-None
returns-in-None c = λ shape are.
    let g = c.args.self.now.graph in
    ap (λ (o : Option ℕ). flat_map (group_of g) (option_to_list o)) (sym c.in-None.is ∙ c.group_of.ensures)
    ∙ group_listed shape c.args.self.now.events.keys g are (listing c.args.id c.args.event)
