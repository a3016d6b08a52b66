use Rattle.std.proofs.Common.{ℕ, [], ◌∷◌, ◌++◌, ap, ◌∙◌}
use Rattle.vt_can.specs.Assigned.{NULL_ADDRESS}
use Rattle.vt_can.specs.declared.frames.frame.Frame.{Frame}
use Rattle.vt_node.specs.Messages.{claim_from}
use Rattle.vt_server.specs.declared.output.Output.TheVariants as declared
use Rattle.vt_server.proofs.terminal.Terminal.lose.Goals as goal

pub returns-clause-sent : goal.returns-clause-sent
returns-clause-sent c =
    c.send.ensures.items
    ∙ ap (λ (f : Frame). c.args.outputs.now.items ++ declared.Frame f ∷ []) (c.claim_from.ensures ∙ ap (λ (n : ℕ). claim_from NULL_ADDRESS n) c.name.ensures)
