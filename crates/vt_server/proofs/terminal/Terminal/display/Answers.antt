use Rattle.std.proofs.Common.{sym, ◌∙◌}
use Rattle.vt_server.specs.shown.ShownSet.{display}
use Rattle.vt_server.specs.States.{state_of}
use Rattle.vt_server.specs.Terminals.{pool_of}
use Rattle.vt_server.proofs.lemmas.shown.EventsOfChange.{shown-none, shown-some}
use Rattle.vt_server.proofs.terminal.Terminal.display.Goals as goal

pub returns-in-None : goal.returns-in-None
unfolding display
returns-in-None c =
    sym (shown-none (pool_of (state_of c.args.self.now)) c.args.self.now.shown c.in-None.ensures)

pub returns-in-Some : goal.returns-in-Some
unfolding display
returns-in-Some c =
    (λ i. record { address = c.in-Some.address; mask = c.active_mask.ensures.active i; soft_keys = c.soft_key_mask.ensures.active i })
    ∙ sym (shown-some (pool_of (state_of c.args.self.now)) c.args.self.now.shown c.in-Some.address c.in-Some.live.now c.in-Some.ensures)
