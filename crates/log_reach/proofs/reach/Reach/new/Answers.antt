use Rattle.vt_server.specs.States.{state_of}
use Rattle.log_reach.proofs.ShownMask.{shows_alone}
use Rattle.log_reach.proofs.reach.Reach.new.Goals as goal

pub returns : goal.returns
returns c = shows_alone c.new-shown_masks.result c.note.new.self (state_of c.args.terminal.now) c.new-shown_masks.ensures c.in_ok-note.ensures
