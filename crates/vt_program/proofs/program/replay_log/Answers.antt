use Rattle.vt_server.specs.States.{state_of}
use Rattle.vt_program.proofs.Loading.{new_is}
use Rattle.vt_program.proofs.program.replay_log.Goals as goal

pub replay_on-result-requires-clause-fresh : goal.replay_on-result-requires-clause-fresh
replay_on-result-requires-clause-fresh g c =
    let options = c.args.options.now in
    let new = c.new-terminal.ensures in
    new_is (state_of c.new-terminal.result) options.own options.name new.claims new.profile new.sets new.places new.selected new.shown new.lost new.now
