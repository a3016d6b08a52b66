use Rattle.std.proofs.Common.{rules}
use Rattle.vt_server.specs.States.{state_of}
use Rattle.vt_program.proofs.Loading.{loaded_with}
use Rattle.vt_program.proofs.program.load.Goals as goal

pub returns : goal.returns
returns g c = record {
  set = loaded_with (g.F.Open.file c.args.files.now) c.args.preload.now (state_of c.args.terminal.now) (state_of c.preload.new.self) c.in_ok-pool.pool
      c.in_ok-pool.ensures.pool (search rules) c.in_ok-pool.ensures.rising c.in_ok-preload.ensures.ok;
  fault = tt;
  stay = c.in_ok-pool.ensures.stay;
}
