use Rattle.std.proofs.Common.{refl}
use Rattle.vt_server.specs.message.Verdicts.{Faulty}
use Rattle.vt_server.proofs.message.end_of_pool.judge.Goals as goal

pub returns-in-Err : goal.returns-in-Err
returns-in-Err c = record {
  verdict = Faulty c.in-Err.fault;
  right = record { faulty = c.in-Err.ensures.fault; named = c.in_ok-reply-in-Err.ensures.named };
  carried_out = (c.in_ok-reply-in-Err.ensures.reply, refl);
}
