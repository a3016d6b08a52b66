use Rattle.std.proofs.Common.{rules}
use Rattle.vt_program.proofs.Loading.{accepted_pool, refused_pool, rising}
use Rattle.vt_program.proofs.program.accepted.Goals as goal

pub returns-in-Ok-clause-pool : goal.returns-in-Ok-clause-pool
returns-in-Ok-clause-pool c = accepted_pool c.args.bytes.now c.in-Ok.accepted c.in-Ok.ensures.accepted

pub returns-in-Ok-clause-rising : goal.returns-in-Ok-clause-rising
returns-in-Ok-clause-rising c = rising c.args.bytes.now c.in-Ok.accepted c.in-Ok.ensures.accepted

pub returns-in_ok-named-in-Err-Refused : goal.returns-in_ok-named-in-Err-Refused
returns-in_ok-named-in-Err-Refused c = record {
  pool = tt;
  rising = tt;
  fault = refused_pool c.args.bytes.now c.in-Err-Refused.why (rw c.in-Err-Refused.field-0-is at c.in-Err-Refused.ensures.not_accepted) (λ w. search rules);
}
