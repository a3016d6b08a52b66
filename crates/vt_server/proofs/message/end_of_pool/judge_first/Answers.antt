use Rattle.std.proofs.Common.{subst, ap, ◌∙◌}
use Rattle.vt_stores.specs.Stores.{map_of}
use Rattle.vt_verify.specs.Rules.{IsVerified}
use Rattle.vt_server.specs.message.Verdicts.{Accepts, Refuses}
use Rattle.vt_server.specs.declared.upload_end.BrokenRule.{BrokenRule}
use Rattle.vt_server.specs.declared.upload_end.UploadEnd.TheVariants as ends
use Rattle.vt_server.proofs.message.end_of_pool.judge_first.Goals as goal

pub returns-in_ok-pool-in-Ok : goal.returns-in_ok-pool-in-Ok
returns-in_ok-pool-in-Ok c bytes is = record {
  verdict = Accepts (map_of c.in-Ok.accepted);
  right = record {
    pool = c.args.read;
    read = is;
    verified = subst IsVerified c.in-Ok.ensures.accepted.0 c.in-Ok.ensures.verified;
    objects_are = ap map_of c.in-Ok.ensures.accepted.0;
  };
  carried_out = c.in_ok-pool-in-Ok.ensures.ok ∙ c.in_ok-live-in-Ok.ensures;
}

pub returns-in_ok-reply-in-Err : goal.returns-in_ok-reply-in-Err
returns-in_ok-reply-in-Err c bytes is = record {
  verdict = Refuses c.in-Err.refusal;
  right = record {
    pool = c.args.read;
    read = is;
    refused = c.in-Err.ensures.refused;
    named = c.in_ok-reply-in-Err.ensures.named;
  };
  carried_out = (c.in_ok-reply-in-Err.ensures.reply, ap (λ (rule : BrokenRule). ends.Refused rule) c.of.ensures);
}
