use Rattle.std.proofs.Common.{◌≡◌, Option, IfSome, refl, subst, ap, ◌∙◌}
use Rattle.vt_stores.specs.Stores.{Objects, ObjectMap, map_of}
use Rattle.vt_verify.specs.Rules.{IsVerified, IsRefused}
use Rattle.vt_chains.specs.Limits.{terminal}
use Rattle.vt_verify.specs.Updates.{updated}
use Rattle.vt_machine.specs.Replacements.{AreReplacements}
use Rattle.vt_server.specs.message.Verdicts.{Accepts, Refuses}
use Rattle.vt_server.specs.declared.upload_end.BrokenRule.{BrokenRule}
use Rattle.vt_server.specs.declared.upload_end.UploadEnd.TheVariants as ends
use Rattle.vt_server.proofs.message.end_of_pool.judge_update.Goals as goal

pub returns-in-Some : goal.returns-in-Some
returns-in-Some c bytes is =
    let pool = c.args.read.now in
    let store = c.args.live.now.objects in
    let replacement = c.in-Some.replacement in
    let found = c.in_ok-replacement.ensures in
    let same : replacement ≡ pool = subst (λ (o : Option Objects). IfSome o (λ r. r ≡ pool)) c.in-Some.is found.objects in
    record {
      verdict = Accepts (map_of (updated store replacement));
      right = record {
        pool = pool;
        read = is;
        verified = subst (λ (es : Objects). IsVerified (updated store es)) same
            (subst (λ (o : Option Objects). IfSome o (λ r. IsVerified (updated store r))) c.in-Some.is found.verified);
        objects_are = ap (λ (es : Objects). map_of (updated store es)) same;
      };
      carried_out = (subst (λ (o : Option Objects). IfSome o (AreReplacements store)) c.in-Some.is found.fits, refl);
    }

pub returns-in_ok-pool-in-Ok : goal.returns-in_ok-pool-in-Ok
returns-in_ok-pool-in-Ok c bytes is =
    let pool = c.args.read.now in
    let store : map_of c.store.result.now ≡ c.args.live.now.objects = c.store.ensures.objects in record {
      verdict = Accepts (map_of c.in-Ok.accepted);
      right = record {
        pool = pool;
        read = is;
        verified = subst (λ (o : ObjectMap). IsVerified (updated o pool)) store (subst IsVerified c.in-Ok.ensures.accepted.0 c.in-Ok.ensures.verified);
        objects_are = ap map_of c.in-Ok.ensures.accepted.0 ∙ ap (λ (o : ObjectMap). map_of (updated o pool)) store;
      };
      carried_out = c.in_ok-pool-in-Ok.ensures.ok ∙ c.in_ok-live-in-Ok.ensures;
    }

pub returns-in_ok-reply-in-Err : goal.returns-in_ok-reply-in-Err
returns-in_ok-reply-in-Err c bytes is =
    let pool = c.args.read.now in
    let store : map_of c.store.result.now ≡ c.args.live.now.objects = c.store.ensures.objects in record {
      verdict = Refuses c.in-Err.refusal;
      right = record {
        pool = pool;
        read = is;
        refused = subst (λ (o : ObjectMap). IsRefused terminal (updated o pool) c.in-Err.refusal) store c.in-Err.ensures.refused;
        named = c.in_ok-reply-in-Err.ensures.named;
      };
      carried_out = (c.in_ok-reply-in-Err.ensures.reply, ap (λ (rule : BrokenRule). ends.Refused rule) c.of.ensures);
    }
