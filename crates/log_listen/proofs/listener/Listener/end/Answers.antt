use Rattle.std.proofs.Common.{None, Some}
use Rattle.log_listen.specs.declared.part.Part.TheVariants.{Abort}
use Rattle.log_listen.specs.Steps.{channel_between}
use Rattle.log_listen.proofs.Entries.{without, standing, aborted, stays_open, still_without, abort_is_no_request}
use Rattle.log_listen.proofs.Maps.{found, removed, put_again, takes_only}
use Rattle.log_listen.proofs.listener.Listener.end.Goals as goal

pub returns-in_ok-push-clause-heard : goal.returns-in_ok-push-clause-heard
returns-in_ok-push-clause-heard c =
    let own = channel_between c.args.ends in
    let old = c.args.self.now.transfers in
    takes_only own (Abort c.args.pgn) old c.remove.new.self None (removed c.channel.result own old c.remove.new.self c.channel.ensures c.remove.ensures.updates)
    (λ parts has. without _ (aborted parts c.args.pgn c.in-Some.transfer c.if-transfer-pgn.true
    (has.stands c.in-Some.transfer (found c.channel.result own old c.remove.result _ c.channel.ensures c.remove.ensures.value c.in-Some.is))))

pub returns-in_ok-insert-clause-heard : goal.returns-in_ok-insert-clause-heard
returns-in_ok-insert-clause-heard c =
    let own = channel_between c.args.ends in
    let old = c.args.self.now.transfers in
    takes_only own (Abort c.args.pgn) old c.insert.new.self (Some c.in-Some.transfer)
    (put_again c.channel.result c.channel-else-transfer-pgn.result own c.in-Some.transfer old c.remove.new.self c.insert.new.self c.channel.ensures c.channel-else-transfer-pgn.ensures
    c.remove.ensures.updates c.in_ok-insert.ensures.updates)
    (λ parts has. standing _ c.in-Some.transfer (stays_open parts c.args.pgn c.in-Some.transfer c.if-transfer-pgn.false
    (has.stands c.in-Some.transfer (found c.channel.result own old c.remove.result _ c.channel.ensures c.remove.ensures.value c.in-Some.is))))

pub returns-in_default-clause-heard : goal.returns-in_default-clause-heard
returns-in_default-clause-heard c =
    let own = channel_between c.args.ends in
    let old = c.args.self.now.transfers in
    takes_only own (Abort c.args.pgn) old c.remove.new.self None (removed c.channel.result own old c.remove.new.self c.channel.ensures c.remove.ensures.updates)
    (λ parts has. still_without (Abort c.args.pgn) parts _ (abort_is_no_request c.args.pgn)
    (found c.channel.result own old c.remove.result _ c.channel.ensures c.remove.ensures.value c.in_default.is) has)
