use Rattle.std.proofs.Common.{◌≡◌, None, Some, refl, arith}
use Rattle.log_listen.specs.declared.part.Part.TheVariants.{Request}
use Rattle.log_listen.specs.Steps.{channel_between}
use Rattle.log_listen.proofs.Entries.{standing, without, no_message, opened_as}
use Rattle.log_listen.proofs.Maps.{removed, put_again, takes_between}
use Rattle.log_listen.proofs.listener.Listener.open.Goals as goal

pub returns-in_ok-insert-clause-heard : goal.returns-in_ok-insert-clause-heard
returns-in_ok-insert-clause-heard c =
    let own = channel_between c.args.ends in
    let old = c.args.self.now.transfers in
    let new = c.new-transfer.result in
    takes_between c.args.ends (Request c.args.size c.args.pgn) old c.insert.new.self (Some new) refl refl
    (put_again c.channel.result c.channel-then-size-gt0.result own new old c.remove.new.self c.insert.new.self c.channel.ensures
    c.channel-then-size-gt0.ensures c.remove.ensures.updates c.in_ok-insert.ensures.updates)
    (λ parts has. standing _ new (opened_as parts c.args.size c.args.pgn new c.if-size-gt0.true c.new-transfer.ensures.size c.new-transfer.ensures.pgn c.new-transfer.ensures.packets c.new-transfer.ensures.missing))

pub returns-else-size-gt0-clause-heard : goal.returns-else-size-gt0-clause-heard
returns-else-size-gt0-clause-heard c =
    let own = channel_between c.args.ends in
    let old = c.args.self.now.transfers in
    let none : c.args.size ≡ 0 = omega (arith, c.if-size-gt0.false) in
    takes_between c.args.ends (Request c.args.size c.args.pgn) old c.remove.new.self None refl refl
    (removed c.channel.result own old c.remove.new.self c.channel.ensures c.remove.ensures.updates)
    (λ parts has. without _ (no_message parts c.args.size c.args.pgn none))
