use Rattle.std.proofs.Common.{sym, ◌∙◌}
use Rattle.vt_server.specs.States.{state_of}
use Rattle.vt_server.proofs.lemmas.frame.ClaimEffect.{some-name, no-name, bind-none, bind-named, bind-unheld, bind-held}
use Rattle.vt_server.proofs.lemmas.timeouts.FirstSilentSet.{registry-state}
use Rattle.vt_server.proofs.terminal.Terminal.bind.Goals as goal

pub returns-in_default : goal.returns-in_default
returns-in_default c = bind-none (state_of c.args.self.now) c.args.address c.in_default.ensures

pub returns-then-is_some : goal.returns-then-is_some
returns-then-is_some c =
    let named = some-name c.name.result c.if-is_some.ensures in
    bind-named (state_of c.args.self.now) c.args.address c.in-Some.set.now named.0 c.in-Some.ensures (sym c.name.ensures ∙ named.1)

pub returns-in-Some-holder : goal.returns-in-Some-holder
returns-in-Some-holder c =
    registry-state c.args.self.now c.bind.new.self c.bind.ensures.watch
    ∙ bind-held (state_of c.args.self.now) c.args.address c.in-Some.set.now c.in-Some-holder.holder c.bind.new.self.sets
    c.in-Some.ensures (sym c.name.ensures ∙ no-name c.name.result c.if-is_some.ensures) c.in-Some-holder.ensures c.bind.ensures.sets

pub returns-in_default-holder : goal.returns-in_default-holder
returns-in_default-holder c =
    bind-unheld (state_of c.args.self.now) c.args.address c.in-Some.set.now
    c.in-Some.ensures (sym c.name.ensures ∙ no-name c.name.result c.if-is_some.ensures) c.in_default-holder.ensures
