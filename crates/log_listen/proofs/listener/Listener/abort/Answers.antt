use Rattle.std.proofs.Common.{Some, None, cond, eqb, sym, subst}
use Rattle.log_listen.specs.declared.part.Part.TheVariants.{Abort}
use Rattle.log_listen.specs.declared.listener.Ends.{Ends}
use Rattle.log_listen.specs.declared.listener.Listener.{Listener}
use Rattle.log_listen.specs.Channels.{sent}
use Rattle.log_listen.specs.Steps.{channel_between, said_only}
use Rattle.log_listen.proofs.Maps.{Takes, takes_abort, takes_sent_abort, takes_no_abort}
use Rattle.log_listen.proofs.listener.Listener.abort.Goals as goal
use Rattle.log_listen.proofs.listener.Listener.abort.Goals.{then-pgn-ne-VT_TO_ECU+in_ok-end, else-pgn-ne-VT_TO_ECU}

pub returns-in_ok-end-2-clause-heard : goal.returns-in_ok-end-2-clause-heard
returns-in_ok-end-2-clause-heard c =
    let own = channel_between c.args.ends in
    let old = c.args.self.now.transfers in
    let between = c.if-pgn-ne-VT_TO_ECU.self.transfers in
    let new = c.end-then-ends.new.self.transfers in
    let P = λ (l : Listener). Takes (λ channel. cond (eqb channel own) (sent (Some (Abort c.args.pgn))) None) old l.transfers in
    let Q = λ (ends : Ends). Takes (said_only (channel_between ends) (Abort c.args.pgn)) between new in
    takes_abort c.args.ends c.args.pgn c.if-ends.true old between new
    (elim c.if-pgn-ne-VT_TO_ECU.branch [
      | then-pgn-ne-VT_TO_ECU+in_ok-end w ↦
          subst P (sym w.self-is) (takes_sent_abort own c.args.pgn w.if-pgn-ne-VT_TO_ECU.true old w.end.new.self.transfers w.in_ok-end.ensures.heard)
      | else-pgn-ne-VT_TO_ECU w ↦ subst P (sym w.self-is) (takes_no_abort own c.args.pgn w.if-pgn-ne-VT_TO_ECU.false old)
    ])
    (subst Q c.swapped.ensures c.in_ok-end-2.ensures.heard)
