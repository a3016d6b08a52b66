use Rattle.vt_server.proofs.lemmas.frame.PreparationAfterTimeouts.{prepared-tp, prepared-etp}
use Rattle.vt_server.proofs.terminal.Terminal.prepare.Goals as goal

pub returns-in_ok-upload-in-Tp-clause-ok : goal.returns-in_ok-upload-in-Tp-clause-ok
returns-in_ok-upload-in-Tp-clause-ok c =
    prepared-tp c.args.self.now c.prepare_tp.new.self c.prepare_announced.new.self c.args.now c.source-source.result c.args.meaning.now c.args.frame.now c.in_ok-completed-in-Tp.completed
    c.in_ok-upload-in-Tp.upload c.in_ok-upload-in-Tp.ensures.same c.in_ok-upload-in-Tp.ensures.reserved c.source-source.ensures c.in_ok-upload-in-Tp.ensures.ready
    c.in-Tp.is c.in_ok-completed-in-Tp.ensures.same c.in_ok-completed-in-Tp.ensures.ready c.in_ok-completed-in-Tp.ensures.completed

pub returns-in_ok-upload-in-Etp-clause-ok : goal.returns-in_ok-upload-in-Etp-clause-ok
returns-in_ok-upload-in-Etp-clause-ok c =
    prepared-etp c.args.self.now c.prepare_etp.new.self c.prepare_announced-in-Etp.new.self c.args.now c.source-source.result c.args.meaning.now c.args.frame.now c.in_ok-completed-in-Etp.completed
    c.in_ok-upload-in-Etp.upload c.in_ok-upload-in-Etp.ensures.same c.in_ok-upload-in-Etp.ensures.reserved c.source-source.ensures c.in_ok-upload-in-Etp.ensures.ready
    c.in-Etp.is c.in_ok-completed-in-Etp.ensures.same c.in_ok-completed-in-Etp.ensures.ready c.in_ok-completed-in-Etp.ensures.completed
