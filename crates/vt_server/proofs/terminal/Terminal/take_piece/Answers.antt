use Rattle.std.proofs.Common.{drop, refl, sym}
use Rattle.vt_server.specs.state.AddressStates.{with_piece}
use Rattle.vt_server.specs.States.{state_of}
use Rattle.vt_server.specs.state.PoolTables.{content_of}
use Rattle.vt_server.proofs.lemmas.message.EffectsAndReplies.{answers-none}
use Rattle.vt_server.proofs.lemmas.frame.FrameEffect.{any_verdict}
use Rattle.vt_server.proofs.lemmas.shown.SameScreen.{same-pool}
use Rattle.vt_server.proofs.lemmas.message.MessageCalls.{contents-state, piece-answered}
use Rattle.vt_server.proofs.terminal.Terminal.take_piece.Goals as goal

pub returns-then-registered-clause-answers : goal.returns-then-registered-clause-answers
returns-then-registered-clause-answers c =
    let t = c.args.self.now in
    let a = c.args.source in
    piece-answered (state_of t) a c.args.piece.items c.if-registered.ensures (state_of (record t { contents = c.feed.new.self }))
    (c.requires (sym c.if-registered.ensures)).0
    (contents-state t c.feed.new.self a (with_piece (content_of t.contents a) (drop 1 c.args.piece.items)) c.feed.ensures)

pub returns-else-registered-clause-answers : goal.returns-else-registered-clause-answers
returns-else-registered-clause-answers c = answers-none (state_of c.args.self.now) c.args.source c.args.piece.items any_verdict c.if-registered.ensures

pub returns-then-registered-clause-tells : goal.returns-then-registered-clause-tells
returns-then-registered-clause-tells c none =
    let t = c.args.self.now in
    let a = c.args.source in
    (none, same-pool t c.feed.new.self a (with_piece (content_of t.contents a) (drop 1 c.args.piece.items)) c.feed.ensures refl)
