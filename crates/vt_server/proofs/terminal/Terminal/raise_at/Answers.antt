use Rattle.std.proofs.Common.{ℕ, sym, ap, ◌∙◌}
use Rattle.std.specs.Option.{option_map}
use Rattle.vt_server.specs.shown.ShownSet.{raised_at}
use Rattle.vt_server.specs.state.AddressViews.{raised_on}
use Rattle.vt_server.specs.state.AddressStates.{SetPool}
use Rattle.vt_server.specs.States.{state_of, places_by}
use Rattle.vt_server.specs.Terminals.{after_acts}
use Rattle.vt_server.specs.state.PoolTables.{content_of}
use Rattle.vt_node.specs.Watches.{heard_of}
use Rattle.vt_server.proofs.lemmas.shown.EventsOfChange.{raised-place}
use Rattle.vt_server.proofs.lemmas.state.WritesByAddress.{content-placed}
use Rattle.vt_server.proofs.terminal.Terminal.raise_at.Goals as goal

pub returns-in-Some : goal.returns-in-Some
returns-in-Some c =
    let t = c.args.self.now in
    let a = c.in-Some.address in
    let contents : ℕ → SetPool = content_of t.contents in
    raised-place (state_of t) a c.args.event (places_by (content_of c.raise.new.self) t.node (heard_of t.registry.watch))
    (ap (λ (f : ℕ → SetPool). places_by f t.node (heard_of t.registry.watch)) c.raise.ensures
    ∙ content-placed contents t.node (heard_of t.registry.watch) a
    (record (contents a) { pool = option_map (λ state. raised_on state c.args.event) (contents a).pool }))
    ∙ ap (λ o. after_acts (state_of t) (raised_at o c.args.event)) (sym c.in-Some.is)
