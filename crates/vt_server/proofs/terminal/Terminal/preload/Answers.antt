use Rattle.std.proofs.Common.{ℕ, refl, ap, ◌∙◌}
use Rattle.vt_stores.specs.Stores.{map_of}
use Rattle.vt_server.specs.shown.ShownSet.{choosing}
use Rattle.vt_server.specs.state.AddressStates.{AddressState}
use Rattle.vt_server.specs.States.{state_of, places_by}
use Rattle.vt_server.specs.state.PoolTables.{content_of}
use Rattle.vt_node.specs.Watches.{heard_of}
use Rattle.vt_server.proofs.lemmas.state.StateAfterPreload.{preloaded-state}
use Rattle.vt_server.proofs.terminal.Terminal.preload.Goals as goal

pub returns-clause-ok : goal.returns-clause-ok
returns-clause-ok c =
    let t = c.args.self.now in
    let s = state_of t in
    c.choose.ensures.state
    ∙ ap choosing
    (ap (λ (places : ℕ → AddressState). record s { sets = c.preload.new.self.sets; places = places })
    (λ i. places_by (c.put.ensures i) t.node (c.in_ok-preload.ensures.heard i))
    ∙ preloaded-state (content_of t.contents) t.node (heard_of t.registry.watch) c.args.address (map_of c.args.pool.now) c.new-held.result (c.new-held.ensures ∙ c.in_ok-boxed.ensures.ok ∙ c.in_ok-live.ensures)
    s c.preload.new.self.sets refl c.in_ok-preload.ensures.sets)
