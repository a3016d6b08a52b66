use Rattle.std.proofs.Common.{◌≡◌, ℕ, refl, ap, ◌∙◌}
use Rattle.vt_names.specs.Claims.{Claimed}
use Rattle.vt_server.specs.shown.ShownSet.{choosing, events_of_change, same_display, status_frame}
use Rattle.vt_server.specs.shown.DisplayValues.{display_value}
use Rattle.vt_server.specs.States.{state_of}
use Rattle.vt_server.specs.Terminals.{State, after_acts}
use Rattle.vt_server.proofs.lemmas.acts.HolderChanges.{claims-acts}
use Rattle.vt_server.proofs.lemmas.shown.EventsOfChange.{not-false, not-true, shown_updated-is, status-none, status-sent}
use Rattle.vt_server.proofs.terminal.Terminal.update_shown.Goals as goal

pub returns-then-ne-clause-state : goal.returns-then-ne-clause-state
returns-then-ne-clause-state c =
    let s = state_of c.args.self.now in
    shown_updated-is s (state_of c.raise_change.new.self) (c.raise_change.ensures.state ∙ ap (λ (t : State). after_acts t (events_of_change s.shown t.shown)) c.choose.ensures.state)

pub returns-else-ne-clause-state : goal.returns-else-ne-clause-state
returns-else-ne-clause-state c =
    let s = state_of c.args.self.now in
    shown_updated-is s (state_of c.raise_change.new.self) (c.raise_change.ensures.state ∙ ap (λ (t : State). after_acts t (events_of_change s.shown t.shown)) c.choose.ensures.state)

pub returns-then-ne-clause-sent : goal.returns-then-ne-clause-sent
returns-then-ne-clause-sent c old first =
    let s = state_of c.args.self.now in
    let own : c.raise_change.new.self.node.claims.own ≡ s.claims.own =
    ap (λ (t : State). t.claims.own) (c.raise_change.ensures.state ∙ ap (λ (t : State). after_acts t (events_of_change s.shown t.shown)) c.choose.ensures.state)
    ∙ ap (λ (k : Claimed). k.own) (claims-acts (choosing s) (events_of_change s.shown (choosing s).shown)) in
    status-sent s (state_of c.raise_change.new.self) (c.raise_change.ensures.state ∙ ap (λ (t : State). after_acts t (events_of_change s.shown t.shown)) c.choose.ensures.state)
    old (display_value c.args.before.now) (display_value c.display-now.result) c.args.outputs.now.items c.send.new.outputs.items first c.display-now.ensures
    c.status_frame.result (not-true (same_display (display_value c.args.before.now) (display_value c.display-now.result)) c.if-ne.ensures)
    (c.status_frame.ensures ∙ ap (λ (own : ℕ). status_frame own (display_value c.display-now.result)) (c.own.ensures ∙ own)) c.send.ensures.items

pub returns-else-ne-clause-sent : goal.returns-else-ne-clause-sent
returns-else-ne-clause-sent c old first =
    let s = state_of c.args.self.now in
    status-none s (state_of c.raise_change.new.self) (c.raise_change.ensures.state ∙ ap (λ (t : State). after_acts t (events_of_change s.shown t.shown)) c.choose.ensures.state)
    old (display_value c.args.before.now) (display_value c.display-now.result) c.args.outputs.now.items c.args.outputs.now.items first c.display-now.ensures
    (not-false (same_display (display_value c.args.before.now) (display_value c.display-now.result)) c.if-ne.ensures) refl
