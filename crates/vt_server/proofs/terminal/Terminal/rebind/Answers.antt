use Rattle.std.proofs.Common.{sym, ap, ◌∙◌, nat_eq}
use Rattle.std.specs.Option.{option_eq}
use Rattle.vt_server.specs.state.AddressViews.{stays_under}
use Rattle.vt_server.specs.state.AddressStates.{no_content}
use Rattle.vt_server.specs.States.{state_of, places_by}
use Rattle.vt_server.specs.state.PoolTables.{content_of}
use Rattle.vt_node.specs.Watches.{heard_of}
use Rattle.vt_server.proofs.lemmas.frame.ClaimEffect.{rebind-none, rebind-kept, rebind-closed}
use Rattle.vt_server.proofs.lemmas.state.WritesByAddress.{content-placed}
use Rattle.vt_server.proofs.terminal.Terminal.rebind.Goals as goal

pub returns-in_default : goal.returns-in_default
returns-in_default c =
    rebind-none (state_of c.args.self.now) c.args.address c.args.was
    (ap (option_eq nat_eq c.args.was) (sym c.holder-holder.ensures) ∙ sym c.if-eq.ensures) c.in_default.ensures

pub returns-then-stays_under : goal.returns-then-stays_under
returns-then-stays_under c =
    rebind-kept (state_of c.args.self.now) c.args.address c.args.was
    (ap (option_eq nat_eq c.args.was) (sym c.holder-holder.ensures) ∙ sym c.if-eq.ensures) c.in-Some.set.now c.in-Some.ensures
    (sym (λ i. stays_under (c.name.ensures i) (c.holder-holder.ensures i)) ∙ sym c.if-stays_under.ensures)

pub returns : goal.returns
returns c =
    let t = c.args.self.now in
    rebind-closed (state_of t) c.args.address c.args.was
    (ap (option_eq nat_eq c.args.was) (sym c.holder-holder.ensures) ∙ sym c.if-eq.ensures) c.in-Some.set.now c.close.new.self.sets
    (places_by (content_of c.remove.new.self) t.node (heard_of c.close.new.self.watch)) c.in-Some.ensures
    (sym (λ i. stays_under (c.name.ensures i) (c.holder-holder.ensures i)) ∙ sym c.if-stays_under.ensures)
    c.close.ensures.sets
    ((λ i. places_by (c.remove.ensures.content i) t.node (heard_of (c.close.ensures.watch i)))
    ∙ content-placed (content_of t.contents) t.node (heard_of t.registry.watch) c.args.address no_content)
