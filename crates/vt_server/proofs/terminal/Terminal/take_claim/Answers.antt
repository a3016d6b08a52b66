use Rattle.std.proofs.Common.{◌≡◌, ℕ, Some, sym, ap, ◌∙◌}
use Rattle.vt_server.specs.state.AddressStates.{AddressState}
use Rattle.vt_server.specs.States.{state_of, places_by}
use Rattle.vt_server.specs.Steps.{before, changes}
use Rattle.vt_server.specs.Terminals.{after_acts}
use Rattle.vt_server.specs.state.PoolTables.{content_of}
use Rattle.vt_node.specs.Watches.{heard_of}
use Rattle.vt_node.specs.declared.bus.FrameMeaning.TheVariants.{Claim}
use Rattle.vt_server.proofs.lemmas.frame.ClaimEffect.{after-changes, acted-own, acted-other, sent-nothing, sent-defence}
use Rattle.vt_server.proofs.lemmas.state.WritesByAddress.{heard-placed}
use Rattle.vt_server.proofs.terminal.Terminal.take_claim.Goals as goal
use Rattle.vt_server.proofs.terminal.Terminal.take_claim.Goals.{then-former, else-former}

pub returns-then-source-own-clause-takes : goal.returns-then-source-own-clause-takes
returns-then-source-own-clause-takes c s name frame verdict from former defended is =
    let f = c.args.former.now in
    let t = c.rebind.new.self in
    let v = state_of t in
    let changed : v ≡ after_acts (before s c.args.source (Claim name)) (changes s c.args.source (Claim name)) =
    after-changes s (state_of c.args.self.now) (state_of c.rebind_former.new.self) v c.args.source name f.address f.address_holder f.holder
    is former.address former.address_holder former.holder c.rebind_former.ensures c.rebind.ensures in (
      acted-other s v c.args.source name frame verdict changed
          (record v { sets = c.note_frame.new.self.sets; places = places_by (content_of t.contents) t.node (heard_of c.note_frame.new.self.watch) }) (state_of c.bind.new.self)
          (λ e. c.if-source-own.true (e ∙ sym c.own.ensures))
          ((λ i. record v { sets = c.note_frame.ensures.sets i; places = places_by (content_of t.contents) t.node (c.note_frame.ensures.heard i) })
          ∙ ap (λ (places : ℕ → AddressState). record v { places = places }) (heard-placed (content_of t.contents) t.node (heard_of t.registry.watch) c.args.source (Some t.time)))
          c.bind.ensures,
      elim c.if-former.branch [
        | then-former w ↦ ap (λ outputs. outputs.items) w.outputs-is ∙ sent-defence s c.args.source name frame verdict f.is_defended defended (state_of c.args.self.now) w.claim.result c.args.outputs.now.items w.send.new.outputs.items is w.claim.ensures w.if-former.true w.send.ensures.items
        | else-former w ↦ ap (λ outputs. outputs.items) w.outputs-is ∙ sent-nothing s c.args.source name frame verdict f.is_defended defended c.args.outputs.now.items w.if-former.false
      ],
    )

pub returns-else-source-own-clause-takes : goal.returns-else-source-own-clause-takes
returns-else-source-own-clause-takes c s name frame verdict from former defended is =
    let f = c.args.former.now in
    let v = state_of c.rebind.new.self in
    let changed : v ≡ after_acts (before s c.args.source (Claim name)) (changes s c.args.source (Claim name)) =
    after-changes s (state_of c.args.self.now) (state_of c.rebind_former.new.self) v c.args.source name f.address f.address_holder f.holder
    is former.address former.address_holder former.holder c.rebind_former.ensures c.rebind.ensures in (
      acted-own s v c.args.source name frame verdict changed (c.if-source-own.false ∙ c.own.ensures),
      elim c.if-former.branch [
        | then-former w ↦ ap (λ outputs. outputs.items) w.outputs-is ∙ sent-defence s c.args.source name frame verdict f.is_defended defended (state_of c.args.self.now) w.claim.result c.args.outputs.now.items w.send.new.outputs.items is w.claim.ensures w.if-former.true w.send.ensures.items
        | else-former w ↦ ap (λ outputs. outputs.items) w.outputs-is ∙ sent-nothing s c.args.source name frame verdict f.is_defended defended c.args.outputs.now.items w.if-former.false
      ],
    )
