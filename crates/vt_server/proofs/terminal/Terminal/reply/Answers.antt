use Rattle.std.proofs.Common.{◌≡◌, ℕ, List, Option, Some, None, sym, ap, subst, ◌∙◌, ◌≢◌, ◌⊎◌, inl, inr, zero, suc, ◌==◌, ◌&&◌, not, Bool, true, false, refl}
use Rattle.std.proofs.lemmas.Option.{same_Some}
use Rattle.vt_server.specs.message.CommandEffects.{content_after}
use Rattle.vt_server.specs.frame.FrameContracts.{IsReplyTo}
use Rattle.vt_server.specs.state.AddressStates.{SetPool}
use Rattle.vt_server.specs.States.{state_of, places_by}
use Rattle.vt_server.specs.state.PoolTables.{content_of}
use Rattle.vt_node.specs.Watches.{heard_of}
use Rattle.vt_server.proofs.lemmas.message.EffectsAndReplies.{is-ignored, is-commanded}
use Rattle.vt_server.proofs.lemmas.shown.SameScreen.{command-same, same-elsewhere, same-look, same-pool}
use Rattle.vt_server.proofs.lemmas.state.WritesByAddress.{content-placed}
use Rattle.vt_server.proofs.terminal.Terminal.reply.Goals as goal
use Rattle.vt_effects.proofs.lemmas.objects.EntryChanges.{either_false}
use Rattle.vt_names.proofs.AddressesAfterClaim.{none-some}

pub returns-in_err-command-clause-replies : goal.returns-in_err-command-clause-replies
returns-in_err-command-clause-replies c =
    let s = state_of c.args.self.now in
    let none : None ≡ c.from_residual.result = cc in
    subst (λ (r : Option (List ℕ)). IsReplyTo s c.args.source c.args.bytes.now r s) none
    (is-ignored s c.args.source c.args.bytes.now c.in_default.ensures c.in_err-command.ensures)

pub returns-in_err-error-clause-replies : goal.returns-in_err-error-clause-replies
returns-in_err-error-clause-replies c =
    let t = c.args.self.now in
    let a = c.args.source in
    let none : None ≡ c.from_residual-in_err-error.result = cc in
    subst (λ (r : Option (List ℕ)). IsReplyTo (state_of t) a c.args.bytes.now r (state_of (record t { contents = c.apply.new.self }))) none
    (is-commanded (state_of t) a c.args.bytes.now c.in_default.ensures c.in_ok-command.command
    (places_by (content_of c.apply.new.self) t.node (heard_of t.registry.watch)) None c.in_ok-command.ensures
    (ap (λ (f : ℕ → SetPool). places_by f t.node (heard_of t.registry.watch)) c.in_err-error.ensures.content
    ∙ content-placed (content_of t.contents) t.node (heard_of t.registry.watch) a (content_after c.in_ok-command.command (content_of t.contents a)))
    c.in_err-error.ensures.error)

pub returns-clause-replies : goal.returns-clause-replies
returns-clause-replies c =
    let t = c.args.self.now in
    let a = c.args.source in
    subst (λ (r : List ℕ). IsReplyTo (state_of t) a c.args.bytes.now (Some r) (state_of (record t { contents = c.apply.new.self }))) (sym c.reply_to.ensures)
    (is-commanded (state_of t) a c.args.bytes.now c.in_default.ensures c.in_ok-command.command
    (places_by (content_of c.apply.new.self) t.node (heard_of t.registry.watch)) (Some c.in_ok-error.error) c.in_ok-command.ensures
    (ap (λ (f : ℕ → SetPool). places_by f t.node (heard_of t.registry.watch)) c.in_ok-error.ensures.content
    ∙ content-placed (content_of t.contents) t.node (heard_of t.registry.watch) a (content_after c.in_ok-command.command (content_of t.contents a)))
    c.in_ok-error.ensures.error)

pub returns-in_err-error-clause-tells : goal.returns-in_err-error-clause-tells
returns-in_err-error-clause-tells c none =
    let t = c.args.self.now in
    let a = c.args.source in
    let command = c.in_ok-command.command in
    let before : SetPool = content_of t.contents a in (
      none,
      same-pool t c.apply.new.self a (content_after command before) c.in_err-error.ensures.content
          (command-same command before (λ h. none-some (c.in_err-error.ensures.error ∙ h))),
    )

-- a command that is not drawn keeps the look, or is not done, or is one of another set
unless-drawn : (kept : Bool) (error : ℕ) (shown : Bool) → (not kept && (error == 0) && shown) ≡ false → (kept ≡ true) ⊎ ((error ≢ 0) ⊎ (shown ≡ false))
unless-drawn true error shown none = inl refl
unless-drawn false zero shown none = inr (inr none)
unless-drawn false (suc error) shown none = inr (inl (λ is. let never : true ≡ false = cc in absurd cc))

pub returns-clause-tells : goal.returns-clause-tells
returns-clause-tells c none =
    let t = c.args.self.now in
    let a = c.args.source in
    let command = c.in_ok-command.command in
    let before : SetPool = content_of t.contents a in
    let redrew = either_false t.redraws c.is_redrawn.result none in (
      redrew.0,
      elim (unless-drawn c.keeps_look-is_kept.result c.in_ok-error.error c.eq.result (sym c.is_redrawn.ensures ∙ redrew.1)) [
        | inl kept ↦ same-look t c.apply.new.self a (content_after command before) c.in_ok-error.ensures.content (c.keeps_look-is_kept.ensures kept)
        | inr other ↦ elim other [
          | inl refused ↦
              same-pool t c.apply.new.self a (content_after command before) c.in_ok-error.ensures.content
              (command-same command before (λ h. refused (same_Some c.in_ok-error.error 0 (c.in_ok-error.ensures.error ∙ h))))
          | inr elsewhere ↦ same-elsewhere t c.apply.new.self a (content_after command before) c.in_ok-error.ensures.content (sym c.eq.ensures ∙ elsewhere)
        ]
      ],
    )
