use Rattle.std.proofs.Common.{◌≡◌, ◌<◌, List, ◌++◌, is_some, true≢false, refl, sym, ap, subst, ◌∙◌, append-nil}
use Rattle.vt_can.specs.frames.Frame.{source_of}
use Rattle.vt_names.specs.Registry.{Set, set_at}
use Rattle.vt_server.specs.frame.FrameContracts.{FitsMeaning, AppliesMeaning}
use Rattle.vt_server.specs.Outputs.{outputs_of}
use Rattle.vt_server.specs.state.AddressStates.{AddressState}
use Rattle.vt_server.specs.States.{state_of}
use Rattle.vt_server.specs.Terminals.{State, Sent}
use Rattle.vt_server.specs.state.PoolTables.{content_of, spare_of}
use Rattle.vt_node.specs.Watches.{heard_of}
use Rattle.vt_node.specs.declared.bus.FrameMeaning.TheVariants as meanings
use Rattle.vt_server.proofs.lemmas.frame.FrameEffect.{takes-echo, takes-heard}
use Rattle.vt_server.proofs.lemmas.frame.FrameStep.{upload-judges, came-reads, defence-none, heard-state}
use Rattle.vt_server.proofs.lemmas.frame.NoRefusalByFrame.{accepted}
use Rattle.vt_server.proofs.terminal.Terminal.take.Goals as goal
use Rattle.vt_server.proofs.terminal.Terminal.take.Goals.{in-ClaimRequest, in_default}

pub returns-then-source-own-clause-takes : goal.returns-then-source-own-clause-takes
returns-then-source-own-clause-takes c =
    let s = state_of c.args.self.now in
    let n = c.args.meaning.now in
    let frame = c.args.frame.now in
    let before = c.args.outputs.now.items in
    let other : n ≡ meanings.ClaimRequest → ⊥ = elim c.match-matches.branch [
      | in-ClaimRequest w ↦ (λ _. true≢false (sym w.matches-is ∙ c.if-matches.false))
      | in_default w ↦ w.in_default.not-ClaimRequest
    ] in
    let judged = upload-judges c.args.self.now n frame c.args.upload c.requires.upload in
    takes-echo s frame n c.requires.no_claim judged.0 before before (sym c.source-source.ensures ∙ c.if-source-own.true ∙ c.own.ensures) judged.1
    (sym (append-nil before) ∙ ap (λ (l : List Sent). before ++ outputs_of l) (sym (defence-none s (source_of frame) n c.requires.no_claim other)))

pub apply_meaning-requires-clause-reserved : goal.apply_meaning-requires-clause-reserved
apply_meaning-requires-clause-reserved c = record {
  tp = c.requires.reserved.tp;
  etp = c.requires.reserved.etp;
  sets = λ count is. subst (λ n. 0 < n) (sym c.note_frame.ensures.capacity) (c.requires.reserved.sets count is);
}

pub apply_meaning-requires-clause-upload : goal.apply_meaning-requires-clause-upload
apply_meaning-requires-clause-upload c some =
    let t = c.args.self.now in
    let n = c.args.meaning.now in
    let frame = c.args.frame.now in
    let a = source_of frame in
    let place : AddressState = (state_of t).places a in
    subst (λ m. FitsMeaning n (content_of t.contents a) (spare_of t.contents a) m c.args.upload)
    (came-reads t.time t.node.claims.own a place (record place { heard = heard_of c.note_frame.new.self.watch a }) n frame refl refl)
    (c.requires.upload (ap (λ (l : List Set). is_some (set_at a l)) (sym c.note_frame.ensures.sets) ∙ some))

pub returns-clause-takes : goal.returns-clause-takes
returns-clause-takes c =
    let t = c.args.self.now in
    let s = state_of t in
    let n = c.args.meaning.now in
    let frame = c.args.frame.now in
    let a = source_of frame in
    let u = state_of c.apply_meaning.new.self in
    let before = c.args.outputs.now.items in
    let after = c.apply_meaning.new.outputs.items in
    let other : n ≡ meanings.ClaimRequest → ⊥ = elim c.match-matches.branch [
      | in-ClaimRequest w ↦ (λ _. true≢false (sym w.matches-is ∙ c.if-matches.false))
      | in_default w ↦ w.in_default.not-ClaimRequest
    ] in
    takes-heard s frame n c.requires.no_claim u before before after
    (λ e. c.if-source-own.false (c.source-source.ensures ∙ e ∙ sym c.own.ensures))
    (sym (append-nil before) ∙ ap (λ (l : List Sent). before ++ outputs_of l) (sym (defence-none s a n c.requires.no_claim other)))
    (subst (λ (x : State). AppliesMeaning x n frame u before after) (heard-state t c.note_frame.new.self c.source-source.result a c.source-source.ensures c.note_frame.ensures.sets c.note_frame.ensures.heard) c.apply_meaning.ensures.takes)
    (accepted s.now a n frame c.requires.no_claim)
