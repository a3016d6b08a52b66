use Rattle.std.proofs.Common.{◌≡◌, true, sym, subst, ◌∙◌, arith, rules}
use Rattle.std.proofs.lemmas.Bool.{false≢true}
use Rattle.vt_can.specs.transport.FirstTimes.{IsFirstTime}
use Rattle.vt_node.specs.Watches.{SomeAwaited}
use Rattle.vt_server.specs.frame.Deadlines.{IsDue, is_settled}
use Rattle.vt_server.specs.States.{state_of}
use Rattle.vt_server.proofs.lemmas.timeouts.DueTimes.{due-never, due-now, due-later}
use Rattle.vt_server.proofs.terminal.Terminal.next_deadline.Goals as goal

pub returns-in_err-late : goal.returns-in_err-late
returns-in_err-late c =
    let s = state_of c.args.self.now in
    let settled : is_settled s ≡ true = search rules in
    let heard : SomeAwaited (λ a. (s.places a).heard) → ⊥ = λ some. false≢true (sym c.if-awaits.false ∙ c.awaits.ensures.1 some) in
    subst (IsFirstTime (IsDue s)) (sym c.from_residual.ensures) (due-never s settled heard (omega arith) c.in_err-late.ensures)

pub returns-then-late-now : goal.returns-then-late-now
returns-then-late-now c =
    let s = state_of c.args.self.now in
    let settled : is_settled s ≡ true = search rules in
    let heard : SomeAwaited (λ a. (s.places a).heard) → ⊥ = λ some. false≢true (sym c.if-awaits.false ∙ c.awaits.ensures.1 some) in
    due-now s settled heard c.in_ok-late.late c.if-self.false (omega arith) c.in_ok-late.ensures

pub returns : goal.returns
returns c =
    let s = state_of c.args.self.now in
    let settled : is_settled s ≡ true = search rules in
    let heard : SomeAwaited (λ a. (s.places a).heard) → ⊥ = λ some. false≢true (sym c.if-awaits.false ∙ c.awaits.ensures.1 some) in
    due-later s settled heard c.in_ok-late.late c.if-self.false (omega arith) c.in_ok-late.ensures
