use Rattle.std.proofs.Common.{◌≡◌, ◌⊎◌, inl, inr, ℕ, ◌<◌, ◌≤◌, IsTrue, Some, true, false, subst, arith}
use Rattle.std.proofs.Math.Dec.{leb}
use Rattle.std.proofs.lemmas.Bool.{false≢true, leb-true, ltb-true}
use Rattle.std.proofs.lemmas.Bool.Decides.{leb_tells}
use Rattle.vt_can.specs.transport.FirstTimes.{IsFirstTime}
use Rattle.vt_server.specs.frame.Deadlines.{IsDue}
use Rattle.vt_server.specs.States.{state_of}
use Rattle.vt_server.specs.Terminals.{State}
use Rattle.log_order.proofs.turn.is_overdue_at.Goals as goal

-- a first time is not after any other one
by_then : (s : State) (first other time : ℕ) → IsFirstTime (IsDue s) (Some first) → IsFirstTime (IsDue s) (Some other) → other ≤ time
    → ((leb first time ≡ true) × (first ≤ time)) ⊎ ((leb first time ≡ false) × (time < first)) → IsTrue (leb first time)
by_then s first other time is others before (inl within) = within.0
by_then s first other time is others before (inr beyond) = let late = beyond.1 in absurd (is.1.1 other (omega (arith, before, late)) others.1.0)

pub returns-then-deadline-gt0 : goal.returns-then-deadline-gt0
returns-then-deadline-gt0 c =
    let s = state_of c.args.terminal.now in
    let first = subst (IsFirstTime (IsDue s)) c.in-Some.is c.next_deadline.ensures in (
      (λ is. record { first = c.in-Some.deadline; is_first = first; not_yet = c.if-deadline-gt0.true; by_then = leb-true c.in-Some.deadline c.args.time is }),
      (λ overdue. by_then s c.in-Some.deadline overdue.first c.args.time first overdue.is_first overdue.by_then (leb_tells c.in-Some.deadline c.args.time)),
    )

pub returns-else-deadline-gt0 : goal.returns-else-deadline-gt0
returns-else-deadline-gt0 c =
    let s = state_of c.args.terminal.now in
    let first = subst (IsFirstTime (IsDue s)) c.in-Some.is c.next_deadline.ensures in
    let none = c.if-deadline-gt0.false in (
      (λ is. let some = ltb-true 0 c.in-Some.deadline is in absurd (omega (arith, none, some))),
      (λ overdue. let later = overdue.not_yet in absurd (overdue.is_first.1.1 c.in-Some.deadline (omega (arith, none, later)) first.1.0)),
    )

pub returns-in-None : goal.returns-in-None
returns-in-None c =
    let s = state_of c.args.terminal.now in
    let never = subst (IsFirstTime (IsDue s)) c.in-None.is c.next_deadline.ensures in
    ((λ is. absurd (false≢true is)), (λ overdue. absurd (never overdue.first overdue.is_first.0 overdue.is_first.1.0)))
