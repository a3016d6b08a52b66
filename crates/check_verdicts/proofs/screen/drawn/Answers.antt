use Rattle.std.proofs.Common.{◌≡◌, ℕ, inr, ap, subst}
use Rattle.vt_stores.specs.Stores.{ObjectMap, map_of}
use Rattle.vt_commands.specs.declared.command.Command.TheVariants.{ChangeActiveMask}
use Rattle.vt_machine.specs.declared.live.Outcome.TheVariants.{Done, Refused}
use Rattle.vt_machine.specs.SetStates.{SetState, Applied, working_set_in}
use Rattle.check_verdicts.proofs.screen.drawn.Goals as goal

pub returns-in-Done-clause-some : goal.returns-in-Done-clause-some
returns-in-Done-clause-some c =
    let live = c.in_ok-live.live in
    let after = c.apply.new.self.objects in
    let done = Done c.in-Done.steps in
    let same : live.objects ≡ map_of c.args.pool = ap (λ (s : SetState). s.objects) c.in_ok-live.ensures in
    let command = subst (λ (w : ℕ). Applied live.objects (ChangeActiveMask w c.args.mask) done after) c.working_set.ensures.set c.in-Done.ensures.applied in
    inr (
      c.in-Done.steps,
      (
        after,
        (subst (λ (o : ObjectMap). Applied o (ChangeActiveMask (working_set_in o) c.args.mask) done after) same command, c.in_ok-text_of-in-Done.ensures),
      ),
    )

pub returns-clause-none : goal.returns-clause-none
returns-clause-none c =
    let live = c.in_ok-live.live in
    let after = c.apply.new.self.objects in
    let refused = Refused c.in-Refused.bits in
    let same : live.objects ≡ map_of c.args.pool = ap (λ (s : SetState). s.objects) c.in_ok-live.ensures in
    let command = subst (λ (w : ℕ). Applied live.objects (ChangeActiveMask w c.args.mask) refused after) c.working_set.ensures.set c.in-Refused.ensures.applied in
    (c.in-Refused.bits, (after, subst (λ (o : ObjectMap). Applied o (ChangeActiveMask (working_set_in o) c.args.mask) refused after) same command))
