use Rattle.std.proofs.Common.{ℕ, [], ◌∷◌, Some, sym, ap, subst}
use Rattle.vt_can.specs.lines.Actions.{action_value}
use Rattle.vt_commands.specs.declared.event.Event.TheVariants as events
use Rattle.vt_commands.specs.Events.{raise}
use Rattle.vt_macros.specs.QuietMacros.{RunsKeepLook}
use Rattle.vt_server.specs.operator.ActionContracts.{ActionKeepsLook}
use Rattle.vt_server.proofs.lemmas.shown.SameLook.{press-keeps, release-keeps}
use Rattle.vt_server.proofs.operator.actions.keeps_look.Goals as goal

pub returns-in-Press : goal.returns-in-Press
returns-in-Press c quiet =
    let live = c.args.live.now in
    subst (ActionKeepsLook (Some live)) (sym (ap action_value c.in-Press.is))
    (press-keeps live c.in-Press.id
    (subst (λ (id : ℕ). RunsKeepLook live.objects (raise id events.KeyPress ∷ [])) c.from_raw.ensures (c.keeps_look_at.ensures quiet)))

pub returns-in-Release : goal.returns-in-Release
returns-in-Release c quiet =
    let live = c.args.live.now in
    subst (ActionKeepsLook (Some live)) (sym (ap action_value c.in-Release.is))
    (release-keeps live c.in-Release.id
    (subst (λ (id : ℕ). RunsKeepLook live.objects (raise id events.KeyRelease ∷ [])) c.from_raw-in-Release.ensures (c.keeps_look_at-in-Release.ensures quiet)))
