use Rattle.std.proofs.Common.{[], ◌++◌, false, Some, refl, sym, ap, ◌∙◌}
use Rattle.std.specs.Option.{option_to_list}
use Rattle.vt_can.specs.lines.Actions.{action_value}
use Rattle.vt_can.specs.lines.Actions as actions
use Rattle.vt_server.specs.operator.ActionContracts.{TakesAction}
use Rattle.vt_server.specs.shown.Screens.{ShowsSame}
use Rattle.vt_server.specs.States.{state_of}
use Rattle.vt_server.specs.declared.terminal.Terminal.{Terminal}
use Rattle.vt_server.proofs.lemmas.operator.ActionInput.{takes-after, takes-lost, takes-input, takes-same}
use Rattle.vt_server.proofs.lemmas.shown.SameScreen.{same-text, shows-then, tells-through}
use Rattle.vt_server.proofs.terminal.Terminal.operate.Goals as goal
use Rattle.vt_server.proofs.terminal.Terminal.operate.Goals.{in-Set, in-Text+in-Ok, in_default}

pub returns-then-self-clause-ok : goal.returns-then-self-clause-ok
returns-then-self-clause-ok c = takes-lost (state_of c.args.self.now) c.args.action.now c.args.outputs.now.items c.if-self.true

pub returns-clause-ok : goal.returns-clause-ok
returns-clause-ok c =
    let s = state_of c.args.self.now in
    let t = state_of c.match-action.self in
    let action = action_value c.args.action.now in
    let taken : TakesAction s action t [] (option_to_list c.match-action.answer) =
    elim c.match-action.branch [
      | in-Set w ↦
          takes-same s (actions.Set w.in-Set.address) action (state_of w.select_set-answer.new.self) t [] []
          (option_to_list w.select_set-answer.result) (option_to_list c.match-action.answer) (sym (ap action_value w.in-Set.is)) (ap (λ (x : Terminal). state_of x) (sym w.self-is)) refl
          (ap option_to_list (sym w.answer-is)) w.select_set-answer.ensures.takes
      | in-Text+in-Ok w ↦
          takes-same s (actions.Text w.in-Text.id w.in-Text.text.now) action (state_of w.enter_long_text.new.self) t [] []
          (option_to_list (Some w.in-Ok.output)) (option_to_list c.match-action.answer) (sym (ap action_value w.in-Text.is)) (ap (λ (x : Terminal). state_of x) (sym w.self-is)) refl
          (ap option_to_list (sym w.answer-is)) w.in-Ok.ensures.takes
      | in_default w ↦
          takes-same s action action (state_of w.act-answer.new.self) t [] []
          (option_to_list w.act-answer.result) (option_to_list c.match-action.answer) refl (ap (λ (x : Terminal). state_of x) (sym w.self-is)) refl
          (ap option_to_list (sym w.answer-is)) w.act-answer.ensures.takes
    ] in
    takes-input s t (state_of c.update_shown.new.self) c.args.action.now c.args.outputs.now.items c.append.new.outputs.items c.update_shown.new.outputs.items c.if-self.false
    (takes-after taken (c.append.ensures.items ∙ ap (λ l. l ++ option_to_list c.match-action.answer) c.reserve.ensures.items))
    c.update_shown.ensures.state (c.update_shown.ensures.sent s c.display-before.ensures)

pub returns-clause-same : goal.returns-clause-same
returns-clause-same c none =
    let t : Terminal = record c.args.self.now { redraws = false } in
    let m : Terminal = c.match-action.self in
    let updates = c.update_shown.ensures.tells none in
    let acted : ShowsSame (state_of t) (state_of m) =
    elim c.match-action.branch [
      | in-Set w ↦ tells-through t m w.select_set-answer.new.self w.self-is w.select_set-answer.ensures.tells updates.0
      | in-Text+in-Ok w ↦ tells-through t m w.enter_long_text.new.self w.self-is w.enter_long_text.ensures.tells updates.0
      | in_default w ↦ tells-through t m w.act-answer.new.self w.self-is w.act-answer.ensures.tells updates.0
    ] in
    same-text (state_of t) (state_of c.update_shown.new.self) (shows-then (state_of t) (state_of m) (state_of c.update_shown.new.self) acted updates.1)
