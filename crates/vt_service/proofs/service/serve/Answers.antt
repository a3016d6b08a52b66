use Rattle.std.proofs.Common.{rules, ◌≡◌, ◌++◌, ◌∷◌, ℕ, [], List, Option, Some, None, true, false, refl, ap, map, subst, ◌∙◌}
use Rattle.std.proofs.lemmas.List.{append_assoc}
use Rattle.serde_json.specs.Data.{Data}
use Rattle.serde_json.specs.View.{view}
use Rattle.vt_session.specs.Sessions.{waiting}
use Rattle.vt_session.proofs.Written.{on_ok}
use Rattle.vt_service.specs.Answers.{command_data}
use Rattle.vt_service.specs.Lines.{item_data, lines_data}
use Rattle.vt_service.specs.Requests.{Reads}
use Rattle.vt_service.specs.Service.{done, no_memory, not_json, number_of, served}
use Rattle.vt_service.proofs.Served.{asked, turned_down}
use Rattle.vt_service.proofs.service.serve.Goals as goal

not_true : false ≡ true → ⊥
not_true is = cc is

pub returns-in-Err : goal.returns-in-Err
returns-in-Err c =
    on_ok c.refuse.result c.refuse.ensures (λ is. record {
      told = _;
      answered = no_memory (c.in-Err.ensures.memory (c.if-is_memory.ensures.0 refl));
      lines = is;
      taken = c.requires;
    })

pub returns-in-Err-2 : goal.returns-in-Err-2
returns-in-Err-2 c =
    on_ok c.refuse-in-Err-2.result c.refuse-in-Err-2.ensures (λ is. record {
      told = _;
      answered = not_json (λ utf8. c.in-Err.ensures.err (λ memory. not_true (c.if-is_memory.ensures.1 memory)) utf8);
      lines = is;
      taken = c.requires;
    })

pub returns-in-Ok-Command : goal.returns-in-Ok-Command
returns-in-Ok-Command c =
    let number : c.and_then-number.result ≡ number_of (view c.in-Ok.request) = search rules in
    let answer = view c.in_ok-command_answer-in-Ok-Command.field-0 in
    let items = map (λ item. Some (item_data item)) (waiting c.perform-status.new.session) in
    let old = lines_data c.args.lines.now.items in
    on_ok c.push_line.result c.push_line.ensures (λ is. record {
      told = items ++ Some answer ∷ [];
      answered = served (view c.in-Ok.request) c.take_outputs.new.session (items ++ Some answer ∷ []) c.in-Ok.ensures.ok.0 c.in-Ok.ensures.ok.1
          (done c.in-Ok-Command.command c.take_outputs.new.session (items ++ Some answer ∷ []) (subst (Reads (view c.in-Ok.request)) c.in-Ok-Command.field-0-is c.in-Ok-Command.ensures.ok) record {
            mid = c.perform-status.new.session;
            status = c.perform-status.result;
            does = c.perform-status.ensures;
            stays = c.in_ok-take_outputs-in-Ok-Command.ensures.stays;
            answer = answer;
            answers = record {
              told = c.told_of-told.result;
              is_told = c.told_of-told.ensures;
              whole = c.in_ok-command_answer-in-Ok-Command.ensures ∙ ap (λ (n : Option ℕ). command_data n c.perform-status.result c.told_of-told.result) number;
            };
            lines = refl;
          });
      lines = is ∙ ap (λ (l : List (Option Data)). l ++ Some answer ∷ []) c.in_ok-take_outputs-in-Ok-Command.ensures.lines ∙ append_assoc old items (Some answer ∷ []);
      taken = c.in_ok-take_outputs-in-Ok-Command.ensures.taken;
    })

pub returns-in-Ok-Question : goal.returns-in-Ok-Question
returns-in-Ok-Question c =
    let number : c.and_then-number.result ≡ number_of (view c.in-Ok.request) = search rules in
    on_ok c.answer.result c.answer.ensures (λ told.
    asked c.args.session.now c.args.line.now (view c.in-Ok.request) (lines_data c.args.lines.now.items) (lines_data c.answer.new.lines.items) c.requires c.in-Ok.ensures.ok.0
    c.in-Ok.ensures.ok.1 c.and_then-number.result c.in-Ok-Question.question number (subst (Reads (view c.in-Ok.request)) c.in-Ok-Question.field-0-is c.in-Ok-Question.ensures.ok) told)

pub returns : goal.returns
returns c =
    let number : c.and_then-number.result ≡ number_of (view c.in-Ok.request) = search rules in
    on_ok c.refuse-in-Err-read.result c.refuse-in-Err-read.ensures (λ lines.
    turned_down c.args.session.now c.args.line.now (view c.in-Ok.request) (lines_data c.args.lines.now.items) (lines_data c.refuse-in-Err-read.new.lines.items) c.requires
    c.in-Ok.ensures.ok.0 c.in-Ok.ensures.ok.1 c.and_then-number.result c.in-Err-read.malformed number c.in-Err-read.ensures.err lines)
