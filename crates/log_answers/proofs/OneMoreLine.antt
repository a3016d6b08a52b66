-- One more line of a log is compared.
use Rattle.std.proofs.Common.{◌≡◌, ◌∙◌, ℕ, ◌<◌, ◌≤◌, List, [], ◌∷◌, ◌++◌, map, Option, Some, None, Ok, Err, refl, sym, ap, subst, arith, append_assoc, true}
use Rattle.std.proofs.lemmas.List.{append-nil}
use Rattle.log_answers.specs.Comparisons.{HasCompared, HasComparedMore, point_at}
use Rattle.log_answers.specs.Conversations.{Converses, LogLine, Point, SaysAt, Takes, nothing, one_more, recorded_by, status_after, time_after}
use Rattle.log_answers.specs.declared.comparison.Comparison.{Comparison}
use Rattle.log_answers.specs.declared.difference.Difference.{Difference}
use Rattle.log_answers.specs.declared.difference.Difference.TheVariants.{OursAlone}
use Rattle.log_answers.specs.declared.open.OpenQuestions.{OpenQuestions}
use Rattle.log_answers.specs.declared.said.Said.{Said}
use Rattle.log_answers.specs.declared.topic.Topic.{Topic}
use Rattle.log_answers.specs.Matches.{AreLater, AreMatched, AreOpen}
use Rattle.log_answers.specs.Messages.{said_by}
use Rattle.log_answers.specs.OpenQuestions.{Hears, LosesOverdue, TakesOldest, told_of_answer}
use Rattle.log_answers.proofs.Matching.{matched-answered, matched-asked, matched-expired, matched-later, none-matched}
use Rattle.log_answers.proofs.OpenInOrder.{AreAt, AreInTime, all-in-time, asked-in-time, in-time-append, open-asked, open-back, open-removed}
use Rattle.log_answers.proofs.SaidAt.{recorded_by-at, said_by-at}
use Rattle.vt_can.specs.lines.Readings.{FrameAt, OperatorAction, SkippedFrame, CommentLine}
use Rattle.vt_logs.specs.Texts.{LineReading}
use Rattle.vt_server.specs.declared.output.Output.{Output}
use Rattle.vt_server.specs.Terminals.{State}

later-at : (line line' now : ℕ) (messages : List Said) → line < line' → AreAt line' now messages → AreLater line now messages
later-at line line' now [] lines at = tt
later-at line line' now (x ∷ xs) lines at =
    ((let its = at.0 in let is = its.0 in omega arith, let its = at.0 in let is = its.1 in omega arith), later-at line line' now xs lines at.1)

-- ---- the answers of a line

-- After the answers of a line, what is matched and open.
record IsHeard (wait line now : ℕ) (questions answers theirs new : List Said) (differences before after : List Difference) : Type 0 where
  told_of : List Difference
  whole : after ≡ before ++ told_of
  matched : AreMatched wait line now questions (answers ++ theirs) new (differences ++ told_of)
  in_order : AreOpen line now new

open-without : (line now : ℕ) (old new : List Said) (question : Said) (front back : List Said) → old ≡ front ++ question ∷ back → new ≡ front ++ back → AreOpen line now old → AreOpen line now new
open-without line now old new question front back whole rest open_ =
    subst (AreOpen line now) (sym rest) (open-removed line now front back question (subst (AreOpen line now) whole open_))

open-taken : (line now : ℕ) (topic : Topic) (old new : List Said) (question : Option Said) → TakesOldest topic old question new → AreOpen line now old → AreOpen line now new
open-taken line now topic old new None takes open_ = subst (AreOpen line now) (sym takes.1) open_
open-taken line now topic old new (Some question) takes open_ = open-without line now old new question takes.front takes.back takes.whole takes.rest open_

heard : (wait before_line line now : ℕ) (questions answers theirs old new : List Said) (differences before after : List Difference) → before_line < line → AreAt line now theirs
    → Hears theirs old new before after → AreMatched wait before_line now questions answers old differences → AreOpen line now old → AreInTime wait now old
    → IsHeard wait line now questions answers theirs new differences before after
heard wait before_line line now questions answers [] old new differences before after lines at hears matched open_ in_time = record {
  told_of = [];
  whole = hears.1 ∙ sym (append-nil before);
  matched = subst (λ (list : List Said). AreMatched wait line now questions list new (differences ++ [])) (sym (append-nil answers))
      (subst (λ (list : List Difference). AreMatched wait line now questions answers new list) (sym (append-nil differences))
      (subst (λ (list : List Said). AreMatched wait line now questions answers list differences) (sym hears.0)
      (matched-later wait before_line now line now questions answers old differences (omega arith) (omega arith) matched)));
  in_order = subst (AreOpen line now) (sym hears.0) open_;
}
heard wait before_line line now questions answers (answer ∷ []) old new differences before after lines at hears matched open_ in_time =
    let its_line : answer.line ≡ line = at.0.0 in
    let its_time : answer.time ≡ now = at.0.1 in
    let its_open = subst (λ (n : ℕ). AreOpen n answer.time old) (sym its_line) (subst (λ (t : ℕ). AreOpen line t old) (sym its_time) open_) in
    let is_answered = matched-answered wait before_line now questions answers old new differences answer hears.question (omega arith) (omega arith) hears.takes its_open
    (subst (λ (t : ℕ). AreInTime wait t old) (sym its_time) in_time) matched in
    record {
      told_of = told_of_answer hears.question answer;
      whole = hears.told;
      matched = subst (λ (n : ℕ). AreMatched wait n now questions (answers ++ answer ∷ []) new (differences ++ told_of_answer hears.question answer)) its_line
          (subst (λ (t : ℕ). AreMatched wait answer.line t questions (answers ++ answer ∷ []) new (differences ++ told_of_answer hears.question answer)) its_time is_answered);
      in_order = open-taken line now answer.topic old new hears.question hears.takes open_;
    }
heard wait before_line line now questions answers (answer ∷ second ∷ others) old new differences before after lines at hears matched open_ in_time = absurd hears

-- ---- a frame

pub taken-frame : (own wait : ℕ) (start : Point) (lines : List LogLine) (told : List Difference) (line : LogLine) (old new : State) (before after : Comparison)
    (open_left open_asked : List Said) (differences_old differences_left differences_new : List Difference) (sent : List Output)
    → HasCompared own wait start lines told old before → before.line < line.number → Takes line.is_received old line.reading new sent
    → after.now ≡ time_after before.now line.reading → before.now ≤ after.now → after.status.items ≡ status_after before.own before.status.items line.reading
    → LosesOverdue before.wait after.now before.open.questions.items open_left differences_old differences_left
    → open_asked ≡ open_left ++ said_by line.number after.now sent
    → Hears (recorded_by before.own line.number after.now before.status.items line.reading) open_asked after.open.questions.items differences_left differences_new
    → after.line ≡ line.number → after.own ≡ before.own → after.wait ≡ before.wait
    → HasComparedMore own wait start lines told line differences_old differences_new new after
taken-frame own wait start lines told line old new before after open_left open_asked differences_old differences_left differences_new sent has rises sends now_is times status_is loses asks hears line_is own_is wait_is =
    let now = after.now in
    let said = said_by line.number now sent in
    let theirs = recorded_by before.own line.number now before.status.items line.reading in
    let overdue = loses.overdue in
    let matched_before = subst (λ (list : List Said). AreMatched before.wait before.line before.now has.questions has.answers list told) loses.whole
    (subst (λ (w : ℕ). AreMatched w before.line before.now has.questions has.answers before.open.questions.items told) (sym has.wait_is) has.matched) in
    let matched_left = matched-expired before.wait before.line before.now now has.questions has.answers overdue open_left told times loses.each matched_before in
    let order_left = open-back before.line before.now overdue open_left (subst (AreOpen before.line before.now) loses.whole has.in_order) in
    let time_left = all-in-time before.wait before.line before.now now open_left order_left loses.first in
    let at = said_by-at line.number now sent in
    let matched_asked = matched-asked before.wait before.line now has.questions has.answers open_left said (told ++ map OursAlone overdue) (later-at before.line line.number now said rises at) matched_left in
    let order_asked = open-asked before.line before.now line.number now open_left said (omega arith) times order_left at in
    let time_asked = in-time-append before.wait now open_left said time_left (asked-in-time before.wait line.number now said at) in
    let is = heard before.wait before.line line.number now (has.questions ++ said) has.answers theirs (open_left ++ said) after.open.questions.items (told ++ map OursAlone overdue) differences_left differences_new rises
    (recorded_by-at before.own line.number now before.status.items line.reading)
    (subst (λ (list : List Said). Hears theirs list after.open.questions.items differences_left differences_new) asks hears) matched_asked order_asked time_asked in
    let more = map OursAlone overdue ++ is.told_of in
    let says : SaysAt own (point_at old before) line (point_at new after) said theirs = record {
      sent = sent;
      sends = sends;
      now = now_is;
      status = subst (λ (o : ℕ). after.status.items ≡ status_after o before.status.items line.reading) has.own_is status_is;
      questions_are = refl;
      answers_are = ap (λ (o : ℕ). recorded_by o line.number now before.status.items line.reading) has.own_is;
    } in
    record {
      more = more;
      whole = is.whole ∙ ap (λ (list : List Difference). list ++ is.told_of) loses.told ∙ append_assoc differences_old (map OursAlone overdue) is.told_of;
      compared = record {
        questions = has.questions ++ said;
        answers = has.answers ++ theirs;
        converse = one_more lines (point_at old before) has.questions has.answers has.converse line (point_at new after) said theirs says;
        matched = subst (λ (list : List Difference). AreMatched wait after.line now (has.questions ++ said) (has.answers ++ theirs) after.open.questions.items list) (append_assoc told (map OursAlone overdue) is.told_of)
            (subst (λ (n : ℕ). AreMatched wait n now (has.questions ++ said) (has.answers ++ theirs) after.open.questions.items ((told ++ map OursAlone overdue) ++ is.told_of)) (sym line_is)
            (subst (λ (w : ℕ). AreMatched w line.number now (has.questions ++ said) (has.answers ++ theirs) after.open.questions.items ((told ++ map OursAlone overdue) ++ is.told_of)) has.wait_is is.matched));
        in_order = subst (λ (n : ℕ). AreOpen n now after.open.questions.items) (sym line_is) is.in_order;
        own_is = own_is ∙ has.own_is;
        wait_is = wait_is ∙ has.wait_is;
      };
    }

-- ---- another line

pub taken-other : (own wait : ℕ) (start : Point) (lines : List LogLine) (told : List Difference) (line : LogLine) (old new : State) (before after : Comparison)
    (differences : List Difference) (sent : List Output)
    → HasCompared own wait start lines told old before → before.line < line.number → Takes line.is_received old line.reading new sent
    → before.now ≡ time_after before.now line.reading → before.status.items ≡ status_after own before.status.items line.reading
    → [] ≡ recorded_by own line.number after.now before.status.items line.reading
    → after.now ≡ before.now → after.status ≡ before.status
    → after.open.questions.items ≡ before.open.questions.items ++ said_by line.number after.now sent
    → after.line ≡ line.number → after.own ≡ before.own → after.wait ≡ before.wait
    → HasComparedMore own wait start lines told line differences differences new after
taken-other own wait start lines told line old new before after differences sent has rises sends time_stays status_stays none now_is status_is asks line_is own_is wait_is =
    let now = after.now in
    let said = said_by line.number now sent in
    let at = said_by-at line.number now sent in
    let matched_now = matched-later wait before.line before.now before.line now has.questions has.answers before.open.questions.items told (omega arith) (omega arith) has.matched in
    let matched_asked = matched-asked wait before.line now has.questions has.answers before.open.questions.items said told (later-at before.line line.number now said rises at) matched_now in
    let matched_line = matched-later wait before.line now line.number now (has.questions ++ said) has.answers (before.open.questions.items ++ said) told (omega arith) (omega arith) matched_asked in
    let order_asked = open-asked before.line before.now line.number now before.open.questions.items said (omega arith) (omega arith) has.in_order at in
    let says : SaysAt own (point_at old before) line (point_at new after) said [] = record {
      sent = sent;
      sends = sends;
      now = now_is ∙ time_stays;
      status = ap (λ status. status.items) status_is ∙ status_stays;
      questions_are = refl;
      answers_are = none;
    } in
    record {
      more = [];
      whole = sym (append-nil differences);
      compared = record {
        questions = has.questions ++ said;
        answers = has.answers ++ [];
        converse = one_more lines (point_at old before) has.questions has.answers has.converse line (point_at new after) said [] says;
        matched = subst (λ (list : List Said). AreMatched wait after.line now (has.questions ++ said) list after.open.questions.items (told ++ [])) (sym (append-nil has.answers))
            (subst (λ (list : List Difference). AreMatched wait after.line now (has.questions ++ said) has.answers after.open.questions.items list) (sym (append-nil told))
            (subst (λ (n : ℕ). AreMatched wait n now (has.questions ++ said) has.answers after.open.questions.items told) (sym line_is)
            (subst (λ (list : List Said). AreMatched wait line.number now (has.questions ++ said) has.answers list told) (sym asks) matched_line)));
        in_order = subst (λ (n : ℕ). AreOpen n now after.open.questions.items) (sym line_is) (subst (AreOpen line.number now) (sym asks) order_asked);
        own_is = own_is ∙ has.own_is;
        wait_is = wait_is ∙ has.wait_is;
      };
    }

-- a line that is no input
unfoldable pub IsSilent : LineReading → Type 0
IsSilent (Ok (FrameAt time frame)) = ⊥
IsSilent (Ok (OperatorAction action)) = ⊥
IsSilent (Ok (SkippedFrame why)) = Unit {0}
IsSilent (Ok CommentLine) = Unit {0}
IsSilent (Err fault) = Unit {0}

pub taken-silent : (own wait : ℕ) (start : Point) (lines : List LogLine) (told : List Difference) (number : ℕ) (reading : LineReading) (state : State) (before after : Comparison)
    (differences : List Difference) → IsSilent reading → HasCompared own wait start lines told state before → before.line < number
    → after.now ≡ before.now → after.status ≡ before.status → after.open ≡ before.open → after.line ≡ number → after.own ≡ before.own → after.wait ≡ before.wait
    → HasComparedMore own wait start lines told (record { number = number; reading = reading; is_received = true }) differences differences state after
unfolding IsSilent
taken-silent own wait start lines told number (Ok (FrameAt time frame)) state before after differences silent has rises now_is status_is open_is line_is own_is wait_is = absurd silent
taken-silent own wait start lines told number (Ok (OperatorAction action)) state before after differences silent has rises now_is status_is open_is line_is own_is wait_is = absurd silent
taken-silent own wait start lines told number (Ok (SkippedFrame why)) state before after differences silent has rises now_is status_is open_is line_is own_is wait_is =
    taken-other own wait start lines told (record { number = number; reading = Ok (SkippedFrame why); is_received = true }) state state before after differences [] has rises (refl, refl) refl refl refl now_is status_is
    (ap (λ (it : OpenQuestions). it.questions.items) open_is ∙ sym (append-nil before.open.questions.items)) line_is own_is wait_is
taken-silent own wait start lines told number (Ok CommentLine) state before after differences silent has rises now_is status_is open_is line_is own_is wait_is =
    taken-other own wait start lines told (record { number = number; reading = Ok CommentLine; is_received = true }) state state before after differences [] has rises (refl, refl) refl refl refl now_is status_is
    (ap (λ (it : OpenQuestions). it.questions.items) open_is ∙ sym (append-nil before.open.questions.items)) line_is own_is wait_is
taken-silent own wait start lines told number (Err fault) state before after differences silent has rises now_is status_is open_is line_is own_is wait_is =
    taken-other own wait start lines told (record { number = number; reading = Err fault; is_received = true }) state state before after differences [] has rises (refl, refl) refl refl refl now_is status_is
    (ap (λ (it : OpenQuestions). it.questions.items) open_is ∙ sym (append-nil before.open.questions.items)) line_is own_is wait_is

-- ---- no line

pub none-compared : (own wait : ℕ) (start : Point) (state : State) (comparison : Comparison) → comparison.own ≡ own → comparison.wait ≡ wait → start ≡ point_at state comparison
    → comparison.open.questions.items ≡ [] → HasCompared own wait start [] [] state comparison
none-compared own wait start state comparison own_is wait_is is none = record {
  questions = [];
  answers = [];
  converse = subst (λ (p : Point). Converses own start [] p [] []) is nothing;
  matched = subst (λ (list : List Said). AreMatched wait comparison.line comparison.now [] [] list []) (sym none) (none-matched wait comparison.line comparison.now);
  in_order = subst (AreOpen comparison.line comparison.now) (sym none) tt;
  own_is = own_is;
  wait_is = wait_is;
}
