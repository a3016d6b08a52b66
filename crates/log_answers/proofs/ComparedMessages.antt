-- Each message of a terminal is compared.
use Rattle.std.proofs.Common.{◌≡◌, ◌≢◌, ◌∙◌, ℕ, eqb, Bool, true, false, cond, ◌&&◌, List, [], ◌∷◌, ◌++◌, Option, Some, None, refl, ap}
use Rattle.std.proofs.lemmas.Bool.{eqb-true, eq-eqb}
use Rattle.std.proofs.lemmas.List.Elements.{filter_map-append}
use Rattle.std.proofs.lemmas.Slice.Eq.{bytes_eq-Decides}
use Rattle.std.specs.List.{cons_option}
use Rattle.std.specs.Option.{option_map, option_to_list}
use Rattle.std.specs.Str.{bytes_eq}
use Rattle.log_answers.specs.declared.said.Said.{Said}
use Rattle.log_answers.specs.declared.topic.Topic.{Topic}
use Rattle.log_answers.specs.Compared.{IsMessage, IsComparedAs, IsAlone, EachMessageIsCompared}
use Rattle.log_answers.specs.Conversations.{is_message_of, is_status, recorded_in, repeats}
use Rattle.log_answers.specs.Messages.{said_by, said_in, said_with}
use Rattle.log_answers.specs.Topics.{message_topic, object_in, topic_of}
use Rattle.vt_can.specs.Assigned.{VT_STATUS}
use Rattle.vt_can.specs.declared.frames.frame.Frame.{Frame}
use Rattle.vt_can.specs.frames.Identifier.{parts_of, pgn_of, destination_of}
use Rattle.vt_server.specs.declared.output.Output.{Output}
use Rattle.vt_server.specs.declared.output.Output.TheVariants as outputs

-- ---- what a message says

abbrev topic_with : ℕ → ℕ → List ℕ → Topic
topic_with destination function rest = record { destination = destination; function = function; object = object_in function (function ∷ rest) }

abbrev said_of : ℕ → ℕ → Frame → Topic → Said
said_of line time frame topic = record { line = line; time = time; topic = topic; bytes = frame.bytes }

has_topic : (frame : Frame) (source destination function : ℕ) (rest : List ℕ) → IsMessage frame source destination function rest
    → topic_of frame ≡ Some (topic_with destination function rest)
has_topic frame source destination function rest m =
    ap (λ (b : Bool). cond {A = Option Topic} b (message_topic (destination_of (parts_of frame.id)) frame.bytes.items) None) (eq-eqb (pgn_of (parts_of frame.id)) 0xE600 m.group)
    ∙ ap (λ (to : Option ℕ). message_topic to frame.bytes.items) m.receiver
    ∙ ap (message_topic (Some destination)) m.bytes

says : (line time : ℕ) (frame : Frame) (source destination function : ℕ) (rest : List ℕ) → IsMessage frame source destination function rest
    → said_in line time frame ≡ Some (said_of line time frame (topic_with destination function rest))
says line time frame source destination function rest m = ap (option_map (said_of line time frame)) (has_topic frame source destination function rest m)

compared_as : (line time : ℕ) (frame : Frame) (destination function : ℕ) (rest : List ℕ)
    → IsComparedAs (said_of line time frame (topic_with destination function rest)) line time frame destination function
compared_as line time frame destination function rest = record { at_line = refl; at_time = refl; to = refl; of = refl; whole = refl }

-- ---- answers

not_both : (a b : Bool) → (a ≡ true → b ≡ true → ⊥) → (a && b) ≡ false
not_both true true never = absurd (never refl refl)
not_both true false never = refl
not_both false b never = refl

is_new : (function : ℕ) (rest status : List ℕ) → (function ≡ VT_STATUS → function ∷ rest ≢ status)
    → (is_status (function ∷ rest) && bytes_eq (function ∷ rest) status) ≡ false
is_new function rest status new =
    not_both (eqb function VT_STATUS) (bytes_eq (function ∷ rest) status)
    (λ is same. new (eqb-true function VT_STATUS is) ((bytes_eq-Decides (function ∷ rest) status).0 same))

is_of : (own : ℕ) (frame : Frame) → (parts_of frame.id).source ≡ own → pgn_of (parts_of frame.id) ≡ 0xE600 → is_message_of own frame ≡ true
is_of own frame sender group =
    ap (λ (b : Bool). b && eqb (pgn_of (parts_of frame.id)) 0xE600) (eq-eqb (parts_of frame.id).source own sender) ∙ eq-eqb (pgn_of (parts_of frame.id)) 0xE600 group

answer : (own line time : ℕ) (status : List ℕ) (frame : Frame) (destination function : ℕ) (rest : List ℕ)
    → IsMessage frame own destination function rest → (function ≡ VT_STATUS → function ∷ rest ≢ status)
    → recorded_in own line time status frame ≡ said_of line time frame (topic_with destination function rest) ∷ []
answer own line time status frame destination function rest m new =
    let found = option_to_list (said_in line time frame) in
    ap (λ (b : Bool). cond {A = List Said} b (cond (repeats status frame) [] found) []) (is_of own frame m.sender m.group)
    ∙ ap (λ (b : Bool). cond {A = List Said} b [] found)
    (ap (λ (bytes : List ℕ). is_status bytes && bytes_eq bytes status) m.bytes ∙ is_new function rest status new)
    ∙ ap option_to_list (says line time frame own destination function rest m)

-- ---- questions

question : (line time : ℕ) (before after : List Output) (frame : Frame) (source destination function : ℕ) (rest : List ℕ)
    → IsMessage frame source destination function rest
    → said_by line time (before ++ outputs.Frame frame ∷ after)
    ≡ said_by line time before ++ said_of line time frame (topic_with destination function rest) ∷ said_by line time after
question line time before after frame source destination function rest m =
    filter_map-append (said_with line time) before (outputs.Frame frame ∷ after)
    ∙ ap (λ (said : Option Said). said_by line time before ++ cons_option said (said_by line time after)) (says line time frame source destination function rest m)

-- ---- nothing else

first_true : (a b : Bool) (found : List Said) → (cond (a && b) found [] ≡ [] → ⊥) → (a ≡ true) × (b ≡ true)
first_true true true found given = (refl, refl)
first_true true false found given = absurd (given refl)
first_true false b found given = absurd (given refl)

only_messages : (own line time : ℕ) (status : List ℕ) (frame : Frame) → recorded_in own line time status frame ≢ []
    → (pgn_of (parts_of frame.id) ≡ 0xE600) × ((parts_of frame.id).source ≡ own)
only_messages own line time status frame given =
    let both = first_true (eqb (parts_of frame.id).source own) (eqb (pgn_of (parts_of frame.id)) 0xE600)
    (cond (repeats status frame) [] (option_to_list (said_in line time frame))) given in
    (eqb-true (pgn_of (parts_of frame.id)) 0xE600 both.1, eqb-true (parts_of frame.id).source own both.0)

pub all_compared : EachMessageIsCompared
all_compared = record {
  answers = λ own line time status frame destination function rest m new. record {
    said = said_of line time frame (topic_with destination function rest);
    found_is = answer own line time status frame destination function rest m new;
    compared = compared_as line time frame destination function rest;
  };
  questions = λ line time before after frame source destination function rest m. (
    said_of line time frame (topic_with destination function rest),
    compared_as line time frame destination function rest,
    question line time before after frame source destination function rest m,
  );
  nothing_else = only_messages;
}
