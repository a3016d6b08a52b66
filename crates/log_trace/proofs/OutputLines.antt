-- Texts that gain the lines of outputs.
use Rattle.std.proofs.Common.{◌≡◌, ◌∙◌, ℕ, ◌+◌, ◌<◌, List, [], ◌∷◌, ◌++◌, length, get_or, take, codes, refl, sym, ap, subst, append_assoc, append-nil}
use Rattle.std.specs.List.{AllZip}
use Rattle.std.proofs.lemmas.Grind.{flat_map-append}
use Rattle.std.proofs.lemmas.List.{take_more}
use Rattle.log_trace.proofs.TracedLines.{HasNoNewline-dotted}
use Rattle.log_trace.specs.Lines.{Gains, joined, dotted}
use Rattle.log_trace.specs.Traces.{AreOutputLines, IsOutputLine, output_line}
use Rattle.vt_can.specs.declared.frames.frame.Frame.{Frame}
use Rattle.vt_can.specs.lines.WrittenForms.{frame_text}
use Rattle.vt_logs.specs.Texts.{newline, refusal_name}
use Rattle.vt_server.specs.declared.output.OperatorFault.{OperatorFault}
use Rattle.vt_server.specs.declared.output.Output.{Output}
use Rattle.vt_server.specs.declared.output.Output.TheVariants as outputs

pub gains_no_outputs : (text : List ℕ) → Gains (AreOutputLines []) text text
gains_no_outputs text = record { part = []; part_is = record { lines = []; each = tt; whole = refl }; whole = sym (append-nil text) }

lines_and_one : (xs : List Output) (ys : List (List ℕ)) (x : Output) (y : List ℕ) → AllZip IsOutputLine xs ys → IsOutputLine x y → AllZip IsOutputLine (xs ++ x ∷ []) (ys ++ y ∷ [])
lines_and_one [] [] x y each last = (last, tt)
lines_and_one [] (z ∷ zs) x y each last = absurd each
lines_and_one (w ∷ ws) [] x y each last = absurd each
lines_and_one (w ∷ ws) (z ∷ zs) x y each last = (each.0, lines_and_one ws zs x y each.1 last)

-- A text gains the lines of outputs, and then that of one more.
pub gains_one_more : (sent : List Output) (output : Output) (a b c : List ℕ) → Gains (AreOutputLines sent) a b → Gains (IsOutputLine output) b c
    → Gains (AreOutputLines (sent ++ output ∷ [])) a c
gains_one_more sent output a b c p q = record {
  part = p.part ++ q.part;
  part_is = record {
    lines = p.part_is.lines ++ q.part ∷ [];
    each = lines_and_one sent p.part_is.lines output q.part p.part_is.each q.part_is;
    whole = ap (λ t. t ++ q.part) p.part_is.whole ∙ ap (λ t. joined p.part_is.lines ++ t) (sym (append-nil q.part))
        ∙ sym (flat_map-append (λ line. line) p.part_is.lines (q.part ∷ []));
  };
  whole = q.whole ∙ ap (λ t. t ++ q.part) p.whole ∙ append_assoc a p.part q.part;
}

-- A text gains the lines of the first outputs, and then that of the next.
pub gains_next : (sent : List Output) (i : ℕ) (output : Output) (a b c : List ℕ) → i < length sent → output ≡ get_or sent i output
    → Gains (AreOutputLines (take i sent)) a b → Gains (IsOutputLine output) b c → Gains (AreOutputLines (take (i + 1) sent)) a c
gains_next sent i output a b c below is before next =
    let all : take i sent ++ output ∷ [] ≡ take (i + 1) sent = ap (λ (x : Output). take i sent ++ x ∷ []) is ∙ sym (take_more sent i output below) in
    subst (λ (outputs : List Output). Gains (AreOutputLines outputs) a c) all (gains_one_more (take i sent) output a b c before next)

-- ---- one line

line_is : (output : Output) (said words a b c d : List ℕ) → said ≡ output_line output → b ≡ a ++ codes "    " → c ≡ b ++ said → d ≡ c ++ codes "  " ++ dotted words ++ newline
    → Gains (IsOutputLine output) a d
line_is output said words a b c d is first second third = record {
  part = codes "    " ++ said ++ codes "  " ++ dotted words ++ newline;
  part_is = record {
    sentence = dotted words;
    one_line = HasNoNewline-dotted words;
    whole = ap (λ t. codes "    " ++ t ++ codes "  " ++ dotted words ++ newline) is;
  };
  whole = third ∙ ap (λ t. t ++ codes "  " ++ dotted words ++ newline) (second ∙ ap (λ t. t ++ said) first) ∙ regroup a (codes "    ") said (codes "  ") (dotted words) newline;
}
  where
    regroup : (a b c d e f : List ℕ) → (a ++ b ++ c) ++ d ++ e ++ f ≡ a ++ (b ++ c ++ d ++ e ++ f)
    regroup a b c d e f =
        ap (λ t. t ++ d ++ e ++ f) (append_assoc a b c) ∙ ap (λ t. t ++ e ++ f) (append_assoc a (b ++ c) d) ∙ ap (λ t. t ++ f) (append_assoc a (b ++ c ++ d) e)
        ∙ append_assoc a (b ++ c ++ d ++ e) f

pub gains_frame : (output : Output) (words a b c d : List ℕ) (frame : Frame) → output ≡ outputs.Frame frame → b ≡ a ++ codes "    " → c ≡ b ++ frame_text frame
    → d ≡ c ++ codes "  " ++ dotted words ++ newline → Gains (IsOutputLine output) a d
gains_frame output words a b c d frame is first second third = line_is output (frame_text frame) words a b c d (sym (ap output_line is)) first second third

pub gains_refusal : (output : Output) (words a b c d e : List ℕ) (fault : OperatorFault) → output ≡ outputs.Refused fault → b ≡ a ++ codes "    " → c ≡ b ++ codes "operator "
    → d ≡ c ++ refusal_name fault → e ≡ d ++ codes "  " ++ dotted words ++ newline → Gains (IsOutputLine output) a e
gains_refusal output words a b c d e fault is first second third fourth =
    line_is output (codes "operator " ++ refusal_name fault) words a b d e (sym (ap output_line is)) first
    (third ∙ ap (λ t. t ++ refusal_name fault) second ∙ append_assoc b (codes "operator ") (refusal_name fault)) fourth
