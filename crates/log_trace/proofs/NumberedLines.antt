-- The head of a line: its number and its words.
use Rattle.std.proofs.Common.{◌≡◌, ◌∙◌, ◌<◌, ◌^◌, ℕ, false, nat_eq, List, [], ◌∷◌, ◌++◌, length, codes, refl, ap, append_assoc, arith}
use Rattle.std.specs.Fmt.{decimal}
use Rattle.std.specs.List.{starts_with}
use Rattle.std.specs.Char.{digit_value}
use Rattle.std.specs.Str.Parse.{AllDigits}
use Rattle.std.proofs.lemmas.Fmt.{decimal_is_IsNumeral}
use Rattle.std.proofs.lemmas.Str.Parse.{digit_from_value}
use Rattle.log_trace.proofs.TracedLines.{HasNoNewline-dotted}
use Rattle.vt_logs.specs.Texts.{newline}
use Rattle.log_trace.specs.Lines.{Gains, dotted}
use Rattle.log_trace.specs.Traces.{IsHead}

digit_is_no_space : (c : ℕ) → digit_value c < 10 → nat_eq 32 c ≡ false
digit_is_no_space c digit = let range = digit_from_value c digit in grind (arith, range)

digits_are_unindented : (ds rest : List ℕ) → 0 < length ds → AllDigits 10 ds → starts_with nat_eq (ds ++ rest) (codes "    ") ≡ false
digits_are_unindented [] rest some none = absurd (omega (arith, some))
digits_are_unindented (c ∷ cs) rest some digits = rw (digit_is_no_space c digits.0) refl

-- A text gains a head: a number and words behind it.
pub gains_head : (n : ℕ) (words a b c : List ℕ) → n < 2 ^ 64 → b ≡ a ++ ([] ++ decimal n) → c ≡ b ++ codes " " ++ dotted words ++ newline → Gains (IsHead n) a c
gains_head n words a b c small numbered worded =
    let digits = (decimal_is_IsNumeral n small).0 in
    let said = decimal n ++ codes " " ++ dotted words in
    record {
      part = said ++ newline;
      part_is = record {
        words = dotted words;
        one_line = HasNoNewline-dotted words;
        unindented = rw (append_assoc (decimal n) (codes " ") (dotted words)) (rw (append_assoc (decimal n) (codes " " ++ dotted words) newline)
            (digits_are_unindented (decimal n) (codes " " ++ dotted words ++ newline) digits.0 digits.1));
        whole = refl;
      };
      whole = worded ∙ ap (λ t. t ++ codes " " ++ dotted words ++ newline) numbered ∙ regroup a (decimal n) (codes " ") (dotted words) newline;
    }
  where
    regroup : (a b c d e : List ℕ) → (a ++ b) ++ c ++ d ++ e ≡ a ++ (b ++ c ++ d ++ e)
    regroup a b c d e =
        ap (λ t. t ++ d ++ e) (append_assoc a b c) ∙ ap (λ t. t ++ e) (append_assoc a (b ++ c) d) ∙ append_assoc a (b ++ c ++ d) e
