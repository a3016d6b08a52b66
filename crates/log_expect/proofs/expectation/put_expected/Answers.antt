use Rattle.std.proofs.Common.{◌≡◌, ◌∙◌, ℕ, List, [], ◌∷◌, ◌++◌, map, sym, ap, append_assoc}
use Rattle.std.proofs.lemmas.List.{map-append}
use Rattle.log_expect.proofs.Patterns.{shown-pattern_of}
use Rattle.log_expect.specs.Expectations.{expected_line, pattern_in}
use Rattle.log_expect.specs.Patterns.{BytePattern, Only, shown_byte}
use Rattle.log_expect.proofs.expectation.put_expected.Goals as goal

pub returns : goal.returns
returns c =
    let line = c.args.line.now in
    let text = c.expected_in.result.0.now in
    let shown : map shown_byte (expected_line line) ≡ text ++ 10 ∷ [] =
    map-append shown_byte (pattern_in line) (Only 10 ∷ [])
    ∙ ap (λ (pattern : List BytePattern). map shown_byte pattern ++ 10 ∷ []) c.expected_in.ensures
    ∙ ap (λ (front : List ℕ). front ++ 10 ∷ []) (shown-pattern_of c.expected_in.result.1 text) in
    c.in_ok-push.ensures.items
    ∙ ap (λ (items : List ℕ). items ++ 10 ∷ []) c.in_ok-extend_from_slice.ensures.items
    ∙ append_assoc c.args.expected.now.items text (10 ∷ [])
    ∙ ap (λ (more : List ℕ). c.args.expected.now.items ++ more) (sym shown)
