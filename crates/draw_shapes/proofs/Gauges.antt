-- Nodes after each other: four of them, and those for each number below one.
use Rattle.std.proofs.Common.{◌≡◌, ℕ, suc, ◌+◌, List, ◌++◌, sym, ap, ◌∙◌, arith}
use Rattle.std.proofs.lemmas.List.{append_assoc}
use Rattle.draw_svg.specs.Elements.{Nodes, followed, text_of}
use Rattle.draw_svg.proofs.Followed.{text_followed}
use Rattle.draw_shapes.specs.Gauges.{each_below}

-- the nodes for one more number are written
pub next_below : (draws : ℕ → Nodes) (i : ℕ) (text now next : List ℕ) → now ≡ text ++ text_of (each_below draws i) → next ≡ now ++ text_of (draws i)
    → next ≡ text ++ text_of (each_below draws (i + 1))
next_below draws i text now next is made =
    let before = text_of (each_below draws i) in
    let more : suc i ≡ i + 1 = omega arith in
    made
    ∙ ap (λ l. l ++ text_of (draws i)) is
    ∙ append_assoc text before (text_of (draws i))
    ∙ ap (λ l. text ++ l) (sym (text_followed (each_below draws i) (draws i)))
    ∙ ap (λ n. text ++ text_of (each_below draws n)) more

-- the text of three nodes after each other, written one by one
pub three_written : (a b c : Nodes) (text first second whole : List ℕ) → first ≡ text ++ text_of a → second ≡ first ++ text_of b → whole ≡ second ++ text_of c
    → whole ≡ text ++ text_of (followed a (followed b c))
three_written a b c text first second whole is_first is_second is_whole = simp (text_followed, is_whole, is_second, is_first, append_assoc)

-- the text of four nodes after each other, written one by one
pub four_written : (a b c d : Nodes) (text first second third whole : List ℕ) → first ≡ text ++ text_of a → second ≡ first ++ text_of b → third ≡ second ++ text_of c
    → whole ≡ third ++ text_of d → whole ≡ text ++ text_of (followed a (followed b (followed c d)))
four_written a b c d text first second third whole is_first is_second is_third is_whole =
    simp (text_followed, is_whole, is_third, is_second, is_first, append_assoc)
