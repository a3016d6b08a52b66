-- The text of nodes, and of others after them.
use Rattle.std.proofs.Common.{◌≡◌, ◌++◌, refl, sym, ap, ◌∙◌}
use Rattle.std.proofs.lemmas.List.{append_assoc}
use Rattle.std.specs.List.{flat_map}
use Rattle.draw_svg.specs.Characters.{escaped}
use Rattle.draw_svg.specs.Elements.{Nodes, None, Characters, Along, Empty, Around, closed, emptied, followed, led_along, opened, text_of}

pub text_followed : (first later : Nodes) → text_of (followed first later) ≡ text_of first ++ text_of later
text_followed None later = refl
text_followed (Characters characters rest) later =
    ap (λ l. flat_map escaped characters ++ l) (text_followed rest later) ∙ sym (append_assoc (flat_map escaped characters) (text_of rest) (text_of later))
text_followed (Along element attributes points rest) later =
    ap (λ l. led_along element attributes points ++ l) (text_followed rest later) ∙ sym (append_assoc (led_along element attributes points) (text_of rest) (text_of later))
text_followed (Empty element attributes rest) later =
    ap (λ l. emptied element attributes ++ l) (text_followed rest later) ∙ sym (append_assoc (emptied element attributes) (text_of rest) (text_of later))
text_followed (Around element attributes inside rest) later =
    ap (λ l. opened element attributes ++ (text_of inside ++ (closed element ++ l))) (text_followed rest later)
    ∙ sym (
    append_assoc (opened element attributes) (text_of inside ++ (closed element ++ text_of rest)) (text_of later)
    ∙ ap (λ l. opened element attributes ++ l)
    (append_assoc (text_of inside) (closed element ++ text_of rest) (text_of later) ∙ ap (λ l. text_of inside ++ l) (append_assoc (closed element) (text_of rest) (text_of later)))
    )
