use Rattle.std.proofs.Common.{ℕ, List, ◌++◌, ap, ap₂, ◌∙◌}
use Rattle.std.proofs.lemmas.List.{append_assoc}
use Rattle.std.specs.List.{flat_map}
use Rattle.byteorder.specs.Endian.{little_bytes}
use Rattle.vt_session.specs.Readings.{head_bytes, numbers_of}
use Rattle.vt_session.proofs.reading.write_element.Goals as goal

pub returns : goal.returns
returns c =
    let old = c.args.text.now.items in
    let written : List ℕ → List ℕ = flat_map (little_bytes 4) in
    c.in_ok-write_numbers.ensures
    ∙ ap₂ (λ (l : List ℕ) (numbers : List ℕ). l ++ written numbers) (c.in_ok-extend_from_slice.ensures.items ∙ ap (λ (l : List ℕ). old ++ l) c.head_bytes.ensures) c.numbers_of.ensures
    ∙ append_assoc old (head_bytes c.args.element.now) (written (numbers_of c.args.element.now))
