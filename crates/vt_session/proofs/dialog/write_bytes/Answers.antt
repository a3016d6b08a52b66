use Rattle.std.proofs.Common.{◌≡◌, ℕ, Bool, true, false, List, ◌++◌, [], ◌∷◌, refl, ap, ap₂, ◌∙◌}
use mir.Val.{bool_byte}
use Rattle.std.specs.List.{flat_map}
use Rattle.std.proofs.lemmas.List.{append_assoc}
use Rattle.byteorder.specs.Endian.{little_bytes}
use Rattle.vt_session.specs.Calls.{number_of}
use Rattle.vt_session.specs.Dialogs.{limit_numbers}
use Rattle.vt_session.proofs.Written.{on_ok}
use Rattle.vt_session.proofs.dialog.write_bytes.Goals as goal

numbered : (b : Bool) → bool_byte b ≡ number_of b
numbered true = refl
numbered false = refl

pub returns : goal.returns
returns c =
    let old = c.args.text.now.items in
    let l = c.args.limits.now in
    let written : List ℕ → List ℕ = flat_map (little_bytes 4) in
    let head : ℕ → List ℕ = λ enabled. l.kind ∷ enabled ∷ l.places ∷ l.decimals ∷ l.items ∷ l.length ∷ 0 ∷ 0 ∷ [] in
    on_ok c.write_numbers.result c.write_numbers.ensures (λ is.
    is
    ∙ ap₂ (λ (front : List ℕ) (all : List ℕ). front ++ written all)
    (c.in_ok-extend_from_slice.ensures.items ∙ ap (λ (n : ℕ). old ++ head n) (c.from.ensures ∙ numbered l.enabled))
    c.numbers_of.ensures
    ∙ append_assoc old (head (number_of l.enabled)) (written (limit_numbers l)))
