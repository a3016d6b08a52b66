-- A pass over the children of an object, of which those that reach out are put into a list.
use Rattle.std.proofs.Common.{◌≡◌, ℕ, suc, ◌+◌, ◌<◌, List, ◌++◌, map, drop, length, get_or, sym, ap, ◌∙◌, append_assoc, arith}
use Rattle.std.proofs.Math.Seq.{drop-cons}
use Rattle.std.proofs.lemmas.List.{map-append}
use Rattle.std.proofs.lemmas.List.Elements.{filter-append}
use Rattle.std.specs.Prelude.{filter}
use Rattle.std.specs.Option.{option_to_list}
use Rattle.vt_kinds.specs.declared.entries.Child.{Child}
use Rattle.vt_stores.specs.Stores.{Objects}
use Rattle.check_needs.specs.declared.sizes.Area.{Area}
use Rattle.check_needs.specs.declared.warning.PlacedElement.{PlacedElement}
use Rattle.check_needs.specs.declared.warning.Warning.{Warning}
use Rattle.check_needs.specs.declared.warning.Warning.TheVariants as warnings
use Rattle.check_needs.specs.Elements.{element, elements_from, is_outside}

abbrev pub put_of : Area → List PlacedElement → List Warning
put_of area es = map (λ e. warnings.Outside e area) (filter (is_outside area) es)

both : (area : Area) (xs ys : List PlacedElement) → put_of area (xs ++ ys) ≡ put_of area xs ++ put_of area ys
both area xs ys = ap (map (λ e. warnings.Outside e area)) (filter-append (is_outside area) xs ys) ∙ map-append (λ e. warnings.Outside e area) _ _

pub put_child : (objects : Objects) (parent : ℕ) (area : Area) (children : List Child) (all put more : List Warning) (index i : ℕ) (child : Child)
    → i < length children → child ≡ get_or children i child → index ≡ i
    → all ≡ put ++ put_of area (elements_from objects parent index (drop i children))
    → more ≡ put ++ put_of area (option_to_list (element objects parent index child))
    → all ≡ more ++ put_of area (elements_from objects parent (index + 1) (drop (i + 1) children))
put_child objects parent area children all put more index i child lt is same left new =
    let rest = elements_from objects parent (suc index) (drop (suc i) children) in
    let one : suc i ≡ i + 1 = omega arith in
    let next : suc index ≡ index + 1 = omega arith in
    left
    ∙ ap (λ (cs : List Child). put ++ put_of area (elements_from objects parent index cs)) (drop-cons children i child lt)
    ∙ ap (λ (c : Child). put ++ put_of area (option_to_list (element objects parent index c) ++ rest)) (sym is)
    ∙ ap (λ (ws : List Warning). put ++ ws) (both area (option_to_list (element objects parent index child)) rest)
    ∙ sym (append_assoc put _ _)
    ∙ ap (λ (ws : List Warning). ws ++ put_of area rest) (sym new)
    ∙ ap (λ (k : ℕ). more ++ put_of area (elements_from objects parent (suc index) (drop k children))) one
    ∙ ap (λ (k : ℕ). more ++ put_of area (elements_from objects parent k (drop (i + 1) children))) next
