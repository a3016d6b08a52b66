use Rattle.std.proofs.Common.{◌≡◌, ℕ, zero, suc, Bool, false, List, get_or, refl, ap, ◌∙◌}
use Rattle.std.proofs.Math.ListN.{replicate}
use Rattle.check_needs.proofs.id_set.IdSet.new.Goals as goal

get_or-all_false : (n i : ℕ) → get_or (replicate n false) i false ≡ false
get_or-all_false zero i = refl
get_or-all_false (suc n) zero = refl
get_or-all_false (suc n) (suc i) = get_or-all_false n i

pub returns : goal.returns
returns c = λ id. ap (λ (marks : List Bool). get_or marks id false) (c.in_ok-marks.ensures.items_if_clones_equal (λ y e. e)) ∙ get_or-all_false 65536 id
