-- The sines, and the angles of an arc one after the other.
use Rattle.std.proofs.Common.{◌≡◌, ℕ, zero, suc, ◌+◌, ◌-◌, ◌<◌, ◌≤◌, ◌%◌, true, List, [], ◌∷◌, ◌++◌, map, get_or, refl, sym, ap, ◌∙◌, arith}
use Rattle.std.proofs.lemmas.Bool.{leb-true}
use Rattle.std.proofs.lemmas.List.{append_assoc, append-nil}
use Rattle.std.specs.Prelude.{nat_le}
use Rattle.std.specs.List.{flat_map, list_all}
use Rattle.vt_stores.proofs.SortedEntries.{both_true}
use Rattle.draw_svg.specs.declared.points.SvgPoint.{SvgPoint}
use Rattle.draw_shapes.specs.Arcs.{sine, sines, angles}

bounded : (xs : List ℕ) (most : ℕ) → list_all (λ x. nat_le x most) xs ≡ true → (i : ℕ) → get_or xs i 0 ≤ most
bounded [] most all i = omega arith
bounded (x ∷ xs) most all zero = leb-true x most (both_true (nat_le x most) (list_all (λ x. nat_le x most) xs) all).0
bounded (x ∷ xs) most all (suc i) = bounded xs most (both_true (nat_le x most) (list_all (λ x. nat_le x most) xs) all).1 i

pub sine_at : (step : ℕ) → sine step ≡ get_or sines step 0
unfolding sine
sine_at step = refl

pub sine_most : (step : ℕ) → sine step ≤ 10000
unfolding sine
sine_most step = bounded sines 10000 refl step

-- ---- the angles of an arc

angle_first : (turn angle steps : ℕ) → 0 < steps → angles turn angle steps ≡ angle ∷ angles turn ((angle + turn) % 180) (steps - 1)
unfolding angles
angle_first turn angle zero some = absurd (let never : 0 < 0 = some in omega (arith, never))
angle_first turn angle (suc steps) some = let less : suc steps - 1 ≡ steps = omega arith in ap (λ n. angle ∷ angles turn ((angle + turn) % 180) n) (sym less)

-- one more point is written
pub next_angle : (f : ℕ → List ℕ) (turn angle steps : ℕ) (text longer total : List ℕ) → 0 < steps → longer ≡ text ++ f angle
    → text ++ flat_map f (angles turn angle steps) ≡ total → longer ++ flat_map f (angles turn ((angle + turn) % 180) (steps - 1)) ≡ total
next_angle f turn angle steps text longer total some made is =
    let rest = flat_map f (angles turn ((angle + turn) % 180) (steps - 1)) in
    ap (λ l. l ++ rest) made ∙ append_assoc text (f angle) rest ∙ sym (ap (λ l. text ++ flat_map f l) (angle_first turn angle steps some)) ∙ is

pub last_angle : (f : ℕ → List ℕ) (turn angle steps : ℕ) (text longer total : List ℕ) → steps ≡ 0 → longer ≡ text ++ f angle
    → text ++ flat_map f (angles turn angle steps) ≡ total → longer ≡ total
unfolding angles
last_angle f turn angle steps text longer total none made is =
    made ∙ ap (λ l. text ++ l) (sym (append-nil (f angle))) ∙ ap (λ n. text ++ flat_map f (angles turn angle n)) (sym none) ∙ is

-- points along angles
pub through : (f : SvgPoint → List ℕ) (g : ℕ → SvgPoint) (l : List ℕ) → flat_map f (map g l) ≡ flat_map (λ a. f (g a)) l
through f g [] = refl
through f g (a ∷ l) = ap (λ k. f (g a) ++ k) (through f g l)
