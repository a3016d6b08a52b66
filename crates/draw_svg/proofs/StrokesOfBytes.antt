-- The strokes of each byte, computed.
use Rattle.std.proofs.Common.{◌≡◌, inl, inr, ◌<◌, ◌-◌, ◌/◌, ◌%◌, ◌^◌, ℕ, zero, suc, Bool, true, false, cond, List, [], ◌∷◌, length, refl, arith, ◌∙◌, ap}
use Rattle.std.specs.Prelude.{◌==◌, ◌&&◌, filter}
use Rattle.std.specs.List.{AllByRecursion}
use Rattle.std.proofs.lemmas.Bool.{cases_lt, eqb-true, false≢true}
use Rattle.draw_svg.specs.declared.format.PixelFormat.{PixelFormat}
use Rattle.draw_svg.specs.declared.format.PixelFormat.TheVariants.{OneBit, FourBits, EightBits}
use Rattle.draw_svg.specs.declared.strokes.Stroke.{Stroke}
use Rattle.draw_svg.specs.StrokeLaws.{HasItsPixel, pixel_at}
use Rattle.draw_svg.specs.Strokes.{strokes_of}

both : (a b : Bool) → (a && b) ≡ true → (a ≡ true) × (b ≡ true)
both true b is = (refl, is)
both false b is = absurd (false≢true is)

-- ---- all of a list, and all numbers below one

abbrev every : {X : Type 0} → (X → Bool) → List X → Bool
every p [] = true
every p (x ∷ xs) = p x && every p xs

every_holds : {X : Type 0} (P : X → Type 0) (p : X → Bool) (xs : List X) → ((x : X) → p x ≡ true → P x) → every p xs ≡ true → AllByRecursion P xs
every_holds P p [] holds is = tt
every_holds P p (x ∷ xs) holds is =
    let parts = both (p x) (every p xs) is in
    (holds x parts.0, every_holds P p xs holds parts.1)

abbrev every_below : ℕ → (ℕ → Bool) → Bool
every_below zero p = true
every_below (suc n) p = p n && every_below n p

below_holds : (n : ℕ) (p : ℕ → Bool) → every_below n p ≡ true → (i : ℕ) → i < n → p i ≡ true
below_holds zero p is i less = absurd (omega (arith, less))
below_holds (suc n) p is i less =
    let parts = both (p n) (every_below n p) is in
    elim (cases_lt i n) [
      | inl below ↦ below_holds n p parts.1 i below
      | inr above ↦ let last : i ≡ n = omega (arith, less, above) in ap p last ∙ parts.0
    ]

-- ---- the check

abbrev has_its_pixel : PixelFormat → ℕ → ℕ → Stroke → Bool
has_its_pixel format byte column s = (s.art / 2 ^ (15 - column) % 2) == (cond (s.colour == pixel_at format byte column) 1 0)

abbrev has_one : PixelFormat → ℕ → ℕ → Bool
has_one format byte column = length (filter (λ s. s.colour == pixel_at format byte column) (strokes_of format byte)) == 1

abbrev checked : PixelFormat → ℕ → ℕ → Bool
checked format byte column = every (has_its_pixel format byte column) (strokes_of format byte) && has_one format byte column

all_checked : (format : PixelFormat) → every_below 256 (λ byte. every_below 16 (checked format byte)) ≡ true
all_checked OneBit = refl
all_checked FourBits = refl
all_checked EightBits = refl

is_checked : (format : PixelFormat) (byte column : ℕ) → byte < 256 → column < 16 → checked format byte column ≡ true
is_checked format byte column small within =
    below_holds 16 (checked format byte) (below_holds 256 (λ b. every_below 16 (checked format b)) (all_checked format) byte small) column within

pub own_pixels : (format : PixelFormat) (byte column : ℕ) → byte < 256 → column < 16 → AllByRecursion (HasItsPixel format byte column) (strokes_of format byte)
own_pixels format byte column small within =
    every_holds (HasItsPixel format byte column) (has_its_pixel format byte column) (strokes_of format byte) (λ s is. eqb-true _ _ is)
    (both _ _ (is_checked format byte column small within)).0

pub one_stroke : (format : PixelFormat) (byte column : ℕ) → byte < 256 → column < 16
    → length (filter (λ s. s.colour == pixel_at format byte column) (strokes_of format byte)) ≡ 1
one_stroke format byte column small within = eqb-true _ _ (both _ _ (is_checked format byte column small within)).1
