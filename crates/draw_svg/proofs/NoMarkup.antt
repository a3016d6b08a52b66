-- Characters are no markup.
use Rattle.std.proofs.Common.{◌≡◌, ℕ, ◌<◌, ◌≤◌, Bool, true, false, cond, not, ◌&&◌, ◌||◌, [], ◌∷◌, ◌++◌, refl, ap, inl, inr, arith}
use Rattle.std.proofs.lemmas.Bool.{false_from_ne_true, leb-true}
use Rattle.std.proofs.lemmas.Fmt.{decimal_is_IsNumeral}
use Rattle.std.specs.Prelude.{nat_le, codes, ◌⊎◌, ◌^◌}
use Rattle.std.specs.Fmt.{decimal}
use Rattle.draw_svg.specs.Characters.{is_control, is_markup, is_plain, reference_number, escaped}
use Rattle.draw_svg.specs.Laws.{CharactersAreNoMarkup, IsItself, IsReference}

not_markup : (a b : Bool) → (a && not b) ≡ true → b ≡ false
not_markup true false is = refl
not_markup true true is = absurd cc
not_markup false b is = absurd cc

below : (b : Bool) (c : ℕ) → c < 256 → cond b 0xB7 c < 2 ^ 64
below true c small = omega arith
below false c small = omega arith

shown : (b : Bool) (c : ℕ) → is_control c ≡ b → is_control (cond b 0xB7 c) ≡ false
shown true c is = refl
shown false c is = is

kept : (b : Bool) (c : ℕ) → b ≡ false → cond b 0xB7 c ≡ c
kept true c is = absurd cc
kept false c is = refl

in_latin : (b : Bool) (c : ℕ) → c < 256 → cond b 0xB7 c < 256
in_latin true c small = omega arith
in_latin false c small = small

first_of : (a b : Bool) → (a && b) ≡ true → a ≡ true
first_of true b is = refl
first_of false b is = absurd cc

second_of : (a b : Bool) → (a && b) ≡ true → b ≡ true
second_of true b is = is
second_of false b is = absurd cc

no_control : (a b d : Bool) → a ≡ false → b ≡ false → (a || (b && d)) ≡ false
no_control false false d first second = refl
no_control true b d first second = absurd cc
no_control false true d first second = absurd cc

itself : (c : ℕ) → is_plain c ≡ true → escaped c ≡ c ∷ [] → IsItself c (escaped c)
itself c plain is =
    let range = first_of (nat_le 0x20 c && nat_le c 0x7E) (not (is_markup c)) plain in
    let low : 0x20 ≤ c = leb-true 0x20 c (first_of (nat_le 0x20 c) (nat_le c 0x7E) range) in
    let high : c ≤ 0x7E = leb-true c 0x7E (second_of (nat_le 0x20 c) (nat_le c 0x7E) range) in
    record {
      is = is;
      ascii = omega (arith, high);
      plain = not_markup (nat_le 0x20 c && nat_le c 0x7E) (is_markup c) plain;
      shown = no_control (nat_le c 0x1F) (nat_le 0x7F c) (nat_le c 0x9F)
          (false_from_ne_true (nat_le c 0x1F) (λ below. let never = leb-true c 0x1F below in omega (arith, never, low)))
          (false_from_ne_true (nat_le 0x7F c) (λ above. let never = leb-true 0x7F c above in omega (arith, never, high)));
    }

pub no_markup : CharactersAreNoMarkup
no_markup c small = at (is_plain c) refl
  where
    at : (b : Bool) → is_plain c ≡ b → IsItself c (escaped c) ⊎ IsReference c (escaped c)
    at true is = inl (itself c is (ap (λ b. cond b (c ∷ []) (codes "&#" ++ (decimal (reference_number c) ++ codes ";"))) is))
    at false is = inr (record {
      n = reference_number c;
      latin = in_latin (is_control c) c small;
      is = ap (λ b. cond b (c ∷ []) (codes "&#" ++ (decimal (reference_number c) ++ codes ";"))) is;
      numeral = (decimal_is_IsNumeral (reference_number c) (below (is_control c) c small)).0;
      shown = shown (is_control c) c refl;
      own = kept (is_control c) c;
    })
