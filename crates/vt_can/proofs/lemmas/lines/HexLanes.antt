-- The values of hex digits, lane by lane.
use Rattle.std.proofs.Common.{◌≡◌, ◌≢◌, ℕ, zero, suc, ◌+◌, ◌-◌, ◌*◌, ◌%◌, ◌^◌, ◌<◌, ◌≤◌, ◌++◌, take, Bool, true, false, cond, ◌&&◌, ltb, Option, Some, None, Ok, is_some, unwrap_or, slice_index_or, List, [], ◌∷◌, length, get_or, map, replicate, bit_or, Fits, w8, inl, inr, refl, sym, ap, ap₂, ◌∙◌, arith}
use Rattle.std.specs.List.{range_with_len, list_all}
use Rattle.std.proofs.lemmas.List.{length-map, take_all}
use Rattle.std.specs.Simd.Lanes.{zip2, sel_l, mask_l, top, Each1}
use Rattle.std.proofs.lemmas.List.FromFn.{get_or-map-range_with_len}
use Rattle.std.proofs.lemmas.Bool.{lt-ltb, ltb-true, cases_Bool}
use Rattle.std.proofs.lemmas.Simd.{bitmask_splat}
use Rattle.hex.specs.Hex.{decode_of, decode_pairs, hex_digit_value, is_hex_digit}
use Rattle.hex.proofs.HexLemmas.{decode_of-even}
use Rattle.hex.proofs.Pairs.{cons_byte, decode_pairs-ok_pair}
use Rattle.vt_can.proofs.lemmas.lines.HexPairs.{value_or_255, match_unwrap, value-small, pair-read}

abbrev sub : ℕ → ℕ → ℕ
sub a b = (a + (256 - b)) % 256

abbrev sum : ℕ → ℕ → ℕ
sum a b = (a + b) % 256

abbrev less : ℕ → ℕ → ℕ
less a b = cond (ltb a b) 255 0

-- the value of one lane
abbrev lane : ℕ → ℕ
lane d = cond (top 7 (less (sub d 48) 10)) (sub d 48) (cond (top 7 (less (sub (bit_or d 32) 97) 6)) (sum (sub (bit_or d 32) 97) 10) 255)

abbrev pub lanes : ℕ → List ℕ → List ℕ
lanes n ds =
    sel_l (map (top 7) (zip2 less (zip2 sub ds (replicate n 48)) (replicate n 10))) (zip2 sub ds (replicate n 48))
    (sel_l (map (top 7) (zip2 less (zip2 sub (zip2 bit_or ds (replicate n 32)) (replicate n 97)) (replicate n 6)))
    (zip2 sum (zip2 sub (zip2 bit_or ds (replicate n 32)) (replicate n 97)) (replicate n 10)) (replicate n 255))

by_lane : (n : ℕ) (ds : List ℕ) → length ds ≡ n → lanes n ds ≡ map lane ds
by_lane zero [] long = refl
by_lane zero (d ∷ ds) long = absurd (omega (arith, long))
by_lane (suc n) [] long = absurd (omega (arith, long))
by_lane (suc n) (d ∷ ds) long = ap (λ (l : List ℕ). lane d ∷ l) (by_lane n ds (omega (arith, long)))

table_is : map lane (range_with_len 0 256) ≡ map value_or_255 (range_with_len 0 256)
table_is = refl

lane_is : (d : ℕ) → d < 256 → lane d ≡ value_or_255 d
lane_is d small =
    sym (get_or-map-range_with_len lane 0 256 d d 0 small (omega arith))
    ∙ ap (λ (t : List ℕ). get_or t d 0) table_is
    ∙ get_or-map-range_with_len value_or_255 0 256 d d 0 small (omega arith)

each_lane : (ds : List ℕ) → Each1 (Fits w8) ds → map lane ds ≡ map value_or_255 ds
each_lane [] fits = refl
each_lane (d ∷ ds) fits = ap₂ (λ (x : ℕ) (xs : List ℕ). x ∷ xs) (lane_is d (let small = fits.0.fits in omega (arith, small))) (each_lane ds fits.1)

pub values_are : (n : ℕ) (ds : List ℕ) → length ds ≡ n → Each1 (Fits w8) ds → lanes n ds ≡ map value_or_255 ds
values_are n ds long fits = by_lane n ds long ∙ each_lane ds fits

-- ---- whether all lanes are digits

small_case : (c : ℕ) (o : Option ℕ) → hex_digit_value c ≡ o → ltb (unwrap_or o 255) 16 ≡ is_some o
small_case c (Some x) is = lt-ltb x 16 (value-small c x is)
small_case c None is = refl

small_is : (c : ℕ) → ltb (value_or_255 c) 16 ≡ is_hex_digit c
small_is c = small_case c (hex_digit_value c) refl

are_small : (text : List ℕ) → list_all (λ x. ltb x 16) (map value_or_255 text) ≡ list_all is_hex_digit text
are_small [] = refl
are_small (c ∷ text) = ap₂ (λ (a b : Bool). a && b) (small_is c) (are_small text)

mask_case : (b : Bool) (m n : ℕ) (rest : Bool) → (rest ≡ true → m + 1 ≡ 2 ^ n) → b && rest ≡ true → cond b 1 0 + 2 * m + 1 ≡ 2 ^ suc n
mask_case true m n rest below is = let full = below is in omega (arith, full)
mask_case false m n rest below is = absurd cc

mask_full : (p : ℕ → Bool) (xs : List ℕ) → list_all p xs ≡ true → mask_l (map p xs) + 1 ≡ 2 ^ length xs
mask_full p [] is = refl
mask_full p (x ∷ xs) is = mask_case (p x) (mask_l (map p xs)) (length xs) (list_all p xs) (mask_full p xs) is

mask_less_case : (b : Bool) (m n : ℕ) (rest : Bool) → (rest ≡ false → m + 1 ≢ 2 ^ n) → b && rest ≡ false → cond b 1 0 + 2 * m + 1 ≢ 2 ^ suc n
mask_less_case true m n rest below is full = below is (omega (arith, full))
mask_less_case false m n rest below is full = absurd (omega (arith, full))

mask_less : (p : ℕ → Bool) (xs : List ℕ) → list_all p xs ≡ false → mask_l (map p xs) + 1 ≢ 2 ^ length xs
mask_less p [] is = absurd cc
mask_less p (x ∷ xs) is = mask_less_case (p x) (mask_l (map p xs)) (length xs) (list_all p xs) (mask_less p xs) is

-- ---- pairs of lanes

abbrev pub pairs : List ℕ → List ℕ
pairs [] = []
pairs (v ∷ []) = []
pairs (v ∷ w ∷ vs) = (v * 16 % 256 + w) % 256 ∷ pairs vs

both : (a b : Bool) → a && b ≡ true → (a ≡ true) × (b ≡ true)
both true b is = (refl, is)
both false b is = absurd cc

decoded : (i : ℕ) (text : List ℕ) → length text % 2 ≡ 0 → list_all is_hex_digit text ≡ true → decode_pairs i text ≡ Ok (pairs (map value_or_255 text))
unfolding decode_pairs
decoded i [] even digits = refl
decoded i (a ∷ []) even digits = absurd (omega (arith, even))
decoded i (a ∷ b ∷ text) even digits =
    let first = both (is_hex_digit a) (list_all is_hex_digit (b ∷ text)) digits in
    let second = both (is_hex_digit b) (list_all is_hex_digit text) first.1 in
    let v = value_or_255 a in
    let w = value_or_255 b in
    let high : v < 16 = ltb-true v 16 (small_is a ∙ first.0) in
    let low : w < 16 = ltb-true w 16 (small_is b ∙ second.0) in
    let byte : v * 16 + w ≡ (v * 16 % 256 + w) % 256 = omega (arith, high, low) in
    decode_pairs-ok_pair i a b (v * 16 + w) text (pair-read a b i v w (match_unwrap (hex_digit_value a)) (match_unwrap (hex_digit_value b)) high low)
    ∙ ap₂ cons_byte byte (decoded (i + 2) text (omega (arith, even)) second.1)

-- ---- eight and sixteen lanes

-- the values of the lanes of a whole text
pub record AreValues (n : ℕ) (text values : List ℕ) : Type 0 where
  pub long : length text ≡ n
  pub wide : length values ≡ n
  pub are : values ≡ map value_or_255 text

pub are_values : (n : ℕ) (text values : List ℕ) → length text ≡ n → values ≡ map value_or_255 (take n text) → AreValues n text values
are_values n text values long from =
    let are = from ∙ ap (map value_or_255) (take_all n text (omega (arith, long))) in
    record { long = long; wide = ap length are ∙ length-map text value_or_255 ∙ long; are = are }

-- a byte of the lanes as the code makes it
abbrev pub byte_at : List ℕ → ℕ → ℕ
byte_at lanes k = (slice_index_or (lanes ++ lanes) k 0 * 16 % 256 + slice_index_or (lanes ++ lanes) (k + 1) 0) % 256

abbrev pub four : List ℕ → List ℕ
four v = byte_at v 0 ∷ byte_at v 2 ∷ byte_at v 4 ∷ byte_at v 6 ∷ []

abbrev pub eight : List ℕ → List ℕ
eight v = byte_at v 0 ∷ byte_at v 2 ∷ byte_at v 4 ∷ byte_at v 6 ∷ byte_at v 8 ∷ byte_at v 10 ∷ byte_at v 12 ∷ byte_at v 14 ∷ []

pub four_are : (v : List ℕ) → length v ≡ 8 → four v ≡ pairs v
four_are (a ∷ b ∷ c ∷ d ∷ e ∷ f ∷ g ∷ h ∷ []) long = refl
four_are _ long = absurd (omega (arith, long))

pub eight_are : (v : List ℕ) → length v ≡ 16 → eight v ≡ pairs v
eight_are (a ∷ b ∷ c ∷ d ∷ e ∷ f ∷ g ∷ h ∷ i ∷ j ∷ k ∷ l ∷ m ∷ n ∷ o ∷ p ∷ []) long = refl
eight_are _ long = absurd (omega (arith, long))

pub lanes_decoded : (n : ℕ) (text values bytes : List ℕ) → AreValues n text values → n % 2 ≡ 0 → bytes ≡ pairs values → list_all is_hex_digit text ≡ true → decode_of text ≡ Ok bytes
lanes_decoded n text values bytes is even made digits =
    let whole : length text % 2 ≡ 0 = ap (λ (k : ℕ). k % 2) is.long ∙ even in
    decode_of-even text whole ∙ decoded 0 text whole digits ∙ ap Ok (sym (made ∙ ap pairs is.are))

-- the mask as the code makes it
pub mask_made : (n : ℕ) (values : List ℕ) → length values ≡ n → n ≤ 64
    → mask_l (map (top 7) (zip2 less values (replicate n 16))) % 2 ^ 64 ≡ mask_l (map (λ x. ltb x 16) values)
mask_made n values wide few = bitmask_splat w8 ltb values n 16 wide few

pub all_digits : (n mask : ℕ) (text values : List ℕ) → AreValues n text values → mask + 1 ≡ 2 ^ n → mask_l (map (λ x. ltb x 16) values) ≡ mask → list_all is_hex_digit text ≡ true
all_digits n mask text values is whole full =
    let test : ℕ → Bool = λ x. ltb x 16 in
    let all : list_all test values ≡ list_all is_hex_digit text = ap (list_all test) is.are ∙ are_small text in
    elim (cases_Bool (list_all test values)) [
      | inl every ↦ sym all ∙ every
      | inr some ↦ absurd (mask_less test values some (ap (λ (k : ℕ). k + 1) full ∙ whole ∙ ap (λ (k : ℕ). 2 ^ k) (sym is.wide)))
    ]

pub no_digits : (n mask : ℕ) (text values : List ℕ) → AreValues n text values → mask + 1 ≡ 2 ^ n → mask_l (map (λ x. ltb x 16) values) ≢ mask → list_all is_hex_digit text ≡ false
no_digits n mask text values is whole lacks =
    let test : ℕ → Bool = λ x. ltb x 16 in
    let all : list_all test values ≡ list_all is_hex_digit text = ap (list_all test) is.are ∙ are_small text in
    elim (cases_Bool (list_all test values)) [
      | inl every ↦ let full = mask_full test values every ∙ ap (λ (k : ℕ). 2 ^ k) is.wide in absurd (lacks (omega (arith, full, whole)))
      | inr some ↦ sym all ∙ some
    ]
