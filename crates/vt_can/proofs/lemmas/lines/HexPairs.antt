-- Pairs of hex digits, by the values of the digits.
use Rattle.std.proofs.Common.{◌≡◌, ℕ, ◌+◌, ◌*◌, ◌%◌, ◌^◌, ◌<◌, ◌≤◌, Bool, true, false, inl, inr, List, length, take, drop, get_or, Option, Some, None, unwrap_or, Ok, is_some, map, refl, sym, ap, ◌∙◌, bit_or, ltb, arith}
use Rattle.std.specs.Prelude.{MatchOption, slice_set}
use Rattle.std.specs.List.{AllPass, list_all, range_with_len}
use Rattle.std.proofs.lemmas.Bool.{both_ways, cases_lt, le-ltb, lt-ltb, ltb-true}
use Rattle.std.proofs.lemmas.List.FromFn.{get_or-map-range_with_len}
use Rattle.std.proofs.lemmas.List.Sums.{AllPass-from_list_all, list_all-from_AllPass}
use Rattle.std.proofs.lemmas.Nat.{and_le_l, and_le_r, or_lt}
use lib.Bits.{or_add_and}
use Rattle.hex.specs.Hex.{decode_of, decode_pairs, hex_digit_value, is_hex_digit, pair_value}
use Rattle.hex.proofs.HexLemmas.{decode_of-even, decode_of-ok}
use Rattle.hex.proofs.Pairs.{decode_done, decode_step, prepend}
use Rattle.vt_can.specs.declared.lines.hex_pairs.TheConstants.{HEX_VALUES}

-- ---- the table

abbrev pub value_or_255 : ℕ → ℕ
value_or_255 c = unwrap_or (hex_digit_value c) 255

table_is : HEX_VALUES ≡ map value_or_255 (range_with_len 0 256)
table_is = refl

-- the number v is the value of the digit c, or 255 where c is no digit
abbrev pub IsValue : ℕ → ℕ → Type 0
IsValue c v = MatchOption (hex_digit_value c) (v ≡ 255) (λ x. v ≡ x)

pub match_unwrap : (o : Option ℕ) → MatchOption o (unwrap_or o 255 ≡ 255) (λ x. unwrap_or o 255 ≡ x)
match_unwrap (Some x) = refl
match_unwrap None = refl

pub table-at : (c : ℕ) → c < 256 → IsValue c (get_or HEX_VALUES c 0)
table-at c h =
    let e : get_or HEX_VALUES c 0 ≡ value_or_255 c = ap (λ (t : List ℕ). get_or t c 0) table_is ∙ get_or-map-range_with_len value_or_255 0 256 c c 0 h (omega arith) in
    rw e (match_unwrap (hex_digit_value c))

-- ---- digits

some_from : (o : Option ℕ) (v : ℕ) → MatchOption o (v ≡ 255) (λ x. v ≡ x) → v < 16 → o ≡ Some v
some_from (Some x) v is small = ap Some (sym is)
some_from None v is small = absurd (omega arith)

digit-read : (c v : ℕ) → IsValue c v → v < 16 → hex_digit_value c ≡ Some v
digit-read c v is small = some_from (hex_digit_value c) v is small

pub value-small : (c x : ℕ) → hex_digit_value c ≡ Some x → x < 16
value-small c x h = grind (arith)

small_from : (c : ℕ) (o : Option ℕ) (v : ℕ) → hex_digit_value c ≡ o → MatchOption o (v ≡ 255) (λ x. v ≡ x) → is_some o ≡ true → v < 16
small_from c (Some x) v at is some = let small = value-small c x at in omega arith
small_from c None v at is some = cc some

digit-small : (c v : ℕ) → IsValue c v → is_hex_digit c ≡ true → v < 16
digit-small c v is digit = small_from c (hex_digit_value c) v refl is digit

pub pair-read : (a b i v w : ℕ) → IsValue a v → IsValue b w → v < 16 → w < 16 → pair_value a b i ≡ Ok (v * 16 + w)
pair-read a b i v w va wb small small' =
    let first = digit-read a v va small in
    let second = digit-read b w wb small' in
    rw (first, second) refl

-- ---- what is seen

or_ge_left : (a b : ℕ) → a ≤ bit_or a b
or_ge_left a b = omega (arith, or_add_and a b, and_le_r a b)

or_ge_right : (a b : ℕ) → b ≤ bit_or a b
or_ge_right a b = omega (arith, or_add_and a b, and_le_l a b)

or_of_4 : (a b : ℕ) → a < 16 → b < 16 → bit_or a b < 16
or_of_4 a b ha hb = or_lt 4 a b ha hb

-- the pairs before the index are decoded while only digits were seen, and another character was seen else
pub record ReadTo (text bytes : List ℕ) (i seen : ℕ) : Type 0 where
  pub read : seen < 16 → decode_pairs 0 text ≡ prepend (take i bytes) (decode_pairs (2 * i) (drop (2 * i) text))
  pub refused : 16 ≤ seen → AllPass is_hex_digit text → ⊥

pub read-more : (text bytes : List ℕ) (i seen v w : ℕ) → 2 * i + 1 < length text → i < length bytes
    → IsValue (get_or text (2 * i) 0) v → IsValue (get_or text (2 * i + 1) 0) w
    → ReadTo text bytes i seen
    → ReadTo text (slice_set bytes i ((v * 2 ^ 4 % 2 ^ 8 + w) % 2 ^ 8)) (i + 1) (bit_or seen (bit_or v w))
read-more text bytes i seen v w fits room va wb h =
    let left = or_ge_left seen (bit_or v w) in
    let right = or_ge_right seen (bit_or v w) in
    let high = or_ge_left v w in
    let low = or_ge_right v w in
    record {
      read = λ small.
          let hv : v < 16 = omega arith in
          let hw : w < 16 = omega arith in
          let pair = pair-read (get_or text (2 * i) 0) (get_or text (2 * i + 1) 0) (2 * i) v w va wb hv hw in
          let byte : (v * 2 ^ 4 % 2 ^ 8 + w) % 2 ^ 8 ≡ v * 16 + w = omega arith in
          rw byte (decode_step text bytes i (v * 16 + w) fits room pair (h.read (omega arith)));
      refused = λ large pass.
          elim (cases_lt seen 16) [
            | inr past ↦ h.refused past pass
            | inl before ↦
                let hv = digit-small (get_or text (2 * i) 0) v va (pass (2 * i) 0 (omega arith)) in
                let hw = digit-small (get_or text (2 * i + 1) 0) w wb (pass (2 * i + 1) 0 fits) in
                let both = or_of_4 v w hv hw in
                let all = or_of_4 seen (bit_or v w) before both in
                absurd (omega arith)
          ];
    }

-- ---- the whole text

pub read-whole : (text bytes : List ℕ) (i seen : ℕ) → length text ≡ 2 * length bytes → length bytes ≤ i → ReadTo text bytes i seen → ltb seen 16 ≡ true → decode_of text ≡ Ok bytes
read-whole text bytes i seen len done h small =
    decode_of-even text (omega arith) ∙ decode_done text bytes i done (omega arith) (h.read (ltb-true seen 16 small))

all_from : (seen : ℕ) (text : List ℕ) (all : Bool) → list_all is_hex_digit text ≡ all → (16 ≤ seen → AllPass is_hex_digit text → ⊥) → (ltb seen 16 ≡ true → AllPass is_hex_digit text) → ltb seen 16 ≡ all
all_from seen text true is refused read =
    elim (cases_lt seen 16) [
      | inl small ↦ lt-ltb seen 16 small
      | inr large ↦ absurd (refused large (AllPass-from_list_all is_hex_digit text is))
    ]
all_from seen text false is refused read =
    elim (cases_lt seen 16) [
      | inl small ↦
          absurd (both_ways (list_all is_hex_digit text) is (list_all-from_AllPass is_hex_digit text (read (lt-ltb seen 16 small))))
      | inr large ↦ le-ltb seen 16 large
    ]

pub read-all : (text bytes : List ℕ) (i seen : ℕ) → length text ≡ 2 * length bytes → length bytes ≤ i → ReadTo text bytes i seen → ltb seen 16 ≡ list_all is_hex_digit text
read-all text bytes i seen len done h =
    all_from seen text (list_all is_hex_digit text) refl h.refused
    (λ small. (decode_of-ok text bytes (read-whole text bytes i seen len done h small)).1)
