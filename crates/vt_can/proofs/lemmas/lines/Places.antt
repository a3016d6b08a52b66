-- A byte among sixteen bytes of a text.
use Rattle.std.proofs.Common.{◌≡◌, ℕ, zero, suc, ◌+◌, ◌%◌, ◌^◌, ◌<◌, ◌≤◌, Bool, true, false, not, cond, eqb, List, length, take, get_or, map, replicate, refl, sym, ap, ◌∙◌, inl, inr, add-zero, w8, w64, arith}
use Rattle.std.proofs.Math.Nat.{zero-div}
use Rattle.std.specs.Int.{bit_at, trailing_zeros}
use Rattle.std.specs.Simd.Lanes.{chunk, mask_l, top, zip2}
use Rattle.std.proofs.lemmas.Bool.{cases_lt, eqb-true}
use Rattle.std.proofs.lemmas.List.{get_or-map, get_or_past, length-map}
use Rattle.std.proofs.lemmas.List.Elements.{All-more}
use Rattle.std.proofs.lemmas.Nat.Bits.{bit_at-trailing_zeros}
use Rattle.std.proofs.lemmas.Simd.{bit_mask_l, bitmask_splat, get_or-chunk, length-chunk, mask_l-lt}
use Rattle.vt_can.specs.lines.Fields.{IsFirstPlace, Lacks}

-- a bit for each of sixteen bytes, set where the byte stands
abbrev pub marks_of : ℕ → ℕ → List ℕ → ℕ
marks_of byte from text = mask_l (map (λ x. eqb x byte) (chunk from 16 text))

-- the mask as the code makes it
pub marks-made : (byte from : ℕ) (text : List ℕ) → from + 16 ≤ length text
    → mask_l (map (top 7) (zip2 (λ a b. cond (eqb a b) 255 0) (chunk from 16 text) (replicate 16 byte))) % 2 ^ 64 ≡ marks_of byte from text
marks-made byte from text fits =
    bitmask_splat w8 eqb (chunk from 16 text) 16 byte (length-chunk from 16 text fits) (omega arith)

read_map : (f : ℕ → Bool) (xs : List ℕ) (k : ℕ) → k < length xs → get_or (map f xs) k false ≡ f (get_or xs k 0)
read_map f xs k h = get_or-map f xs k 0 false h

mark-at : (byte from : ℕ) (text : List ℕ) (k : ℕ) → from + 16 ≤ length text → k < 16
    → bit_at (marks_of byte from text) k ≡ cond (eqb (get_or text (from + k) 0) byte) 1 0
mark-at byte from text k fits h =
    let len = length-chunk from 16 text fits in
    bit_mask_l (map (λ x. eqb x byte) (chunk from 16 text)) k
    ∙ ap (λ (b : Bool). cond b 1 0) (read_map (λ x. eqb x byte) (chunk from 16 text) k (omega arith))
    ∙ ap (λ (x : ℕ). cond (eqb x byte) 1 0) (get_or-chunk from 16 text k 0 h)

mark-past : (byte from : ℕ) (text : List ℕ) (k : ℕ) → from + 16 ≤ length text → 16 ≤ k → bit_at (marks_of byte from text) k ≡ 0
mark-past byte from text k fits h =
    let len = length-chunk from 16 text fits in
    let maps = length-map (chunk from 16 text) (λ x. eqb x byte) in
    bit_mask_l (map (λ x. eqb x byte) (chunk from 16 text)) k
    ∙ ap (λ (b : Bool). cond {A = ℕ} b 1 0) (get_or_past (map (λ x. eqb x byte) (chunk from 16 text)) k false (omega arith))

zero_bit : (k : ℕ) → bit_at 0 k ≡ 0
zero_bit k = ap (λ (n : ℕ). n % 2) (zero-div (2 ^ k))

unset : (b : Bool) → cond {A = ℕ} b 1 0 ≡ 0 → not b ≡ true
unset true e = absurd (omega arith)
unset false e = refl

set_is : (b : Bool) → cond {A = ℕ} b 1 0 ≡ 1 → b ≡ true
set_is true e = refl
set_is false e = absurd (omega arith)

-- a text lacks the byte a little further
lacks_more : (byte : ℕ) (text : List ℕ) (i n : ℕ) → i + n ≤ length text → Lacks byte (take i text)
    → ((k : ℕ) → k < n → not (eqb (get_or text (i + k) 0) byte) ≡ true) → Lacks byte (take (i + n) text)
lacks_more byte text i zero fits before each = rw add-zero before
lacks_more byte text i (suc n) fits before each =
    let shorter = lacks_more byte text i n (omega arith) before (λ k h. each k (omega arith)) in
    let e : i + suc n ≡ i + n + 1 = omega arith in
    rw e (All-more (λ other. not (eqb other byte) ≡ true) text (i + n) 0 (omega arith) shorter (each n (omega arith)))

-- no mark
pub none-among : (byte from : ℕ) (text : List ℕ) → from + 16 ≤ length text → Lacks byte (take from text) → marks_of byte from text ≡ 0 → Lacks byte (take (from + 16) text)
none-among byte from text fits before none =
    lacks_more byte text from 16 fits before
    (λ k h. unset (eqb (get_or text (from + k) 0) byte) (sym (mark-at byte from text k fits h) ∙ ap (λ (m : ℕ). bit_at m k) none ∙ zero_bit k))

-- the lowest mark
pub first-among : (byte from : ℕ) (text : List ℕ) → from + 16 ≤ length text → Lacks byte (take from text) → (marks_of byte from text ≡ 0 → ⊥)
    → IsFirstPlace byte text (from + trailing_zeros w64 (marks_of byte from text))
first-among byte from text fits before some =
    let m = marks_of byte from text in
    let place = trailing_zeros w64 m in
    let len : length (map (λ x. eqb x byte) (chunk from 16 text)) ≡ 16 = length-map (chunk from 16 text) (λ x. eqb x byte) ∙ length-chunk from 16 text fits in
    let small : m < 65536 = rw len at (mask_l-lt (map (λ x. eqb x byte) (chunk from 16 text))) in
    let lowest = bit_at-trailing_zeros w64 m (omega (arith, some)) (omega arith) in
    let low : place < 16 = elim (cases_lt place 16) [
      | inl below ↦ below
      | inr past ↦ let clear = mark-past byte from text place fits past in let set = lowest.1 in absurd (omega arith)
    ] in
    record {
      within = omega arith;
      stands = eqb-true (get_or text (from + place) 0) byte (set_is (eqb (get_or text (from + place) 0) byte) (sym (mark-at byte from text place fits low) ∙ lowest.1));
      before = lacks_more byte text from place (omega arith) before
          (λ k h. unset (eqb (get_or text (from + k) 0) byte) (sym (mark-at byte from text k fits (omega arith)) ∙ lowest.2 k h));
    }
