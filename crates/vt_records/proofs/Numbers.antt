-- A number read from the front of bytes encodes to the same bytes.
use Rattle.std.proofs.Common.{◌≡◌, ℕ, zero, suc, ◌+◌, ◌*◌, ◌/◌, ◌%◌, ◌^◌, ◌<◌, ◌≤◌, Bool, true, false, cond, ltb, List, [], ◌∷◌, ◌++◌, length, get_or, take, drop, Option, Some, None, refl, sym, ap, subst, ◌∙◌, append_assoc, arith, inl, inr}
use Rattle.std.proofs.Math.Nat.{div-div-eq-div-mul, pow-succ'}
use Rattle.std.proofs.lemmas.Bool.{cases_lt, ltb-false, le-ltb, lt-ltb}
use Rattle.std.proofs.lemmas.List.{append-nil, take_at, drop_at, take-append-drop, length-append, length-take, length-drop, get_or-drop, get_or-take, get_or_past}
use Rattle.std.specs.Int.{byte_at, bytes_low_first}
use Rattle.byteorder.specs.Endian.{little_number, little_bytes}
use Rattle.byteorder.specs.Numbers.{little_from-cons, little_from-lt, little_number-reads_back, length-bytes_low_first}
use mir.Val.{bits}
use mir.ValLaws.{of_z_fits, to_z-Fits, to_z-of_z, of_z-to_z}
use Rattle.std.specs.Int.{Width, w8, w16, w32, w64, w128, cast_signed, cast_unsigned}
use Rattle.std.specs.Prelude.{ℤ, FitsSigned}
use Rattle.vt_kinds.specs.Layout.{bytes_in}
use Rattle.vt_records.specs.TableReads.{◌>>=◌, bytes_at, number_at, signed_at}

abbrev pub IsBytes : List ℕ → Type 0
IsBytes bytes = (i : ℕ) → get_or bytes i 0 < 256

pub IsBytes-drop : (n : ℕ) (bytes : List ℕ) → IsBytes bytes → IsBytes (drop n bytes)
IsBytes-drop n bytes h i = rw get_or-drop (h (n + i))

pub IsBytes-take : (n : ℕ) (bytes : List ℕ) → IsBytes bytes → IsBytes (take n bytes)
IsBytes-take n bytes h i =
    elim (cases_lt i n) [
      | inl lt ↦ rw (get_or-take n bytes i 0 lt) (h i)
      | inr le ↦ rw (get_or_past (take n bytes) i 0 (omega (arith, length-take n bytes))) (omega arith)
    ]

pub IsBytes-rest : (b : ℕ) (bytes : List ℕ) → IsBytes (b ∷ bytes) → IsBytes bytes
IsBytes-rest b bytes h i = h (suc i)

-- a bind with a value has a value in its first step
pub bind_some : {A B : Type 0} (r : Option A) (f : A → Option B) (y : B) → (r >>= f) ≡ Some y → (x : A) × (r ≡ Some x) × (f x ≡ Some y)
bind_some (Some x) f y e = (x, refl, e)
bind_some None f y e = absurd cc

pub some_is : {A : Type 0} (x y : A) → ◌≡◌ {A = Option A} (Some x) (Some y) → x ≡ y
some_is x y e = cc

-- a guard with a value has not failed
guard_some : {A : Type 0} (b : Bool) (x y : A) → cond b None (Some x) ≡ Some y → (b ≡ false) × (x ≡ y)
guard_some true x y e = absurd cc
guard_some false x y e = (refl, cc)

-- a reader split these bytes off the front
pub record Takes (all text rest : List ℕ) : Type 0 where
  pub parts : all ≡ text ++ rest
  pub rest_fits : IsBytes rest

pub Takes-nothing : (all : List ℕ) → IsBytes all → Takes all [] all
Takes-nothing all fits = record { parts = refl; rest_fits = fits }

pub Takes-then : (a x b y c : List ℕ) → Takes a x b → Takes b y c → Takes a (x ++ y) c
Takes-then a x b y c p q = record { parts = p.parts ∙ ap (λ (t : List ℕ). x ++ t) q.parts ∙ sym (append_assoc x y c); rest_fits = q.rest_fits }

-- ---- byte lists

pub bytes_take : (count : ℕ) (all : List ℕ) (x : List ℕ × List ℕ) → IsBytes all → bytes_at count all ≡ Some x → Takes all x.0 x.1 × (length x.0 ≡ count) × IsBytes x.0
unfolding bytes_at
bytes_take count all x fits e =
    let g = guard_some (ltb (length all) count) (take count all, drop count all) x e in
    let long : count ≤ length all = ltb-false _ _ g.0 in
    subst (λ (y : List ℕ × List ℕ). Takes all y.0 y.1 × (length y.0 ≡ count) × IsBytes y.0) g.1
    (record { parts = sym (take-append-drop count all); rest_fits = IsBytes-drop count all fits }, omega (arith, length-take count all), IsBytes-take count all fits)

pub bytes_again : (bs rest : List ℕ) (count : ℕ) → length bs ≡ count → bytes_at count (bs ++ rest) ≡ Some (bs, rest)
unfolding bytes_at
bytes_again bs rest count len =
    let long : ltb (length (bs ++ rest)) count ≡ false = le-ltb _ _ (omega (arith, length-append bs rest)) in
    rw (long, take_at bs rest count len, drop_at bs rest count len) refl

-- ---- unsigned numbers

-- a lower byte shifts the other bytes up by one
byte_above : (i a y : ℕ) → a < 256 → byte_at (suc i) (a + 256 * y) ≡ byte_at i y
byte_above zero a y lt = omega arith
byte_above (suc i) a y lt =
    let one : (a + 256 * y) / 256 ≡ y = omega arith in
    let power : 256 ^ suc (suc i) ≡ 256 * 256 ^ suc i = pow-succ' 256 (suc i) in
    ap (λ (p : ℕ). (a + 256 * y) / p % 256) power
    ∙ ap (λ (q : ℕ). q % 256) (sym (div-div-eq-div-mul (a + 256 * y) 256 (256 ^ suc i)))
    ∙ ap (λ (q : ℕ). q / 256 ^ suc i % 256) one

bytes_above : (k i a y : ℕ) → a < 256 → bytes_low_first (suc i) k (a + 256 * y) ≡ bytes_low_first i k y
bytes_above zero i a y lt = refl
bytes_above (suc k) i a y lt = rw (byte_above i a y lt, bytes_above k (suc i) a y lt) refl

-- the bytes of the number in some bytes are those bytes
pub number_spelled : (bs : List ℕ) → IsBytes bs → little_bytes (length bs) (little_number (length bs) bs) ≡ bs
number_spelled [] fits = refl
number_spelled (a ∷ bs) fits =
    let n = length bs in
    let y = little_number n bs in
    let low : a < 256 = fits 0 in
    let first : byte_at 0 (a + 256 * y) ≡ a = omega arith in
    let others : bytes_low_first 1 n (a + 256 * y) ≡ bs = bytes_above n 0 a y low ∙ number_spelled bs (IsBytes-rest a bs fits) in
    rw (little_from-cons 0 n a bs, first, others) refl

pub number_takes : (size : ℕ) (all : List ℕ) (x : ℕ × List ℕ) → IsBytes all → number_at size all ≡ Some x → Takes all (little_bytes size x.0) x.1 × (x.0 < 256 ^ size)
unfolding number_at
number_takes size all x fits e =
    let b = bind_some (bytes_at size all) (λ front. Some (little_number size front.0, front.1)) x e in
    let front = b.0 in
    let t = bytes_take size all front fits b.1 in
    let spelled : little_bytes size (little_number size front.0) ≡ front.0 = subst (λ (n : ℕ). little_bytes n (little_number n front.0) ≡ front.0) t.1 (number_spelled front.0 t.2) in
    subst (λ (y : ℕ × List ℕ). Takes all (little_bytes size y.0) y.1 × (y.0 < 256 ^ size)) (some_is (little_number size front.0, front.1) x b.2)
    (rw spelled t.0, little_from-lt 0 size front.0 t.2)

pub number_again : (size n : ℕ) (rest : List ℕ) → n < 256 ^ size → number_at size (little_bytes size n ++ rest) ≡ Some (n, rest)
unfolding number_at
number_again size n rest lt =
    let whole : little_number size (little_bytes size n) ≡ n = subst (λ (bs : List ℕ). little_number size bs ≡ n) (append-nil (little_bytes size n)) (little_number-reads_back size n [] lt) in
    rw (bytes_again (little_bytes size n) rest size (length-bytes_low_first 0 size n), whole) refl

-- ---- signed numbers

width_is : (w : Width) → 256 ^ bytes_in w ≡ 2 ^ bits w
width_is w8 = refl
width_is w16 = refl
width_is w32 = refl
width_is w64 = refl
width_is w128 = refl

pub signed_takes : (w : Width) (all : List ℕ) (x : ℤ × List ℕ) → IsBytes all → signed_at w all ≡ Some x
    → Takes all (little_bytes (bytes_in w) (cast_unsigned w x.0)) x.1 × FitsSigned w x.0
unfolding signed_at
signed_takes w all x fits e =
    let n = bind_some (number_at (bytes_in w) all) (λ n. Some (cast_signed w n.0, n.1)) x e in
    let t = number_takes (bytes_in w) all n.0 fits n.1 in
    let below : n.0.0 < 2 ^ bits w = rw (width_is w) at t.1 in
    subst (λ (y : ℤ × List ℕ). Takes all (little_bytes (bytes_in w) (cast_unsigned w y.0)) y.1 × FitsSigned w y.0) (some_is (cast_signed w n.0.0, n.0.1) x n.2)
    (rw (of_z-to_z w n.0.0 (record { fits = below })) t.0, to_z-Fits w n.0.0 (record { fits = below }))

pub signed_again : (w : Width) (z : ℤ) (rest : List ℕ) → FitsSigned w z → signed_at w (little_bytes (bytes_in w) (cast_unsigned w z) ++ rest) ≡ Some (z, rest)
unfolding signed_at
signed_again w z rest fits =
    let below : cast_unsigned w z < 256 ^ bytes_in w = rw (width_is w) (of_z_fits w z fits).fits in
    rw (number_again (bytes_in w) (cast_unsigned w z) rest below, to_z-of_z w z fits) refl

-- ---- too few bytes

pub number_short : (size : ℕ) (all : List ℕ) → length all < size → number_at size all ≡ None
unfolding number_at bytes_at
number_short size all lt = rw (lt-ltb (length all) size lt) refl

number_long : (size : ℕ) (all : List ℕ) → size ≤ length all → (n : ℕ) × (number_at size all ≡ Some (n, drop size all))
unfolding number_at bytes_at
number_long size all le = (little_number size (take size all), rw (le-ltb (length all) size le) refl)

-- a number and more cannot be read from too few bytes
pub number_then_short : {A : Type 0} (size more : ℕ) (all : List ℕ) (f : ℕ × List ℕ → Option A) → length all < size + more → ((n : ℕ) (rest : List ℕ) → length rest < more → f (n, rest) ≡ None) → (number_at size all >>= f) ≡ None
number_then_short size more all f lt later =
    elim (cases_lt (length all) size) [
      | inl short ↦ rw (number_short size all short) refl
      | inr long ↦ let n = number_long size all long in rw n.1 (later n.0 (drop size all) (omega (arith, length-drop size all)))
    ]

pub signed_then_short : {A : Type 0} (w : Width) (more : ℕ) (all : List ℕ) (f : ℤ × List ℕ → Option A) → length all < bytes_in w + more → ((z : ℤ) (rest : List ℕ) → length rest < more → f (z, rest) ≡ None) → (signed_at w all >>= f) ≡ None
unfolding signed_at
signed_then_short w more all f lt later =
    elim (cases_lt (length all) (bytes_in w)) [
      | inl short ↦ rw (number_short (bytes_in w) all short) refl
      | inr long ↦ let n = number_long (bytes_in w) all long in rw n.1 (later (cast_signed w n.0) (drop (bytes_in w) all) (omega (arith, length-drop (bytes_in w) all)))
    ]
