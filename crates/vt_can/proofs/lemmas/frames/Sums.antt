-- The fields of an identifier, joined by `|`, are a sum.
use Rattle.std.proofs.Common.{◌≡◌, ℕ, ◌+◌, ◌*◌, ◌/◌, ◌%◌, ◌^◌, ◌<◌, bit_or, ap, ◌∙◌, arith, rules}
use Rattle.std.proofs.lemmas.Nat.{or_shifted}
use Rattle.vt_can.specs.frames.Identifier.{Parts, IsParts, raw_of, parts_of, HasDestination, addressed}

-- the number computed by `CanId::new`
abbrev pub identifier_bits : ℕ → ℕ → ℕ → ℕ → ℕ
identifier_bits p g d s = bit_or (bit_or (bit_or (p * 2 ^ 26 % 2 ^ 32) (g * 2 ^ 8 % 2 ^ 32)) (d * 2 ^ 8 % 2 ^ 32)) s

identifier_bits_sum : (p g d s : ℕ) → p < 2 ^ 3 → g < 2 ^ 18 → g % 2 ^ 8 ≡ 0 → d < 2 ^ 8 → s < 2 ^ 8
    → identifier_bits p g d s ≡ p * 2 ^ 26 + g * 2 ^ 8 + d * 2 ^ 8 + s
identifier_bits_sum p g d s hp hg even hd hs =
    let e0 : p * 2 ^ 26 % 2 ^ 32 ≡ p * 2 ^ 26 = omega arith in
    let e1 : g * 2 ^ 8 % 2 ^ 32 ≡ g * 2 ^ 8 = omega arith in
    let e2 : d * 2 ^ 8 % 2 ^ 32 ≡ d * 2 ^ 8 = omega arith in
    let a = or_shifted p 26 (g * 2 ^ 8) (omega arith) in
    let a-is : p * 2 ^ 26 + g * 2 ^ 8 ≡ (p * 2 ^ 10 + g / 2 ^ 8) * 2 ^ 16 = omega arith in
    let b = or_shifted (p * 2 ^ 10 + g / 2 ^ 8) 16 (d * 2 ^ 8) (omega arith) in
    let b-is : (p * 2 ^ 10 + g / 2 ^ 8) * 2 ^ 16 + d * 2 ^ 8 ≡ (p * 2 ^ 18 + g + d) * 2 ^ 8 = omega arith in
    let c = or_shifted (p * 2 ^ 18 + g + d) 8 s hs in
    rw (e0, e1, e2, a, a-is, b, b-is, c) (omega arith)

pub identifier_bits-raw : (p g d s : ℕ) → p < 2 ^ 3 → HasDestination g → d < 2 ^ 8 → s < 2 ^ 8 → identifier_bits p g d s ≡ raw_of (addressed p g d s)
identifier_bits-raw p g d s hp group hd hs =
    let sum = identifier_bits_sum p g d s hp group.fits group.no_destination hd hs in
    let fits = group.fits in
    let even = group.no_destination in
    sum ∙ omega arith

parts_of-raw_of : (p : Parts) → IsParts p → parts_of (raw_of p) ≡ p
parts_of-raw_of p h = search rules

pub identifier_bits-parts : (p g d s : ℕ) → p < 2 ^ 3 → HasDestination g → d < 2 ^ 8 → s < 2 ^ 8 → parts_of (identifier_bits p g d s) ≡ addressed p g d s
identifier_bits-parts p g d s hp group hd hs =
    let fits = group.fits in
    ap parts_of (identifier_bits-raw p g d s hp group hd hs)
    ∙ parts_of-raw_of (addressed p g d s) (record { priority = hp; extended_data_page = omega arith; data_page = omega arith; pdu_format = omega arith; pdu_specific = hd; source = hs })

pub identifier_bits-small : (p g d s : ℕ) → p < 2 ^ 3 → HasDestination g → d < 2 ^ 8 → s < 2 ^ 8 → identifier_bits p g d s < 2 ^ 29
identifier_bits-small p g d s hp group hd hs =
    let fits = group.fits in
    let sum = identifier_bits_sum p g d s hp group.fits group.no_destination hd hs in
    omega arith
