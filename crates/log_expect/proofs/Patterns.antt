-- What fits a pattern.
use Rattle.std.proofs.Common.{◌≡◌, ◌∙◌, ℕ, suc, ◌<◌, ◌↔◌, eqb, cond, Bool, true, false, not, ◌&&◌, List, [], ◌∷◌, ◌++◌, map, length, get_or, drop, refl, sym, ap, ap₂, subst, arith}
use Rattle.std.specs.Str.{bytes_eq}
use Rattle.std.proofs.lemmas.Bool.{and_parts, and_right}
use Rattle.std.proofs.lemmas.Bool.Decides.{Decides-eqb}
use Rattle.std.proofs.Math.Seq.{drop-cons}
use Rattle.std.proofs.lemmas.List.{length-map}
use Rattle.log_expect.specs.Patterns.{BytePattern, Only, Any, byte_fits, fits, Fits, FitsByte, wildcard_or_byte, pattern_of, shown_byte}

-- ---- patterns of texts

shown-cond : (t : Bool) (byte : ℕ) → eqb byte 63 ≡ t → shown_byte (cond t Any (Only byte)) ≡ byte
shown-cond true byte is = sym ((Decides-eqb byte 63).0 is)
shown-cond false byte is = refl

shown-wildcards : (text : List ℕ) → map shown_byte (map wildcard_or_byte text) ≡ text
shown-wildcards [] = refl
shown-wildcards (byte ∷ text) = ap₂ ◌∷◌ (shown-cond (eqb byte 63) byte refl) (shown-wildcards text)

shown-bytes : (text : List ℕ) → map shown_byte (map Only text) ≡ text
shown-bytes [] = refl
shown-bytes (byte ∷ text) = ap (λ more. byte ∷ more) (shown-bytes text)

-- the text of a pattern
pub shown-pattern_of : (wild : Bool) (text : List ℕ) → map shown_byte (pattern_of wild text) ≡ text
shown-pattern_of true text = shown-wildcards text
shown-pattern_of false text = shown-bytes text

pub length-pattern_of : (wild : Bool) (text : List ℕ) → length (pattern_of wild text) ≡ length text
length-pattern_of true text = length-map text wildcard_or_byte
length-pattern_of false text = length-map text Only

pub fits-bytes : (text line : List ℕ) → fits (map Only text) line ≡ bytes_eq text line
fits-bytes [] [] = refl
fits-bytes [] (byte ∷ line) = refl
fits-bytes (expected ∷ text) [] = refl
fits-bytes (expected ∷ text) (byte ∷ line) = ap (λ b. eqb expected byte && b) (fits-bytes text line)

-- ---- parts of texts

and-assoc : (a b c : Bool) → (a && b) && c ≡ a && (b && c)
and-assoc true b c = refl
and-assoc false b c = refl

pub fits-front : (front more : List BytePattern) (first rest : List ℕ) → length front ≡ length first → fits (front ++ more) (first ++ rest) ≡ fits front first && fits more rest
fits-front [] more [] rest long = refl
fits-front [] more (byte ∷ first) rest long = absurd (omega (arith, long))
fits-front (expected ∷ front) more [] rest long = absurd (omega (arith, long))
fits-front (expected ∷ front) more (byte ∷ first) rest long =
    ap (λ b. byte_fits expected byte && b) (fits-front front more first rest (omega (arith, long)))
    ∙ sym (and-assoc (byte_fits expected byte) (fits front first) (fits more rest))

pub fits-short : (front more : List BytePattern) (text : List ℕ) → length text < length front → fits (front ++ more) text ≡ false
fits-short [] more text short = absurd (omega (arith, short))
fits-short (expected ∷ front) more [] short = refl
fits-short (expected ∷ front) more (byte ∷ text) short =
    and_right (byte_fits expected byte) (fits (front ++ more) text) (fits-short front more text (omega (arith, short)))

-- ---- what fits, as a fact

byte-fits : (expected : BytePattern) (byte : ℕ) → byte_fits expected byte ≡ true → FitsByte expected byte
byte-fits (Only expected) byte fit = sym ((Decides-eqb expected byte).0 fit)
byte-fits Any byte fit = λ is. absurd (omega (arith, ap {B = ℕ} (λ b. cond b 1 0) (sym fit ∙ ap not ((Decides-eqb byte 10).1 is))))

pub fits-Fits : (expected : List BytePattern) (printed : List ℕ) → fits expected printed ≡ true → Fits expected printed
fits-Fits [] [] fit = tt
fits-Fits [] (byte ∷ printed) fit = absurd (omega (arith, ap {B = ℕ} (λ b. cond b 1 0) fit))
fits-Fits (expected ∷ more) [] fit = absurd (omega (arith, ap {B = ℕ} (λ b. cond b 1 0) fit))
fits-Fits (expected ∷ more) (byte ∷ printed) fit =
    let parts = and_parts (byte_fits expected byte) (fits more printed) fit in
    (byte-fits expected byte parts.0, fits-Fits more printed parts.1)

same-text : (expected printed : List ℕ) → Fits (map Only expected) printed → printed ≡ expected
same-text [] [] fit = refl
same-text [] (byte ∷ printed) fit = absurd fit
same-text (expected ∷ more) [] fit = absurd fit
same-text (expected ∷ more) (byte ∷ printed) fit = ap₂ ◌∷◌ fit.0 (same-text more printed fit.1)

own-text : (text : List ℕ) → Fits (map Only text) text
own-text [] = tt
own-text (byte ∷ text) = (refl, own-text text)

pub without-wildcards : (expected printed : List ℕ) → Fits (pattern_of false expected) printed ↔ (printed ≡ expected)
without-wildcards expected printed = (same-text expected printed, λ is. subst (λ (text : List ℕ). Fits (map Only expected) text) (sym is) (own-text expected))

-- ---- a loop over the bytes of a text with wildcards

nothing-fits : (expected : BytePattern) (more : List BytePattern) (left : List ℕ) → length left ≡ 0 → fits (expected ∷ more) left ≡ false
nothing-fits expected more [] none = refl
nothing-fits expected more (byte ∷ left) none = absurd (omega (arith, none))

pub line-ends : (place : ℕ) (text left : List ℕ) → place < length text → length left ≡ 0 → fits (map wildcard_or_byte (drop place text)) left ≡ false
line-ends place text left inside none =
    ap (λ (rest : List ℕ). fits (map wildcard_or_byte rest) left) (drop-cons text place 0 inside)
    ∙ nothing-fits (wildcard_or_byte (get_or text place 0)) (map wildcard_or_byte (drop (suc place) text)) left none
