-- Texts without control characters.
use Rattle.std.proofs.Common.{◌≡◌, ◌∙◌, ℕ, Bool, true, false, ◌||◌, if◌then◌else◌, List, [], ◌∷◌, refl, ap}
use Rattle.std.specs.List.{list_any}
use Rattle.log_trace.specs.Lines.{is_control, dotted, shown_byte}

stays : (byte : ℕ) → is_control byte ≡ false → shown_byte byte ≡ byte
stays byte none = ap (λ (is : Bool). if is then 46 else byte) none

first : (a b : Bool) → (a || b) ≡ false → a ≡ false
first false b none = refl
first true b none = none

second : (a b : Bool) → (a || b) ≡ false → b ≡ false
second false b none = none
second true false none = refl
second true true none = none

-- A text without control characters is one line as it is.
pub dotted_stays : (text : List ℕ) → list_any is_control text ≡ false → dotted text ≡ text
dotted_stays [] none = refl
dotted_stays (byte ∷ rest) none =
    ap (λ b. b ∷ dotted rest) (stays byte (first (is_control byte) (list_any is_control rest) none))
    ∙ ap (λ bs. byte ∷ bs) (dotted_stays rest (second (is_control byte) (list_any is_control rest) none))
