-- The words for the position of a reference in its object.
use Rattle.std.specs.Prelude.{ℕ, ◌/◌, ◌%◌, true, List, [], ◌∷◌, ◌++◌, codes}
use Rattle.std.specs.Fmt.{decimal, digit_glyph}
use Rattle.check_inspect.specs.declared.finding.Spot.{Spot}
use Rattle.check_inspect.specs.declared.finding.Spot.TheVariants as spots
use Rattle.vt_kinds.specs.declared.place.Place.{Place}
use Rattle.vt_kinds.specs.declared.place.Place.TheVariants as places

abbrev pub place_text : Place → List ℕ
place_text places.ActiveMask = codes "active mask"
place_text places.SoftKeyMask = codes "soft key mask"
place_text (places.Child index) = codes "child " ++ decimal index
place_text (places.Key index) = codes "key " ++ decimal index
place_text places.Font = codes "font"
place_text places.InputAttributes = codes "input attributes"
place_text places.Variable = codes "variable"
place_text places.TargetVariable = codes "target variable"
place_text (places.Item index) = codes "item " ++ decimal index
place_text places.LineAttributes = codes "line attributes"
place_text places.Fill = codes "fill"
place_text places.Pattern = codes "pattern"
place_text places.Value = codes "value"

-- two upper-case hex digits
abbrev pub hex_byte : ℕ → List ℕ
hex_byte n = digit_glyph true (n / 16) ∷ digit_glyph true (n % 16) ∷ []

abbrev pub spot_text : Spot → List ℕ
spot_text (spots.Slot place) = place_text place
spot_text (spots.Through place pointer) = place_text place
spot_text (spots.Entry index event) = codes "macro entry " ++ decimal index ++ codes " (event " ++ decimal event ++ codes ")"
spot_text (spots.Command at function) = codes "command " ++ hex_byte function ++ codes " at byte " ++ decimal at
