-- The standard palette (docs/PROFILE.md, "Colours").
use Rattle.std.specs.Prelude.{ℕ, ◌-◌, ◌/◌, ◌%◌, nat_lt, if◌then◌else◌, List, [], ◌∷◌, ◌++◌, codes, slice_index_or}

-- colours 0 to 15: black, white, green, teal, maroon, purple, olive, silver, grey, blue, lime, cyan, red, magenta, yellow, navy
abbrev pub named : List (List ℕ)
named =
    codes "#000000" ∷ codes "#FFFFFF" ∷ codes "#009900" ∷ codes "#009999" ∷ codes "#990000" ∷ codes "#990099" ∷ codes "#999900" ∷ codes "#CCCCCC"
    ∷ codes "#999999" ∷ codes "#0000FF" ∷ codes "#00FF00" ∷ codes "#00FFFF" ∷ codes "#FF0000" ∷ codes "#FF00FF" ∷ codes "#FFFF00" ∷ codes "#000099" ∷ []

abbrev pub levels : List (List ℕ)
levels = codes "00" ∷ codes "33" ∷ codes "66" ∷ codes "99" ∷ codes "CC" ∷ codes "FF" ∷ []

abbrev pub level : ℕ → List ℕ
level index = slice_index_or levels index []

-- 16 colours with names, then 216 of six levels of red, green and blue; magenta stands for those that are a maker's own
abbrev pub colour_text : ℕ → List ℕ
colour_text n =
    if nat_lt n 16 then slice_index_or named n []
    else if nat_lt n 232 then codes "#" ++ (level ((n - 16) / 36) ++ (level ((n - 16) / 6 % 6) ++ level ((n - 16) % 6)))
    else codes "#FF00FF"
