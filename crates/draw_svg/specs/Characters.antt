-- Characters of Latin 1 as XML.
use Rattle.std.specs.Prelude.{ℕ, Bool, nat_le, ◌==◌, ◌&&◌, ◌||◌, not, if◌then◌else◌, List, [], ◌∷◌, ◌++◌, codes}
use Rattle.std.specs.Fmt.{decimal}

-- `"`, `&`, `<` and `>`
abbrev pub is_markup : ℕ → Bool
is_markup c = c == 0x22 || c == 0x26 || c == 0x3C || c == 0x3E

abbrev pub is_control : ℕ → Bool
is_control c = nat_le c 0x1F || (nat_le 0x7F c && nat_le c 0x9F)

-- a character that stands for itself
abbrev pub is_plain : ℕ → Bool
is_plain c = nat_le 0x20 c && nat_le c 0x7E && not (is_markup c)

-- a dot stands for each control character
abbrev pub reference_number : ℕ → ℕ
reference_number c = if is_control c then 0xB7 else c

abbrev pub escaped : ℕ → List ℕ
escaped c = if is_plain c then c ∷ [] else codes "&#" ++ (decimal (reference_number c) ++ codes ";")
