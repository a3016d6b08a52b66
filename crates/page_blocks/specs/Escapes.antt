-- Data in a page: lines of JSON without the byte that begins a tag.
use Rattle.std.specs.Prelude.{ℕ, Bool, ◌==◌, if◌then◌else◌, List, [], ◌∷◌, codes}

-- `<`
abbrev pub begins_tag : ℕ → Bool
begins_tag byte = byte == 60

-- A byte as it is, but for `<`: that is a backslash and u003c, which JSON reads as the same.
abbrev pub escaped : ℕ → List ℕ
escaped byte = if begins_tag byte then 92 ∷ codes "u003c" else byte ∷ []
