-- Overwriting a text without changing its length (docs/PROFILE.md, "Texts").
use Rattle.std.specs.Prelude.{ℕ, ◌-◌, List, ◌++◌, length, replicate}

-- a text padded with spaces to a size
abbrev pub filled_up : ℕ → List ℕ → List ℕ
filled_up size text = text ++ replicate (size - length text) 32
