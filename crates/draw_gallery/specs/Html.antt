-- Texts between tags, and as values of attributes in double quotes.
use Rattle.std.specs.Prelude.{ℕ, ◌==◌, if◌then◌else◌, List, [], ◌∷◌, codes}

-- a byte of a text: a reference for each of `&`, `<`, `>` and `"`, and each other byte as it is
abbrev pub html_escaped : ℕ → List ℕ
html_escaped byte =
    if byte == 0x26 then codes "&amp;"
    else if byte == 0x3C then codes "&lt;"
    else if byte == 0x3E then codes "&gt;"
    else if byte == 0x22 then codes "&quot;"
    else byte ∷ []
