-- The interfaces of a log.
use Rattle.std.specs.Prelude.{ℕ, ◌==◌, ◌&&◌, not, Bool, true, if◌then◌else◌, Option, Some, None, List, length}
use Rattle.std.specs.Str.{bytes_eq}
use Rattle.vt_recorded.specs.PlainForms.{word, second_word, starts_with_byte}

-- the name of the interface in a line: the word behind a time, which begins with a bracket
abbrev pub interface_in : List ℕ → Option (List ℕ)
interface_in line = if starts_with_byte 40 (word line) && not (length (second_word line) == 0) then Some (second_word line) else None

-- true unless both names are there and differ
abbrev pub is_same_or_missing : Option (List ℕ) → Option (List ℕ) → Bool
is_same_or_missing None other = true
is_same_or_missing (Some name) None = true
is_same_or_missing (Some name) (Some other) = bytes_eq other name

-- whether a line is taken: no interface is wanted, the line names none, or it names the wanted one
abbrev pub is_of_interface : Option (List ℕ) → List ℕ → Bool
is_of_interface wanted line = is_same_or_missing wanted (interface_in line)
