-- The names of fields, and the values that have one.
use Rattle.std.specs.Prelude.{ℕ, not, List, map, filter}
use denote.Ref.{Bor}
use Rattle.vt_writing.specs.declared.value.Value.{Value}
use Rattle.vt_writing.specs.Values.{is_count}

-- the bytes of a name
abbrev pub Name : Type 0
Name = List ℕ

-- the bytes of names
abbrev pub name_bytes : List (Bor Name) → List Name
name_bytes names = map (λ n. n.now) names

-- the values but for the counts
abbrev pub not_counts : List Value → List Value
not_counts vs = filter (λ v. not (is_count v)) vs
