-- No record is a proper prefix of another (docs/PROFILE.md, "Records").
use Rattle.std.specs.Prelude.{◌≡◌, ℕ, List, [], ◌++◌}
use Rattle.vt_kinds.specs.Records.{Seen, record_of, HasRecord}

-- A record that is a prefix of another record equals it.
abbrev pub RecordsAreWhole : Type 0
RecordsAreWhole = (a b : ℕ) (o p : Seen) (rest : List ℕ) → HasRecord a o → HasRecord b p → record_of a o ++ rest ≡ record_of b p
    → (rest ≡ []) × (a ≡ b) × (o ≡ p)
