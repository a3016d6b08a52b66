-- Records of types that this terminal leaves out, and whose length is known (ISO 11783-6; docs/PROFILE.md, "All faults").
use Rattle.std.specs.Prelude.{ℕ, ◌+◌, ◌*◌, Bool, true, false, if◌then◌else◌, ◌==◌, nat_le, List, [], ◌∷◌, length, Option, Some, None, slice_index}
use Rattle.vt_records.specs.declared.record_fault.RecordFault.{RecordFault}
use Rattle.vt_records.specs.declared.record_fault.RecordFault.TheVariants as stops
use Rattle.vt_records.specs.Faults.{id_at, type_at}
use Rattle.check_reading.specs.declared.passed.PassedRecord.{PassedRecord}

-- the byte at an index, or 0 past the end, and the number of two bytes at an index
abbrev pub byte : List ℕ → ℕ → ℕ
byte bytes at = slice_index bytes at

abbrev pub word : List ℕ → ℕ → ℕ
word bytes at = byte bytes at + 256 * byte bytes (at + 1)

-- A row of the table: a type, and the number of bytes of its records, by their counts.
pub record Row : Type 0 where
  pub number : ℕ
  pub size : List ℕ → ℕ

abbrev row : ℕ → (List ℕ → ℕ) → Row
row number size = record { number = number; size = size }

-- auxiliary function and input of type 1, and of type 2; auxiliary control designator; window mask; key group; graphics context; output
-- list; colour map; object label references
abbrev pub rows : List Row
rows =
    row 29 (λ b. 6 + 6 * byte b 5)
    ∷ row 30 (λ b. 7 + 6 * byte b 6)
    ∷ row 31 (λ b. 6 + 6 * byte b 5)
    ∷ row 32 (λ b. 6 + 6 * byte b 5)
    ∷ row 33 (λ b. 6)
    ∷ row 34 (λ b. 17 + 2 * byte b 14 + 6 * byte b 15 + 2 * byte b 16)
    ∷ row 35 (λ b. 10 + 2 * byte b 8 + 2 * byte b 9)
    ∷ row 36 (λ b. 34)
    ∷ row 37 (λ b. 12 + 2 * byte b 10 + 2 * byte b 11)
    ∷ row 39 (λ b. 5 + word b 3)
    ∷ row 40 (λ b. 5 + 7 * word b 3)
    ∷ []

abbrev pub size_among : List Row → List ℕ → Option ℕ
size_among [] bytes = None
size_among (r ∷ rs) bytes = if type_at bytes == r.number then Some (r.size bytes) else size_among rs bytes

-- the number of bytes of the record at the front, if its type is in the table
abbrev pub size_in : List ℕ → Option ℕ
size_in bytes = size_among rows bytes

abbrev pub is_of_type : RecordFault → Bool
is_of_type stops.UnknownType = true
is_of_type stops.LeftOutType = true
is_of_type fault = false

abbrev pub if_whole : List ℕ → Option ℕ → Option ℕ
if_whole bytes None = None
if_whole bytes (Some size) = if nat_le size (length bytes) then Some size else None

-- The number of bytes of the record at the front, if it has this fault for its type, its type is in the table, and it is whole.
abbrev pub passed_size : RecordFault → List ℕ → Option ℕ
passed_size fault bytes = if is_of_type fault then if_whole bytes (size_in bytes) else None

-- the record at the front of these bytes, which begin at an index of the pool
abbrev pub passed_record : List ℕ → ℕ → PassedRecord
passed_record bytes at = record { id = id_at bytes; number = type_at bytes; at = at }
