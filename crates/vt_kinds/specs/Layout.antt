-- Record layouts: a table of fields, and the bytes that a table gives to its values
-- (docs/PROFILE.md, "Records").
use Rattle.std.specs.Prelude.{◌≡◌, ◌<◌, ◌≤◌, ℕ, ℤ, ◌^◌, List, [], ◌∷◌, ◌++◌, length, map, Option, Some, None, FitsSigned}
use Rattle.std.specs.Int.{Width, w8, w16, w32, w64, w128, cast_unsigned}
use Rattle.std.specs.List.{flat_map, AllByRecursion}
use Rattle.byteorder.specs.Endian.{little_bytes}
use Rattle.vt_kinds.specs.declared.fields.Field as names
use Rattle.vt_kinds.specs.Scales.{IsScale}

-- The elements that a count field counts: children or keys; macros; or the record's languages, items, points or bytes.
pub data Counted : Type 0 where
  Objects : Counted
  Macros : Counted
  Others : Counted

-- The encoding of a number, little endian: unsigned in a number of bytes, or signed in two's complement.
pub data Size : Type 0 where
  Unsigned : (size : ℕ) → Size
  Signed : (width : Width) → Size

-- A field of a record.
pub data RecordField : Type 0 where
  Number : (size : Size) → RecordField
  -- the number of rows or bytes of a later field
  Count : (size : ℕ) → (of : Counted) → RecordField
  -- as many rows as counted, each with numbers of these sizes
  Rows : (of : Counted) → (sizes : List Size) → RecordField
  -- as many bytes as counted
  Bytes : (of : Counted) → RecordField
  -- the four bytes of a scale
  ScaleBytes : RecordField
  -- the number of decimals, one byte
  DecimalPlaces : RecordField

-- a number, unsigned or signed
pub data Numeral : Type 0 where
  natural : ℕ → Numeral
  integer : ℤ → Numeral

-- the value of a field
pub data Value : Type 0 where
  number : Numeral → Value
  rows : List (List Numeral) → Value
  bytes : List ℕ → Value

-- a field in the record of an A, with its attribute name (if it is an attribute) and its value in an A
pub record TableField (A : Type 0) : Type 0 where
  pub field : RecordField
  pub name : Option names.Field
  pub value : A → Value

abbrev pub Table : Type 0 → Type 0
Table A = List (TableField A)

abbrev pub fields : {A : Type 0} → Table A → List RecordField
fields t = map (λ f. f.field) t

abbrev pub names_in : {A : Type 0} → Table A → List (Option names.Field)
names_in t = map (λ f. f.name) t

abbrev pub values : {A : Type 0} → Table A → A → List Value
values t x = map (λ f. f.value x) t

-- ---- constructors of tables

abbrev pub unsigned : {A : Type 0} → ℕ → (A → ℕ) → TableField A
unsigned size f = record { field = Number (Unsigned size); name = None; value = λ x. number (natural (f x)) }

abbrev pub byte : {A : Type 0} → (A → ℕ) → TableField A
byte f = unsigned 1 f

abbrev pub word : {A : Type 0} → (A → ℕ) → TableField A
word f = unsigned 2 f

abbrev pub long : {A : Type 0} → (A → ℕ) → TableField A
long f = unsigned 4 f

abbrev pub signed_long : {A : Type 0} → (A → ℤ) → TableField A
signed_long f = record { field = Number (Signed w32); name = None; value = λ x. number (integer (f x)) }

-- marks a field as an attribute
abbrev pub attribute : {A : Type 0} → names.Field → TableField A → TableField A
attribute name f = record f { name = Some name }

-- the count field of a list
abbrev pub count : {A X : Type 0} → ℕ → Counted → (A → List X) → TableField A
count size of f = record { field = Count size of; name = None; value = λ x. number (natural (length (f x))) }

-- the rows field of a list: one row of numbers for each element
abbrev pub rows_of : {A X : Type 0} → Counted → List Size → (X → List Numeral) → (A → List X) → TableField A
rows_of of sizes numbers f = record { field = Rows of sizes; name = None; value = λ x. rows (map numbers (f x)) }

abbrev pub bytes_of : {A : Type 0} → Counted → (A → List ℕ) → TableField A
bytes_of of f = record { field = Bytes of; name = None; value = λ x. bytes (f x) }

-- ---- the spelling of values

-- the number of bytes of a width
abbrev pub bytes_in : Width → ℕ
bytes_in w8 = 1
bytes_in w16 = 2
bytes_in w32 = 4
bytes_in w64 = 8
bytes_in w128 = 16

abbrev pub number_spelling : Size → Numeral → List ℕ
number_spelling (Unsigned size) (natural n) = little_bytes size n
number_spelling (Signed width) (integer z) = little_bytes (bytes_in width) (cast_unsigned width z)
number_spelling _ _ = []

abbrev pub row_spelling : List Size → List Numeral → List ℕ
row_spelling [] ns = []
row_spelling (size ∷ sizes) [] = []
row_spelling (size ∷ sizes) (n ∷ ns) = number_spelling size n ++ row_spelling sizes ns

abbrev pub rows_spelling : List Size → List (List Numeral) → List ℕ
rows_spelling sizes rs = flat_map (row_spelling sizes) rs

abbrev pub field_spelling : RecordField → Value → List ℕ
field_spelling (Number size) (number n) = number_spelling size n
field_spelling (Count size of) (number n) = number_spelling (Unsigned size) n
field_spelling (Rows of sizes) (rows rs) = rows_spelling sizes rs
field_spelling (Bytes of) (bytes bs) = bs
field_spelling ScaleBytes (number n) = number_spelling (Unsigned 4) n
field_spelling DecimalPlaces (number n) = number_spelling (Unsigned 1) n
field_spelling _ _ = []

abbrev pub fields_spelling : List RecordField → List Value → List ℕ
fields_spelling [] vs = []
fields_spelling (f ∷ fs) [] = []
fields_spelling (f ∷ fs) (v ∷ vs) = field_spelling f v ++ fields_spelling fs vs

-- ---- the values that have an encoding

-- the counts read so far
pub record RecordCounts : Type 0 where
  pub objects : ℕ
  pub macros : ℕ
  pub others : ℕ

abbrev pub no_counts : RecordCounts
no_counts = record { objects = 0; macros = 0; others = 0 }

abbrev pub counted : Counted → ℕ → RecordCounts → RecordCounts
counted Objects n counts = record counts { objects = n }
counted Macros n counts = record counts { macros = n }
counted Others n counts = record counts { others = n }

abbrev pub count_of : Counted → RecordCounts → ℕ
count_of Objects counts = counts.objects
count_of Macros counts = counts.macros
count_of Others counts = counts.others

-- a number fits its size
abbrev pub Fits : Size → Numeral → Type 0
Fits (Unsigned size) (natural n) = n < 256 ^ size
Fits (Signed width) (integer z) = FitsSigned width z
Fits _ _ = ⊥

-- the numbers of a row fit their sizes
abbrev pub RowFits : List Size → List Numeral → Type 0
RowFits [] [] = Unit {0}
RowFits [] (n ∷ ns) = ⊥
RowFits (size ∷ sizes) [] = ⊥
RowFits (size ∷ sizes) (n ∷ ns) = Fits size n × RowFits sizes ns

-- the values fit their fields: each number its size, each list its count
abbrev pub FieldsFit : List RecordField → RecordCounts → List Value → Type 0
FieldsFit [] counts [] = Unit {0}
FieldsFit (Number size ∷ fs) counts (number n ∷ vs) = Fits size n × FieldsFit fs counts vs
FieldsFit (Count size of ∷ fs) counts (number (natural n) ∷ vs) = (n < 256 ^ size) × FieldsFit fs (counted of n counts) vs
FieldsFit (Rows of sizes ∷ fs) counts (rows rs ∷ vs) = (length rs ≡ count_of of counts) × AllByRecursion (RowFits sizes) rs × FieldsFit fs counts vs
FieldsFit (Bytes of ∷ fs) counts (bytes bs ∷ vs) = (length bs ≡ count_of of counts) × AllByRecursion (λ b. b < 256) bs × FieldsFit fs counts vs
FieldsFit (ScaleBytes ∷ fs) counts (number (natural n) ∷ vs) = (n < 256 ^ 4) × FieldsFit fs counts vs
FieldsFit (DecimalPlaces ∷ fs) counts (number (natural n) ∷ vs) = (n < 256 ^ 1) × FieldsFit fs counts vs
FieldsFit _ _ _ = ⊥

-- a value is allowed in its field: one of the four scales, and at most 7 decimals
abbrev pub IsProper : RecordField → Value → Type 0
IsProper ScaleBytes (number (natural n)) = IsScale n
IsProper DecimalPlaces (number (natural n)) = n ≤ 7
IsProper _ _ = Unit {0}

abbrev pub Proper : List RecordField → List Value → Type 0
Proper (f ∷ fs) (v ∷ vs) = IsProper f v × Proper fs vs
Proper _ _ = Unit {0}
