-- The bits of the error byte of a reply (docs/PROFILE.md, "Commands: form, tests, error byte and events").
use Rattle.std.specs.Prelude.{ℕ, ◌^◌}

-- the error byte with one bit
abbrev pub bit : ℕ → ℕ
bit n = 2 ^ n

-- the object or the parent is missing, or the command is not for its kind
abbrev pub OBJECT : ℕ
OBJECT = bit 0

-- the same in Hide/Show, Enable/Disable, Change String Value and Execute Macro
abbrev pub OBJECT_ID : ℕ
OBJECT_ID = bit 1

-- the child is missing
abbrev pub CHILD : ℕ
CHILD = bit 1

-- a value, a direction, a priority or a mask is not allowed
abbrev pub VALUE : ℕ
VALUE = bit 1

-- the list has no item at the index
abbrev pub INDEX : ℕ
INDEX = bit 1

-- the kind has no attribute of this number
abbrev pub ATTRIBUTE : ℕ
ATTRIBUTE = bit 1

-- the value of an attribute is not allowed
abbrev pub ATTRIBUTE_VALUE : ℕ
ATTRIBUTE_VALUE = bit 2

-- the item of a list is not allowed
abbrev pub ITEM : ℕ
ITEM = bit 2

-- the state is neither 0 nor 1
abbrev pub STATE : ℕ
STATE = bit 2

-- the text is longer than that of the object, or than the bytes of the command
abbrev pub LENGTH : ℕ
LENGTH = bit 2

-- the ID of the macro is above 255
abbrev pub MACRO_ID : ℕ
MACRO_ID = bit 2

-- the pattern of fill attributes is not allowed
abbrev pub PATTERN : ℕ
PATTERN = bit 3

-- a position leaves the range of a record, or the volume is above 100
abbrev pub OTHER : ℕ
OTHER = bit 4
