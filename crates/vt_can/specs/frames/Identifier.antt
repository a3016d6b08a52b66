-- The 29-bit identifier of a frame (ISO 11783-3; docs/PROFILE.md, "Identifiers").
use Rattle.std.specs.Prelude.{◌≡◌, ◌<◌, ℕ, ◌+◌, ◌*◌, ◌/◌, ◌%◌, ◌^◌, nat_lt, if◌then◌else◌, Option, Some, None}

-- The six numbers of an identifier, from its highest bits to its lowest.
pub record Parts : Type 0 where
  pub priority : ℕ
  pub extended_data_page : ℕ
  pub data_page : ℕ
  pub pdu_format : ℕ
  pub pdu_specific : ℕ
  pub source : ℕ

-- each of the six numbers fits its bits
pub record IsParts (p : Parts) : Type 0 where
  pub priority : p.priority < 2 ^ 3
  pub extended_data_page : p.extended_data_page < 2
  pub data_page : p.data_page < 2
  pub pdu_format : p.pdu_format < 2 ^ 8
  pub pdu_specific : p.pdu_specific < 2 ^ 8
  pub source : p.source < 2 ^ 8

-- the identifier as one number
abbrev pub raw_of : Parts → ℕ
raw_of p =
    p.priority * 2 ^ 26 + p.extended_data_page * 2 ^ 25 + p.data_page * 2 ^ 24 + p.pdu_format * 2 ^ 16
    + p.pdu_specific * 2 ^ 8 + p.source

-- the six numbers of an identifier
abbrev pub parts_of : ℕ → Parts
parts_of raw = record {
  priority = raw / 2 ^ 26 % 2 ^ 3;
  extended_data_page = raw / 2 ^ 25 % 2;
  data_page = raw / 2 ^ 24 % 2;
  pdu_format = raw / 2 ^ 16 % 2 ^ 8;
  pdu_specific = raw / 2 ^ 8 % 2 ^ 8;
  source = raw % 2 ^ 8;
}

-- The parameter group number. Its low byte is 0 for a PDU format below 240, which has a destination.
abbrev pub pgn_of : Parts → ℕ
pgn_of p =
    p.extended_data_page * 2 ^ 17 + p.data_page * 2 ^ 16 + p.pdu_format * 2 ^ 8
    + (if nat_lt p.pdu_format 240 then 0 else p.pdu_specific)

-- the destination address, for a PDU format below 240
abbrev pub destination_of : Parts → Option ℕ
destination_of p = if nat_lt p.pdu_format 240 then Some p.pdu_specific else None

-- a parameter group whose frames have a destination
pub record HasDestination (pgn : ℕ) : Type 0 where
  pub fits : pgn < 2 ^ 18
  pub format : pgn / 2 ^ 8 % 2 ^ 8 < 240
  pub no_destination : pgn % 2 ^ 8 ≡ 0

-- the six numbers of a frame with a destination
abbrev pub addressed : ℕ → ℕ → ℕ → ℕ → Parts
addressed priority pgn destination source = record {
  priority = priority;
  extended_data_page = pgn / 2 ^ 17;
  data_page = pgn / 2 ^ 16 % 2;
  pdu_format = pgn / 2 ^ 8 % 2 ^ 8;
  pdu_specific = destination;
  source = source;
}

-- The six numbers of an identifier and the identifier determine each other.
pub record PartsAreIdentifiers : Type 0 where
  pub parts_again : (p : Parts) → IsParts p → parts_of (raw_of p) ≡ p
  pub raw_again : (raw : ℕ) → raw < 2 ^ 29 → raw_of (parts_of raw) ≡ raw
  pub fits : (raw : ℕ) → IsParts (parts_of raw)
  pub small : (p : Parts) → IsParts p → raw_of p < 2 ^ 29
