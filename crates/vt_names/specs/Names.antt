-- The fields of a NAME (ISO 11783-5; docs/PROFILE.md, "The NAME").
use Rattle.std.specs.Prelude.{◌≡◌, ◌<◌, ℕ, ◌+◌, ◌*◌, ◌/◌, ◌%◌, ◌^◌}

-- The ten numbers of a NAME, from its lowest bits to its highest.
pub record Fields : Type 0 where
  pub identity : ℕ
  pub manufacturer : ℕ
  pub ecu_instance : ℕ
  pub function_instance : ℕ
  pub function : ℕ
  pub reserved : ℕ
  pub device_class : ℕ
  pub device_class_instance : ℕ
  pub industry_group : ℕ
  pub self_configurable : ℕ

-- each of the ten numbers fits its bits
pub record AreFields (f : Fields) : Type 0 where
  pub identity : f.identity < 2 ^ 21
  pub manufacturer : f.manufacturer < 2 ^ 11
  pub ecu_instance : f.ecu_instance < 2 ^ 3
  pub function_instance : f.function_instance < 2 ^ 5
  pub function : f.function < 2 ^ 8
  pub reserved : f.reserved < 2
  pub device_class : f.device_class < 2 ^ 7
  pub device_class_instance : f.device_class_instance < 2 ^ 4
  pub industry_group : f.industry_group < 2 ^ 3
  pub self_configurable : f.self_configurable < 2

-- the NAME as one number
abbrev pub raw_of : Fields → ℕ
raw_of f =
    f.identity + f.manufacturer * 2 ^ 21 + f.ecu_instance * 2 ^ 32 + f.function_instance * 2 ^ 35
    + f.function * 2 ^ 40 + f.reserved * 2 ^ 48 + f.device_class * 2 ^ 49
    + f.device_class_instance * 2 ^ 56 + f.industry_group * 2 ^ 60 + f.self_configurable * 2 ^ 63

-- the ten numbers of a NAME
abbrev pub name_fields : ℕ → Fields
name_fields raw = record {
  identity = raw % 2 ^ 21;
  manufacturer = raw / 2 ^ 21 % 2 ^ 11;
  ecu_instance = raw / 2 ^ 32 % 2 ^ 3;
  function_instance = raw / 2 ^ 35 % 2 ^ 5;
  function = raw / 2 ^ 40 % 2 ^ 8;
  reserved = raw / 2 ^ 48 % 2;
  device_class = raw / 2 ^ 49 % 2 ^ 7;
  device_class_instance = raw / 2 ^ 56 % 2 ^ 4;
  industry_group = raw / 2 ^ 60 % 2 ^ 3;
  self_configurable = raw / 2 ^ 63 % 2;
}

-- The ten numbers of a NAME and the NAME determine each other.
pub record FieldsAreNames : Type 0 where
  pub fields_again : (f : Fields) → AreFields f → name_fields (raw_of f) ≡ f
  pub raw_again : (raw : ℕ) → raw < 2 ^ 64 → raw_of (name_fields raw) ≡ raw
  pub fit : (raw : ℕ) → AreFields (name_fields raw)
  pub small : (f : Fields) → AreFields f → raw_of f < 2 ^ 64
