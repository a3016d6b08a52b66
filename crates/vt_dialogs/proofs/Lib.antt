pub mod RawValues
pub mod TypedDigits
