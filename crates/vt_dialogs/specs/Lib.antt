-- Definitions cited by the contracts of vt_dialogs.
pub mod Limits
pub mod Texts
pub mod TypedNumbers
pub mod TypedTexts
