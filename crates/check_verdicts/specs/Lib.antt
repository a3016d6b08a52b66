-- Definitions cited by the contracts of check_verdicts.
pub mod Findings
pub mod Texts
pub mod Verdicts
