-- Definitions cited by the contracts of vt_judge.
pub mod Judgements
