mod Chains
pub mod Loading
