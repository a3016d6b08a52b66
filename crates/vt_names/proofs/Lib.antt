pub mod AddressesAfterClaim
pub mod HoldersAfterClaims
pub mod IndexAfterClaim
pub mod LastRegistration
pub mod RegistryAfterChanges
pub mod SetsByAddress
