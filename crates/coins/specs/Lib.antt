pub mod Limits
pub mod Nodes
pub mod Refusals
pub mod Mails
pub mod Letters
pub mod Filled
pub mod Works
pub mod Parcels
