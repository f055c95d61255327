pub mod Hex
pub mod Decimal
pub mod Growth
pub mod Returns
