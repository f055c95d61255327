pub mod Above
pub mod Bytes
pub mod Network
pub mod Promise
