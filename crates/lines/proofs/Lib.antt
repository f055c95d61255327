pub mod Pairs
pub mod Line
pub mod Fine
pub mod Promise
pub mod Through
pub mod Slots
pub mod Fitting
pub mod Resends
