pub mod Holdings
pub mod Shown
pub mod Slots
pub mod Helpers
