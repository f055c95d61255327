pub mod System
pub mod Letter
pub mod Moves
pub mod Promise
pub mod Lines
