pub mod Looks
pub mod Outs
pub mod Played
pub mod Loads
pub mod Settles
pub mod Worked
