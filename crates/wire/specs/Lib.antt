pub mod Numbers
pub mod Messages
pub mod Rules
pub mod Bytes
pub mod Frames
pub mod Theorems
