pub mod Filling
pub mod Tests
