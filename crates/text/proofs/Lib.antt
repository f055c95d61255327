pub mod Growing
pub mod Values
pub mod Pairs
pub mod Back
pub mod Written
