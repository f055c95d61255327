pub mod Receipts
pub mod Arrivals
pub mod BossSteps
pub mod HelperSteps
pub mod Viewed
