pub mod Order
pub mod Fits
pub mod Decisions
