pub mod Rows
pub mod Generated
