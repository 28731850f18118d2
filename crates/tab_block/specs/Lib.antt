pub mod Rows
pub mod Lending
