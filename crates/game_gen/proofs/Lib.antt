pub mod Drawing
pub mod Places
pub mod LastRows
pub mod Ones
pub mod Games
pub mod Weights
