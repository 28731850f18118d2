pub mod Closer
pub mod Better
pub mod Seen
pub mod Plans
pub mod Starts
