pub mod Promises
pub mod Watching
pub mod Example
