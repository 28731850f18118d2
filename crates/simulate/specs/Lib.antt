pub mod Choices
pub mod Plays
pub mod Lengths
pub mod DrawnPlays
