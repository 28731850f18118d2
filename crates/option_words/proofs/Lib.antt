pub mod Apps
mod Finds
mod Rows
mod WordForms
mod Walks
mod Readings
mod Takings
mod Whole
