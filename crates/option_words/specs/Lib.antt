pub mod Options
pub mod Apps
