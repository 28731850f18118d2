pub mod ThreePoints
pub mod SeedsServe
