pub mod Masses
pub mod Rising
