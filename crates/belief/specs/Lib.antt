pub mod Mixes
pub mod Beliefs
pub mod Masses
pub mod Reduced
pub mod Quotients
pub mod Sure
pub mod After
pub mod Laws
