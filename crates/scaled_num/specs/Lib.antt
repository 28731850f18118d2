pub mod Sums
pub mod Printed
pub mod Share
pub mod Laws
pub mod First
