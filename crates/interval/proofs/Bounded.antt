pub mod Power
pub mod Ends
pub mod Compare
pub mod Sum
pub mod Product
pub mod Quotient
pub mod Roots
