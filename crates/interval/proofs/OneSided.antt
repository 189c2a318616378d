pub mod Ends
pub mod Neg
pub mod Add
pub mod Mul
pub mod Max
pub mod Abs
pub mod Div
pub mod Sqrt
