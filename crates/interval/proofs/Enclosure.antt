pub mod Add
pub mod Neg
pub mod Max
pub mod Abs
pub mod Mul
pub mod Div
pub mod Sqrt
