pub mod Quadruple
pub mod Third
pub mod Positive
