pub mod Text
pub mod Numbers
pub mod Sheet
pub mod Rows
pub mod Lines
pub mod Settling
