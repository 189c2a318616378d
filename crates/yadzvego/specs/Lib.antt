pub mod CState
pub mod Events
pub mod Exports
pub mod ScalarResult
pub mod SpellResult
pub mod Written
