pub mod Zeros
pub mod Begins
pub mod NoVariables
pub mod KnownAnswers
