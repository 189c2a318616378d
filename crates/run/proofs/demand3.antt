-- The laws that serve demand 3 alone.
pub mod ExactLaws
pub mod ExactSums
pub mod Invariant
pub mod Endings
pub mod Iterate
pub mod Judgement
pub mod Decide
pub mod Corrected
pub mod Answered
pub mod Demand
pub mod Questions
