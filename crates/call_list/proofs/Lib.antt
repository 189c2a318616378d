pub mod CallLaws
pub mod FoldLaws
pub mod DemandLaws
pub mod EveryLaws
