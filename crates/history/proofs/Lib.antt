pub mod Demand2
pub mod ListStep
pub mod ModelLaws
pub mod Spare
pub mod Steps
pub mod Theorem
