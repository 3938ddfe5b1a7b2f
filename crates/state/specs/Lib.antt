-- The lent state and the refusals.
pub mod Sizes
pub mod Marks
pub mod State
pub mod Refusal
pub mod Answers
pub mod Outcome
pub mod Spare
pub mod Inside
