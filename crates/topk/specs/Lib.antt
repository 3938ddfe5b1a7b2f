-- The list call, step by step, and what it comes to where the figures are honest.
pub mod Entries
pub mod Steps
pub mod List
pub mod Ranking
pub mod Inside
