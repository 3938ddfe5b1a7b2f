-- Ego networks and their scores, from the paths, and what the code's contracts cite.
pub mod Limits
pub mod Graph
pub mod Score
pub mod Bound
pub mod Change
pub mod Inside
