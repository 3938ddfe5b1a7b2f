-- Surveys: which record counts for a pair, the two calls on them, and what the record that counts is.
pub mod Survey
pub mod Sheet
pub mod Position
pub mod Latest
pub mod Changes
pub mod Inside
