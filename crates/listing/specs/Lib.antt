-- The list over records.
pub mod Records
