-- A definition of each call on the state.
pub mod Clear
pub mod Score
pub mod Snapshot
pub mod Inside
