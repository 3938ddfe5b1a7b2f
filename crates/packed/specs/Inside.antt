-- What only the contracts inside the library cite: no promise needs it.
pub mod Bytes
pub mod Degrees
pub mod Room
pub mod Rows
pub mod Runs
pub mod Search
pub mod Windows
