-- What only the contracts inside the library cite: no promise needs it.
pub mod Bitwise
pub mod Pairs
pub mod Steps
pub mod Walk
