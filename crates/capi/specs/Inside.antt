-- What only the contracts inside the library cite: no promise needs it.
pub mod Writing
