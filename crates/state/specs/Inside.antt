-- What only the contracts inside the library cite: no promise needs it.
pub mod Bounds
pub mod Earlier
pub mod Honest
pub mod MaxSizes
