-- What only the contracts inside the library cite: no promise needs it.
pub mod Change
pub mod Renewal
pub mod Touched
