-- What only the contracts inside the library cite: no promise needs it.
pub mod Layout
pub mod Next
pub mod Right
pub mod Turns
