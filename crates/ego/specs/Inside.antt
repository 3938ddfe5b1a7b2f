-- What only the contracts inside the library cite: no promise needs it.
pub mod Derived
pub mod Gains
pub mod Linked
pub mod Words
