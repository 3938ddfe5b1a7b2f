-- What only the contracts inside the library cite: no promise needs it.
pub mod Numbers
pub mod Records
pub mod Until
