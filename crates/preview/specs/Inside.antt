-- What only the contracts inside the library cite: no promise needs it.
pub mod ByWords
pub mod Call
pub mod Effect
pub mod Ends
