-- What the contracts of `replay` cite.
pub mod Limits
pub mod Lines
