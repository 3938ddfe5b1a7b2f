-- What the contracts of `script` cite.
pub mod Limits
pub mod Moves
pub mod Reading
pub mod Record
