-- What the contracts of `packed` cite.
pub mod Bits
pub mod Edges
pub mod Pairs
pub mod Inside
