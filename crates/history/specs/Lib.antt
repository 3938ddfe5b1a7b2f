-- Demand 2; the plain model (01's book) of a history of calls and demand 3 about it; and spare bits in a history.
pub mod Demand2
pub mod Model
pub mod History
pub mod Spare
