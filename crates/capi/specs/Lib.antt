-- Figures as bytes, and a definition of each call that C makes.
pub mod Figures
pub mod Calls
pub mod Inside
