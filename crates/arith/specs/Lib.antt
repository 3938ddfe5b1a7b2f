-- Numbers and lists, with nothing of graphs.
pub mod Digits
pub mod Divides
pub mod Lists
pub mod Rank
pub mod Sums
pub mod Inside
