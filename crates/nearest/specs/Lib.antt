-- The nearest listed post.
pub mod Paths
pub mod Nearest
pub mod NearestListed
pub mod Inside
