-- Add and remove, and the nodes that they touch.
pub mod Edit
pub mod Inside
