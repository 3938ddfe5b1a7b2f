-- The preview of an edit, and the rules by which it is worked out.
pub mod Rules
pub mod Preview
pub mod Inside
