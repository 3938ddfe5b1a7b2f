-- What the port answers as one number.
pub mod Port
