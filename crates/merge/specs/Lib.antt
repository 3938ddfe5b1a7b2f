-- The calls that reconcile mine with theirs, without pins and with them, and the call that shows their first conflict.
pub mod Reconcile
pub mod Single
pub mod Pinned
pub mod Lent
pub mod Alike
pub mod Conflict
pub mod KeptOnPurpose
pub mod Inside
