-- Schedules (02's timed sheets): what they mean, the three calls on them, and what the next change is.
pub mod Schedule
pub mod Sheet
pub mod Change
pub mod FirstChange
pub mod Inside
