-- 01's cases that are marked P, and what demand 3 excludes.
pub mod Cases
pub mod Wrong
