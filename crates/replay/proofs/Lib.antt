-- The laws behind `replay`.
pub mod DigitLaws
pub mod ReadLaws
