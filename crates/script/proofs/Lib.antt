pub mod Examples
pub mod ReadingLaws
pub mod RecordLaws
