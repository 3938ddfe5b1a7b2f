pub mod RecordLaws
pub mod Spare
