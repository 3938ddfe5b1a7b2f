pub mod AcceptLaws
pub mod MadeLaws
pub mod OutcomeLaws
pub mod RoundTrip
pub mod ScoreLaws
pub mod SnapshotLaws
pub mod Spare
pub mod SpareZero
