pub mod PrintedLaws
pub mod ScanLaws
pub mod WholeText
