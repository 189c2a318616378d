pub mod CStateLaws
pub mod ExportLaws
