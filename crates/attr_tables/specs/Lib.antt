pub mod Layout
pub mod RawRows
pub mod RecordLaws
pub mod Records
pub mod TableLaws
pub mod Tables
