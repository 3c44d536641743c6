pub mod Rows
pub mod SerialLaws
pub mod CellLaws
pub mod FrontLaws
pub mod AlongLaws
pub mod KeyLaws
pub mod StoredLaws
pub mod EndsLaws
