pub mod WriteLaws
pub mod ClearLaws
pub mod FreshLaws
pub mod PartingLaws
pub mod TableLaws
pub mod GrowLaws
