pub mod GivenLaws
pub mod StoreLaws
pub mod PutLaws
pub mod PageBytes
pub mod PageRecords
pub mod MakeLaws
