pub mod PutLaws
pub mod EndsLaws
pub mod CheckLaws
pub mod Trips
pub mod WriterVerdicts
