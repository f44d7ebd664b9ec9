pub mod SheetLaws
pub mod OwnPath
pub mod PointLaws
pub mod CheckLaws
