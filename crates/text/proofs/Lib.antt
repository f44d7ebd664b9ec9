pub mod PutLaws
pub mod TextLaws
mod Printed
