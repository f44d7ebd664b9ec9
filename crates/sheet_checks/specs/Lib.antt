pub mod SheetChecks
