pub mod Bodies
pub mod Fillings
pub mod AreaStates
pub mod Unfilled
pub mod StatesVerdicts
