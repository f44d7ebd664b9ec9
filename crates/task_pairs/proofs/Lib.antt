pub mod PassedOver
pub mod Meetings
pub mod PairNumbers
