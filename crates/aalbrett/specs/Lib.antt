pub mod Demand1
pub mod Host
pub mod Lent
