pub mod Cards
pub mod Demand1
pub mod Probing
