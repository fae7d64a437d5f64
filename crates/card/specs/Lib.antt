pub mod Card
pub mod Demand1
pub mod Probe
