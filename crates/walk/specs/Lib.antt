pub mod Access
pub mod Answers
pub mod Demand2
pub mod Descent
pub mod Path
pub mod Print
pub mod Translate
pub mod Walk
