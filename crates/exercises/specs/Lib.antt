pub mod Exercises
