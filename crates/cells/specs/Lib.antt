pub mod Kinds
pub mod Ranges
pub mod Levels
pub mod Totals
pub mod Marks
pub mod Shown
pub mod Sequences
