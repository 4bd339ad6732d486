pub mod Count
pub mod File
pub mod Run
pub mod Sizes
pub mod Step
pub mod Reduce
pub mod Compare
pub mod Widths
