pub mod Feeding
pub mod Chains
pub mod Gather
pub mod Counting
pub mod Limits
pub mod Joins
pub mod Piles
