mod Parts
mod Drawing
mod Taking
mod Marks
mod Joining
mod Regroup
mod Turns
mod Once
mod Counted
mod Drained
mod Walks
mod Chaining
mod Places
mod Moving
pub mod Rejoined
pub mod Piles
