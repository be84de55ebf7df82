mod Fronts
mod Splits
mod Near
mod Sizes
mod Leading
pub mod Rows
mod Options
mod Quoted
mod Ranges
mod Gaps
mod Spelled
mod Cases
mod Written
mod Meant
mod Clean
mod Tidy
mod Flows
