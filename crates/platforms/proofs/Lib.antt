pub mod Setting
pub mod Input
pub mod Answering
