pub mod Lists
pub mod Dialled
pub mod Recorded
pub mod Empty
