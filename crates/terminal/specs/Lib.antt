pub mod Ears
pub mod Stops
pub mod Buses
pub mod Serves
pub mod Transcripts
pub mod Calls
pub mod Laws
