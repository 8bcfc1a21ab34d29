-- What the contracts of the samples cite.
pub mod Draws
pub mod Tallies
pub mod Lists
