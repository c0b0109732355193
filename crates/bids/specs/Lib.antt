-- Definitions that the contracts of the private functions cite.
pub mod Steps
