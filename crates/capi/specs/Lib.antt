pub use Rattle.listing.specs.Listing
pub use Rattle.rehearsal.specs.Rehearsal
pub mod Writing
pub mod Printing
