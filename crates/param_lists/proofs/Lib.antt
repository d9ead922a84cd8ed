pub mod Listing
mod Looking
mod Apart
