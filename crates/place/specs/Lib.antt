pub mod Elems
pub mod Places
pub mod PlaceTypes
