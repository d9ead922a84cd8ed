mod ByKind
mod BoundRests
mod Found
