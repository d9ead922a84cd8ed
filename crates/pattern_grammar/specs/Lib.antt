pub mod Lexemes
pub mod Trees
pub mod Admitted
pub mod Machine
pub mod Parsed
