pub mod Waiting
pub mod Moves
pub mod Parser
pub mod Answers
