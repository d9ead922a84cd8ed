pub mod TokenMoves
