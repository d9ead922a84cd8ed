use borrow.Author.Rules.{rules}
use native.Mathlib.Omega.{arith}
use Rattle.token_parsing.proofs.Reading.{token_ends, token_readable, token_room, token_parts, token_read}
use Rattle.token_parsing.proofs.read_token.Goals as goal

pub token_move-moved-requires : goal.token_move-moved-requires
token_move-moved-requires c = token_readable c.requires.0 c.requires.1 _ c.token_row-token.ensures

pub perform-step-requires : goal.perform-step-requires
perform-step-requires c = (token_room c.requires.0 c.requires.1 _ c.token_row-token.ensures c.top_kind-top.ensures c.token_move-moved.ensures, token_parts c.requires.0 c.requires.1 _ c.token_row-token.ensures c.top_kind-top.ensures c.token_move-moved.ensures)

pub overflow_cast-result : goal.overflow_cast-result
overflow_cast-result c = omega (arith, token_ends c.requires.0 c.requires.1 _ c.token_row-token.ensures)

pub returns : goal.returns
returns c = token_read c.requires.0 c.requires.1 _ c.token_row-token.ensures c.top_kind-top.ensures c.token_move-moved.ensures _ c.perform-step.ensures
