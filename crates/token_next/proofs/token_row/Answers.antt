use borrow.Author.Rules.{rules}
use native.Mathlib.Omega.{arith}
use Rattle.token_next.proofs.Wording.{from_word, to_word, own_word, row_is}
use Rattle.token_next.proofs.token_row.Goals as goal

pub overflow_cast-from : goal.overflow_cast-from
overflow_cast-from c = let w = from_word _ _ _ (omega arith) (omega arith) c.token_from-token.ensures in omega (arith, w)

pub overflow_cast-to : goal.overflow_cast-to
overflow_cast-to c = let w = to_word _ _ _ (omega arith) (omega arith) c.token_from-token.ensures in omega (arith, w)

pub row_of-requires : goal.row_of-requires
row_of-requires c = own_word _ _ _ (omega arith) (omega arith) c.token_from-token.ensures

pub returns : goal.returns
returns c = row_is _ _ _ (omega arith) (omega arith) c.token_from-token.ensures _ c.row_of.ensures
