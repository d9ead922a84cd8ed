use borrow.Author.Rules.{rules}
use borrow.Author.Tests.{ne_eqb}
use Rattle.token_moves.proofs.Moving.{scalar_read}
use Rattle.token_copying.proofs.token_move.Goals as goal

pub returns-then-sort-eq1 : goal.returns-then-sort-eq1
returns-then-sort-eq1 c =
    let s = c.args in
    scalar_read s.text.now s.names.now s.named s.state s.held s.top s.token c.requires c.if-sort-eq1.true _ c.scalar_move-made.ensures

pub mark_token-requires : goal.mark_token-requires
mark_token-requires c = (c.requires, (ne_eqb _ 0 c.if-sort-eq0.false, ne_eqb _ 1 c.if-sort-eq1.false))
