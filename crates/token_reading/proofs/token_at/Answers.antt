use Rattle.std.specs.Prelude.{Err}
use borrow.Author.Rules.{rules}
use mathlib.Core.Path.{sym, ◌∙◌}
use native.Mathlib.Omega.{arith}
use Rattle.pattern_tokens.proofs.Sizes.{token_end, token_broken, token_there, token_fits}
use Rattle.text_chars.proofs.Loops.{left}
use lib.ListN.{length-drop}
use Rattle.token_reading.proofs.token_at.Goals as goal

pub returns-then-text-from : goal.returns-then-text-from
returns-then-text-from c = sym (token_end c.args.text.now c.args.at c.in-Ok.from (sym c.start_of.ensures ∙ c.in-Ok.is) c.if-text-from.true)

pub piece_of-requires : goal.piece_of-requires
piece_of-requires c = rw (left c.args.text.now c.in-Ok.from) (omega (arith, length-drop c.in-Ok.from c.args.text.now, c.if-text-from.false))

pub place-requires : goal.place-requires
place-requires c = omega (arith, token_fits c.args.text.now c.in-Ok.from c.piece_of.result c.if-text-from.false c.piece_of.ensures)

pub returns-else-text-from : goal.returns-else-text-from
returns-else-text-from c = c.place.ensures ∙ sym (token_there c.args.text.now c.args.at c.in-Ok.from c.piece_of.result (sym c.start_of.ensures ∙ c.in-Ok.is) c.if-text-from.false c.piece_of.ensures)

pub returns-in-Err : goal.returns-in-Err
returns-in-Err c = sym (token_broken c.args.text.now c.args.at c.in-Err.from (sym c.start_of.ensures ∙ c.in-Err.is))
