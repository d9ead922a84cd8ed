use Rattle.std.specs.Prelude.{Some, None}
use borrow.Author.Rules.{rules}
use mathlib.Core.Path.{sym, ◌∙◌}
use Rattle.pattern_tokens.specs.Literals.{char_piece}
use Rattle.text_chars.proofs.Loops.{left}
use Rattle.char_tokens.proofs.char_piece.Goals as goal

pub returns-in-Some : goal.returns-in-Some
unfolding char_piece
returns-in-Some c = simp (rw (left c.args.bytes.now 1) at (sym c.char_of.ensures) ∙ c.in-Some.is) c.closed_char.ensures

pub returns-in-None : goal.returns-in-None
unfolding char_piece
returns-in-None c = simp (rw (left c.args.bytes.now 1) at (sym c.char_of.ensures) ∙ c.in-None.is)
