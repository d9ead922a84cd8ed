use borrow.Author.Rules.{rules}
use mathlib.Core.Path.{ap, ◌∙◌}
use Rattle.pattern_grammar.specs.Lexemes.{wide}
use Rattle.parsing_moves.specs.Rows.{over_in}
use Rattle.parsing_moves.proofs.starts.is_wide.Goals as goal

pub returns : goal.returns
unfolding wide
returns c = c.is_over.ensures ∙ ap (over_in _) c.integer_value.ensures
