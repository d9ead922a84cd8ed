use borrow.Author.Rules.{rules}
use mathlib.Core.Path.{refl}
use borrow.Author.Tests.{ne_eqb}
use Rattle.parsing_names.proofs.ByRole.{char_begins, char_of_bound, no_char}
use Rattle.parsing_names.proofs.scalar_move.Goals as goal

pub returns-in-0 : goal.returns-in-0
returns-in-0 c = λ text names to. char_begins text names _ _ _ _ _ _ to c.role_of.ensures c.in-0.is c.holds_literal.ensures

pub returns-in-3 : goal.returns-in-3
returns-in-3 c = λ text names to. char_of_bound text names _ _ _ _ _ _ to c.role_of.ensures _ c.in-3.is c.literal_row.ensures refl

pub returns-in_default : goal.returns-in_default
returns-in_default c = let w = c.in_default.in_default-own.rest in λ text names to. no_char text names _ _ _ _ _ _ to c.role_of.ensures (ne_eqb _ 0 w.0.1) (ne_eqb _ 3 w.1) refl
