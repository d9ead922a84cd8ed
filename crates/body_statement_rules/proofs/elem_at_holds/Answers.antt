use borrow.Author.Rules.{rules}
use Rattle.mir.specs.Statements.{statement_width}
use mathlib.Core.Path.{ap, ◌∙◌}
use Prim.Native.Nat.{◌+◌, ◌*◌}
use native.Mathlib.Omega.{arith}
use Rattle.place.specs.Elems.{elem_of}
use Rattle.body_row_rules.specs.Bodies.{elem_holds, elem_at_holds}
use Rattle.body_row_rules.proofs.RowWords.{elem_word}
use Rattle.body_statement_rules.proofs.elem_at_holds.Goals as goal

pub overflow_cast-word : goal.overflow_cast-word
overflow_cast-word c = omega (arith, c.shared_slice_known-1.given (statement_width * c.args.i + 17 + 2 * c.args.j))

pub overflow_cast-word-2 : goal.overflow_cast-word-2
overflow_cast-word-2 c = omega (arith, c.shared_slice_known-1.given (statement_width * c.args.i + 17 + 2 * c.args.j + 1))

pub overflow_mul-word : goal.overflow_mul-word
overflow_mul-word c = omega (arith, c.shared_slice_known-1.given (statement_width * c.args.i + 17 + 2 * c.args.j + 1))

pub overflow_add-word-2 : goal.overflow_add-word-2
overflow_add-word-2 c = omega (arith, c.shared_slice_known-1.given (statement_width * c.args.i + 17 + 2 * c.args.j), c.shared_slice_known-1.given (statement_width * c.args.i + 17 + 2 * c.args.j + 1))

pub returns : goal.returns
unfolding elem_at_holds
returns c = c.elem_holds.ensures ∙ ap (elem_holds c.args.variants) (c.elem_of.ensures ∙ ap elem_of (elem_word c.args.statements.now c.args.i c.args.j))
