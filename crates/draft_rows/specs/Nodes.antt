-- A row's step and a node's: what is added, and what is taken from the stack and put there. Assumes nothing: these are definitions.
use Rattle.std.specs.Prelude.{ℕ, List}
use Rattle.image.specs.declared.rows.PatRow.{PatRow}
use Rattle.pattern_typing.specs.Making.{Making}
use Rattle.pattern_typing.specs.Closed.{closed_making}
use Rattle.pattern_images.specs.Emitting.{with_pattern}
use Rattle.draft_stack.specs.Stack.{Stacked, stacked_on, emit_one}

-- a pattern and its number
abbrev pub row_step : PatRow → List ℕ → List ℕ → Stacked → Stacked
row_step row sheet names s = stacked_on s.stack (with_pattern sheet row s.draft)

-- a node of so many parts, whose words are the last of the stack
abbrev pub node_step : Making → ℕ → List ℕ → List ℕ → Stacked → Stacked
node_step making many sheet names s = emit_one sheet (closed_making making many) s.stack s.draft
