use borrow.Author.Rules.{rules}
use mathlib.Core.Path.{ap, ◌∙◌}
use native.Mathlib.Omega.{arith}
use Prim.Native.Nat.{ℕ, ◌-◌}
use Rattle.row_tables.specs.Rows.{row_at}
use Rattle.draft_tables.specs.Layout.{type_of_words}
use Rattle.draft_types.proofs.Alike.{sheet_type, draft_type}
use Rattle.draft_types.proofs.type_from.Goals as goal

pub returns-then-t-tables : goal.returns-then-t-tables
returns-then-t-tables c = c.type_at.ensures ∙ sheet_type c.args.sheet.now c.args.draft.now c.args.t (omega (arith, c.requires.0.type_count_lem, c.if-t-tables.true))

pub returns : goal.returns
returns c = c.added_type.ensures ∙ ap (λ (k : ℕ). type_of_words (row_at 5 c.args.draft.now (c.args.t - k))) c.requires.0.type_count_lem ∙ draft_type c.args.sheet.now c.args.draft.now c.args.t (omega (arith, c.requires.0.type_count_lem, c.if-t-tables.false))
