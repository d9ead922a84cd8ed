use borrow.Author.Rules.{rules}
use mathlib.Core.Path.{refl, sym, subst}
use Rattle.draft_tables.specs.Layout.{HoldsPattern}
use Rattle.draft_tables.proofs.Parts.{holds_pattern}
use Rattle.draft_tables.proofs.push_pattern.Goals as goal

pub returns : goal.returns
returns c = (refl, subst (HoldsPattern c.args.draft.now c.args.c c.args.row) (sym c.store_row.ensures) (holds_pattern c.args.draft.now c.requires.0 c.args.c c.requires.1.0 c.args.row c.requires.1.1))
